-- Every width, null and count rule of document 01's table, by one test that is computed over all bytes.
use mathlib.Core.Path.{◌≡◌, refl, sym, ap, ◌∙◌}
use mathlib.Core.Bool.{Bool, true, false, not, ◌&&◌, beq, false≢true}
use mathlib.Core.List.{List, [], ◌∷◌}
use mathlib.Core.Logic.{◌↔◌}
use Prim.Native.Nat.{ℕ, zero, suc, pred, ◌≤◌, ◌<◌}
use native.Mathlib.Omega.{arith}
use lib.IntN.{ℤ, pos, negsuc}
use lib.Dec.{eqb, eqb-suc-zero}
use Rattle.std.proofs.lemmas.Bool.Decides.{nat_tests}
use borrow.Author.Tests.{eqb-true, eq-eqb, leb-true, le-leb, not-false}
use Rattle.laws.specs.Lowest.{lowest}
use Rattle.laws.proofs.LowestLaws.{bool_cases, lowest-zero}
use Rattle.laws.proofs.TestLaws.{clash}
use Rattle.std.specs.Prelude.{Some, None}
use Rattle.field.specs.Fields.{Lookup, letter_of, width_of, star_of, null_of, types, find, type_of, in_range, count_right, most_count}
use Rattle.field.specs.Table.{Count, number_or_star, one, Row, table, element_width, star_allowed, RightCount, Agrees, Entry, listed, unlisted, entry_in, Right}
use Rattle.field.specs.declared.FieldType.{FieldType}
use Rattle.field.specs.declared.FieldType.TheVariants.{Text, Latin, Float, Double, Short, Integer, ShortPair, ShortTriple, DoublePair}
use Rattle.field.specs.declared.FieldType.TheVariants.{DoubleTriple, Date, NullField, Triplet}
use Rattle.field.specs.declared.NullValue.{NullValue}
use Rattle.field.specs.declared.NullValue.TheVariants.{Nothing, Number, NotANumber}

-- ---- the test of a row, and what it shows

abbrev same_int : ℤ → ℤ → Bool
same_int (pos a) (pos b) = eqb a b
same_int (pos a) (negsuc b) = false
same_int (negsuc a) (pos b) = false
same_int (negsuc a) (negsuc b) = eqb a b

abbrev same_null : NullValue → NullValue → Bool
same_null Nothing Nothing = true
same_null Nothing (Number b) = false
same_null Nothing NotANumber = false
same_null (Number a) Nothing = false
same_null (Number a) (Number b) = same_int a b
same_null (Number a) NotANumber = false
same_null NotANumber Nothing = false
same_null NotANumber (Number b) = false
same_null NotANumber NotANumber = true

abbrev agree : Row → FieldType → Bool
agree r t = eqb (letter_of t) r.letter && eqb (width_of t) (element_width r.bytes) && beq (star_of t)
    (star_allowed r.count) && same_null (null_of t) r.null

abbrev right : Entry → Lookup → Bool
right (listed r) (Some t) = agree r t
right (listed r) None = false
right unlisted (Some t) = false
right unlisted None = true

never : {C : Type 0} → false ≡ true → C
never e = absurd (false≢true e)

same_bool : (a b : Bool) → beq a b ≡ true → a ≡ b
same_bool true true h = refl
same_bool true false h = never h
same_bool false true h = never h
same_bool false false h = refl

same_int_lem : (a b : ℤ) → same_int a b ≡ true → a ≡ b
same_int_lem (pos a) (pos b) h = ap (λ (n : ℕ). pos n) (eqb-true a b h)
same_int_lem (pos a) (negsuc b) h = never h
same_int_lem (negsuc a) (pos b) h = never h
same_int_lem (negsuc a) (negsuc b) h = ap (λ (n : ℕ). negsuc n) (eqb-true a b h)

same_null_lem : (a b : NullValue) → same_null a b ≡ true → a ≡ b
same_null_lem Nothing Nothing h = refl
same_null_lem Nothing (Number b) h = never h
same_null_lem Nothing NotANumber h = never h
same_null_lem (Number a) Nothing h = never h
same_null_lem (Number a) (Number b) h = ap (λ (n : ℤ). Number n) (same_int_lem a b h)
same_null_lem (Number a) NotANumber h = never h
same_null_lem NotANumber Nothing h = never h
same_null_lem NotANumber (Number b) h = never h
same_null_lem NotANumber NotANumber h = refl

in_range_lem : (n : ℕ) → (in_range n ≡ true) ↔ ((1 ≤ n) × (n ≤ most_count))
in_range_lem zero = ((λ e. never e), (λ h. let z : ⊥ = omega (arith, h.0) in absurd z))
in_range_lem (suc n) = rw (eqb-suc-zero n) ((λ e. (omega arith, leb-true (suc n) most_count e)), (λ h. le-leb (suc n) most_count h.1))

-- where a type allows a star as the column "Count" does, its right counts are the column's
counts_by : (t : FieldType) (c : Count) → star_of t ≡ star_allowed c → (star : Bool) (n : ℕ) → (count_right t star n ≡ true) ↔ RightCount c star n
unfolding count_right
counts_by t number_or_star e true n = ((λ h. tt), (λ h. e))
counts_by t number_or_star e false n = rw e (in_range_lem n)
counts_by t one e true n = rw e ((λ h. false≢true h), (λ h. absurd h))
counts_by t one e false n = rw e (eqb-true n 1, eq-eqb n 1)

agrees : (r : Row) (t : FieldType) → agree r t ≡ true → Agrees r t
agrees r t h = record {
  letter = grind (arith, nat_tests, h);
  width = grind (arith, nat_tests, h);
  star = grind (arith, nat_tests, same_bool, h);
  null = grind (arith, same_null_lem, h);
  counts = counts_by t r.count (grind (arith, same_bool, h));
}

shows : (x : Entry) (y : Lookup) → right x y ≡ true → Right x y
shows (listed r) (Some t) h = agrees r t h
shows (listed r) None h = never h
shows unlisted (Some t) h = never h
shows unlisted None h = tt

-- ---- the computed table

-- the test at each of the 256 bytes, counted from 1
abbrev wrong : ℕ → Bool
wrong k = not (right (entry_in (pred k) table) (type_of (pred k)))

none_wrong : lowest wrong 256 ≡ 0
unfolding type_of
none_wrong = refl

-- At every byte the functions' definitions say what the table says: letter, width, null, star and right counts of a listed one,
-- and that any other is unlisted.
pub table_rule : (b : ℕ) → b < 256 → Right (entry_in b table) (type_of b)
table_rule b h =
    shows (entry_in b table) (type_of b)
    (not-false (right (entry_in b table) (type_of b)) ((lowest-zero wrong 256 none_wrong).fails (suc b) (omega arith) (omega arith)))

-- every type is the one of its letter
pub type_of-letter : (t : FieldType) → type_of (letter_of t) ≡ Some t
unfolding type_of
type_of-letter Text = refl
type_of-letter Latin = refl
type_of-letter Float = refl
type_of-letter Double = refl
type_of-letter Short = refl
type_of-letter Integer = refl
type_of-letter ShortPair = refl
type_of-letter ShortTriple = refl
type_of-letter DoublePair = refl
type_of-letter DoubleTriple = refl
type_of-letter Date = refl
type_of-letter NullField = refl
type_of-letter Triplet = refl

-- and a type that a letter has, has the letter
letter_found : (b : ℕ) (ts : List FieldType) (t : FieldType) → find b ts ≡ Some t → letter_of t ≡ b
letter_found b [] t e = clash (cc)
letter_found b (u ∷ ts) t e =
    bool_cases (eqb b (letter_of u))
    (λ c. let w = rw c at e in let s : u ≡ t = cc in ap letter_of (sym s) ∙ sym (eqb-true b (letter_of u) c))
    (λ c. letter_found b ts t (rw c at e))

pub letter_of_type : (b : ℕ) (t : FieldType) → type_of b ≡ Some t → letter_of t ≡ b
unfolding type_of
letter_of_type b t e = letter_found b types t e
