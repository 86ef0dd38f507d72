-- What one pass over the definitions keeps, and the tests that go by it.
use mathlib.Core.Path.{◌≡◌, refl, sym, ap, ◌∙◌}
use mathlib.Core.Logic.{⊎_elim}
use mathlib.Core.Bool.{Bool, true, false, cond, not, ◌&&◌, ◌||◌, false≢true}
use mathlib.Core.List.{List, ◌++◌}
use Prim.Native.Nat.{ℕ, zero, suc, pred, ◌+◌, ◌-◌, ◌≤◌, ◌<◌}
use native.Mathlib.Omega.{arith}
use native.Mathlib.Numerals.{add-one}
use borrow.Author.Tests.{ne_eqb, leb-true, eqb-true, not-false}
use lib.Dec.{eqb, ltb}
use lib.ListN.{get_or, set, replicate}
use Rattle.laws.specs.Lowest.{lowest, None}
use Rattle.laws.specs.Buffer.{one_to}
use Rattle.laws.proofs.LowestLaws.{bool_cases, lowest_ext, lowest_cases, lowest-pos, lowest_is, lowest-zero, lowest_found, lowest_nothing}
use Rattle.laws.proofs.BufferLaws.{one_to_next, get_or-one_to}
use Rattle.laws.proofs.TestLaws.{clash}
use Rattle.limits.specs.Limits.{most_columns}
use Rattle.refusal.specs.Order.{refusal, refused_if, refuses, located, at_row, lowest_of}
use Rattle.refusal.proofs.OrderLaws.{located-zero, located-at}
use Rattle.std.specs.Prelude.{Option, Some, None as Nothing, Result, Ok, Err}
use Rattle.field.specs.declared.FieldType.{FieldType}
use Rattle.refusal.specs.declared.Refusal.{Refusal}
use Rattle.field.specs.Fields.{type_of, star_of, is_integer, most_count, in_range, count_right}
use Rattle.field.proofs.TableRule.{letter_of_type}
use Rattle.header.specs.declared.Definition.{Definition}
use Rattle.header.specs.declared.ColumnLayout.{ColumnLayout}
use Rattle.header.specs.declared.Kept.{Kept}
use Rattle.header.specs.Places.{definition, first_place, place_after, column}
use Rattle.header.specs.declared.NameSpan.{NameSpan}
use Rattle.header.specs.Names.{span_of, no_span, names_of}
use Rattle.header.specs.Judge.{key_p, key_listed, sound_as, sound, column_refusal, id_sound, other_key_p, id_column, id_wrong}
use Rattle.header.specs.Layouts.{kind_of, count_kept, some_varies, bytes_of_all, column_layout, blank_column, laid_out, row_width}
use Rattle.header.specs.Serving.Stages.{unsound, kept_of, gathered_as, gathered_of, id_laid, other_key_in, id_wrong_at, id_wrong_in}
use Rattle.header.proofs.PlaceLaws.{is_column}

-- ---- a sound definition
never : {C : Type 0} → false ≡ true → C
never e = absurd (false≢true e)

listed_key : (a b : Bool) → cond a b false ≡ true → b ≡ true
listed_key true b e = e
listed_key false b e = never e

-- its count, where it is a number, is at most 65,535
count_small : (n : ℕ) (many : Bool) → cond many (in_range n) (eqb n 1) ≡ true → n ≤ most_count
count_small n true e = bool_cases (eqb n 0) (λ t. let z = eqb-true n 0 t in omega (arith, z)) (λ t. leb-true n most_count (rw t at e))
count_small n false e = let z = eqb-true n 1 e in omega (arith, z)

count_as : (l : Option FieldType) (d : Definition) → sound_as l d ≡ true → d.star ≡ false → d.count ≤ most_count
unfolding count_right
count_as (Some t) d e f = count_small d.count (star_of t) (rw f at (listed_key (key_listed d.key) _ e))
count_as Nothing d e f = never e

pub count-sound : (d : Definition) → sound d ≡ true → d.star ≡ false → d.count ≤ most_count
unfolding sound
count-sound d e f = count_as (type_of d.kind) d e f

-- its letter is that of its type
letter_as : (b : ℕ) (l : Option FieldType) (d : Definition) → type_of b ≡ l → sound_as l d ≡ true → is_integer (kind_of l) ≡ eqb b 73
letter_as b (Some t) d q e = rw (letter_of_type b t q)
letter_as b Nothing d q e = never e

integer_sound : (d : Definition) → sound d ≡ true → is_integer (kind_of (type_of d.kind)) ≡ eqb d.kind 73
unfolding sound
integer_sound d e = letter_as d.kind (type_of d.kind) d refl e

-- ---- one definition more: `at` is the place after k definitions, d the definition read there
module _ (s : List ℕ) (k at : ℕ) (d : Definition) (e : at ≡ place_after s k) (q : d ≡ definition s at) where
  pub unsound_next : (b : Bool) → b ≡ sound d → unsound s (suc k) ≡ not b
  unsound_next b h = sym (ap not h ∙ ap (λ (x : Definition). not (sound x)) (is_column s k at d e q))

  module _ (h : k < most_columns) where
    pub spans_next : (l : List NameSpan) → l ≡ one_to (span_of s) k ++ replicate (most_columns - k) no_span
        → set l k (record { start = d.name.start; end = d.name.end }) ≡ one_to (span_of s) (k + 1) ++ replicate (most_columns - (k + 1)) no_span
    spans_next l p = one_to_next (span_of s) l most_columns k no_span _ h p
        (ap (λ (x : Definition). record { start = x.name.start; end = x.name.end }) (is_column s k at d e q))

    pub keys_next : (l : List ℕ) → l ≡ one_to (λ j. (column s j).key) k ++ replicate (most_columns - k) 0
        → set l k d.key ≡ one_to (λ j. (column s j).key) (k + 1) ++ replicate (most_columns - (k + 1)) 0
    keys_next l p = one_to_next (λ j. (column s j).key) l most_columns k 0 _ h p (ap (λ (x : Definition). x.key) (is_column s k at d e q))

-- ---- the pass ends at a wrong column, or after the last
pub gathered_wrong : (s : List ℕ) (n k : ℕ) → k < n → None (unsound s) k → unsound s (suc k) ≡ true
    → (r : Refusal) → r ≡ refusal 4 (k + 1) → Err r ≡ gathered_of s n
unfolding gathered_of
gathered_wrong s n k l h t r e = rw (lowest_found (unsound s) n k l h t, e, add-one k)

module _ (s : List ℕ) (k : ℕ) (spans : List NameSpan) (keys : List ℕ) (cols : List ColumnLayout) (bytes width first at : ℕ) (varying : Bool)
    (S : spans ≡ one_to (span_of s) k ++ replicate (most_columns - k) no_span)
    (K : keys ≡ one_to (λ j. (column s j).key) k ++ replicate (most_columns - k) 0)
    (C : cols ≡ laid_out s k ++ replicate (most_columns - k) blank_column)
    (B : bytes ≡ bytes_of_all s k) (Y : varying ≡ some_varies s k) (W : width ≡ cond varying 0 bytes)
    (F : first ≡ first_place s) (A : at ≡ place_after s k) where
  all_kept : record { names = record { spans = spans }; keys = keys; cols = cols; width = width; first = first; after = at } ≡ kept_of s k
  unfolding kept_of names_of row_width
  all_kept =
      (λ t. record {
        names = record { spans = S t };
        keys = K t;
        cols = C t;
        width = (W ∙ (λ u. cond (Y u) 0 (B u))) t;
        first = F t;
        after = A t;
      })

  pub gathered_all : (n : ℕ) → k ≡ n → None (unsound s) k
      → Ok (record { names = record { spans = spans }; keys = keys; cols = cols; width = width; first = first; after = at }) ≡ gathered_of s n
  unfolding gathered_of
  gathered_all n q h = rw (← q, lowest_nothing (unsound s) k h) (ap Ok all_kept)

-- ---- what was gathered tells the lowest wrong column, or what is kept where there is none
wrong_as : (s : List ℕ) (n k : ℕ) (r : Refusal) → gathered_as s n k ≡ Err r → (r ≡ refusal 4 k) × (k ≡ 0 → ⊥)
wrong_as s n zero r h = clash (cc)
wrong_as s n (suc k) r h = (cc, λ z. omega (arith, z))

kept_as : (s : List ℕ) (n k : ℕ) (kept : Kept) → gathered_as s n k ≡ Ok kept → (k ≡ 0) × (kept ≡ kept_of s n)
kept_as s n zero kept h = (refl, cc)
kept_as s n (suc k) kept h = clash (cc)

module _ (s : List ℕ) (m : ℕ) (got : Result Kept Refusal) (e : got ≡ gathered_of s m) where
  pub wrong_is : (r : Refusal) → got ≡ Err r → (r ≡ refusal 4 (lowest (unsound s) m)) × (lowest (unsound s) m ≡ 0 → ⊥)
  unfolding gathered_of
  wrong_is r h = wrong_as s m (lowest (unsound s) m) r (sym e ∙ h)

  pub kept_is : (kept : Kept) → got ≡ Ok kept → (lowest (unsound s) m ≡ 0) × (kept ≡ kept_of s m)
  unfolding gathered_of
  kept_is kept h = kept_as s m (lowest (unsound s) m) kept (sym e ∙ h)

-- and it is the lowest of more columns as well
pub wrong_of_more : (s : List ℕ) (m n : ℕ) → m ≤ n → (lowest (unsound s) m ≡ 0 → ⊥) → lowest (unsound s) n ≡ lowest (unsound s) m
wrong_of_more s m n l z =
    let a = lowest-pos (unsound s) m (omega arith) in
    lowest_is (unsound s) n (lowest (unsound s) m) a.pos (omega (arith, a.within)) a.passes a.below

-- the names of what is kept
pub kept_names : (s : List ℕ) (n : ℕ) (kept : Kept) → kept ≡ kept_of s n → kept.names ≡ names_of s n
unfolding kept_of
kept_names s n kept e = ap (λ (x : Kept). x.names) e

pub kept_after : (s : List ℕ) (n : ℕ) (kept : Kept) → kept ≡ kept_of s n → kept.after ≡ place_after s n
unfolding kept_of
kept_after s n kept e = ap (λ (x : Kept). x.after) e

-- the refusal of the lowest wrong column
refuses-wrong : (b : Bool) (k : ℕ) → ltb 0 (refused_if b 4 k).number ≡ b
refuses-wrong true k = refl
refuses-wrong false k = refl

wrong_row : (s : List ℕ) (r : ℕ) → 0 < r → unsound s r ≡ true → at_row (column_refusal s) r ≡ located 4 r
wrong_row s zero h e = absurd (omega arith)
wrong_row s (suc r) h e = rw e (sym (located-at 4 (suc r) (λ z. omega (arith, z))))

pub each_is : (s : List ℕ) (n : ℕ) → lowest_of (column_refusal s) n ≡ located 4 (lowest (unsound s) n)
unfolding lowest_of
each_is s n =
    ap (at_row (column_refusal s)) (lowest_ext (refuses (column_refusal s)) (unsound s) n (λ k a b. refuses-wrong (unsound s k) k))
    ∙ ⊎_elim (λ h. rw h.0 (sym (located-zero 4 0 refl)))
    (λ h. wrong_row s (lowest (unsound s) n) h.pos h.passes) (lowest_cases (unsound s) n)

-- ---- 6 by what was kept
pub key_tested : (keys : List ℕ) (id k : ℕ) (b : Bool) → b ≡ (eqb (get_or keys k 0) key_p && not (eqb (k + 1) id)) → other_key_in keys id (suc k) ≡ b
key_tested keys id k b h = rw (h, add-one k)

module _ (kept : Kept) (n id : ℕ) where
  pub kept_there : (id ≡ 0 → ⊥) → (b : Bool) → b ≡ id_wrong_at (get_or kept.cols (id - 1) blank_column) kept.keys n id → b ≡ id_wrong_in kept n id
  unfolding id_wrong_in
  kept_there z b e = let q : pred id ≡ id - 1 = omega arith in rw (ne_eqb id 0 z, q) e

-- b is what the test of the `id` column says, r that of the keys
module _ (c : ColumnLayout) (keys : List ℕ) (n id : ℕ) (b : Bool) (e : b ≡ id_laid c (get_or keys (id - 1) 0)) where
  pub id_unsound : b ≡ false → true ≡ id_wrong_at c keys n id
  unfolding id_wrong_at
  id_unsound t = let q : pred id ≡ id - 1 = omega arith in rw (q, ← e, t)

  pub id_elsewhere : (r : Bool) → b ≡ true → r ≡ ltb 0 (lowest (other_key_in keys id) n) → r ≡ id_wrong_at c keys n id
  unfolding id_wrong_at
  id_elsewhere r t h = let q : pred id ≡ id - 1 = omega arith in rw (q, ← e, t) h

-- a count of 1 is kept
kept_one : (star : Bool) (n : ℕ) (b : Bool) → (not star && (eqb (cond star 0 n) 1 && b)) ≡ (not star && (eqb n 1 && b))
kept_one true n b = refl
kept_one false n b = refl

module _ (s : List ℕ) (n : ℕ) (z : lowest (unsound s) n ≡ 0) where
  key_at : (i : ℕ) → i < n → get_or (kept_of s n).keys i 0 ≡ (column s (suc i)).key
  unfolding kept_of
  key_at i h = get_or-one_to (λ j. (column s j).key) n (replicate (most_columns - n) 0) i 0 h

  column-at : (i : ℕ) → i < n → get_or (kept_of s n).cols i blank_column ≡ column_layout s (suc i)
  unfolding kept_of
  column-at i h = get_or-one_to (column_layout s) n (replicate (most_columns - n) blank_column) i blank_column h

  id_at : (i : ℕ) → i < n → id_laid (column_layout s (suc i)) (column s (suc i)).key ≡ id_sound (column s (suc i))
  unfolding column_layout
  id_at i h =
      let d = column s (suc i) in
      let t : sound d ≡ true = not-false (sound d) ((lowest-zero (unsound s) n z).fails (suc i) (omega arith) (omega arith)) in
      ap (λ (b : Bool). b && (not d.star && (eqb (count_kept d) 1 && eqb d.key key_p))) (integer_sound d t)
      ∙ ap (λ (b : Bool). eqb d.kind 73 && b) (kept_one d.star d.count (eqb d.key key_p))

  keys_as : (id k : ℕ) → 0 < k → k ≤ n → other_key_in (kept_of s n).keys id k ≡ other_key_p s id k
  keys_as id zero a b = absurd (omega arith)
  keys_as id (suc i) a b = ap (λ (x : ℕ). eqb x key_p && not (eqb (suc i) id)) (key_at i (omega arith))

  id_as : (id : ℕ) → id ≤ n → id_wrong_in (kept_of s n) n id ≡ (eqb id 0 || (not (id_sound (column s id)) || ltb 0 (lowest (other_key_p s id) n)))
  unfolding id_wrong_in id_wrong_at
  id_as zero h = refl
  id_as (suc i) h =
      let a : id_laid (get_or (kept_of s n).cols i blank_column) (get_or (kept_of s n).keys i 0) ≡ id_sound (column s (suc i)) =
      (λ t. id_laid (column-at i (omega arith) t) (key_at i (omega arith) t)) ∙ id_at i (omega arith) in
      let b = lowest_ext (other_key_in (kept_of s n).keys (suc i)) (other_key_p s (suc i)) n (keys_as (suc i)) in
      (λ t. eqb (suc i) 0 || (not (a t) || ltb 0 (b t)))

  pub id_kept : (kept : Kept) (id : ℕ) → kept ≡ kept_of s n → id ≡ id_column s n → id ≤ n → id_wrong_in kept n id ≡ id_wrong s n
  unfolding id_wrong
  id_kept kept id k i h = rw k (id_as id h) ∙ ap (λ (x : ℕ). eqb x 0 || (not (id_sound (column s x)) || ltb 0 (lowest (other_key_p s x) n))) i
