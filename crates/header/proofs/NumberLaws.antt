-- Two names that are the same text have the same number. So a name of another number is another name, and where a number's slot is not
-- marked no earlier name has the number.
use mathlib.Core.Path.{◌≡◌, refl, sym, ap, ◌∙◌}
use mathlib.Core.Logic.{by_cases}
use mathlib.Core.Bool.{Bool, true, false, cond, true≢false}
use mathlib.Core.List.{List, [], ◌∷◌, ◌++◌}
use Prim.Native.Nat.{ℕ, suc, ◌+◌, ◌%◌, ◌≤◌, ◌<◌}
use native.Mathlib.Decide.{dec_le, ℕ_discrete}
use native.Mathlib.Omega.{arith}
use native.Mathlib.Numerals.{add-one}
use lib.Dec.{leb}
use lib.ListN.{length, get_or, set, drop, drop_of_length-le}
use lib.Seq.{drop-cons, get_or-set_same, get_or-set_other}
use Rattle.laws.specs.Lowest.{None, Each}
use Rattle.laws.specs.Buffer.{one_to}
use Rattle.laws.proofs.LowestLaws.{bool_cases, none_start}
use Rattle.laws.proofs.BufferLaws.{get_or-one_to}
use Rattle.laws.proofs.TestLaws.{and_true, equal}
use Rattle.header.specs.Names.{lower, same_text, name_of, same_name}
use Rattle.header.specs.Serving.Numbers.{caseless, with_letter, with_letters, number_of, slots, slot_of}
use Rattle.header.proofs.NameLaws.{names_as}

-- ---- the same text has the same number
caseless-lower : (x : ℕ) → caseless (lower x) ≡ caseless x
unfolding lower
caseless-lower x =
    bool_cases (leb 65 x)
    (λ a. bool_cases (leb x 90) (λ b. rw (a, b) (omega arith)) (λ b. rw (a, b)))
    (λ a. rw a)

same_letter : (x y : ℕ) → lower x ≡ lower y → caseless x ≡ caseless y
same_letter x y e = sym (caseless-lower x) ∙ ap caseless e ∙ caseless-lower y

same_letters : (n : ℕ) (a b : List ℕ) → same_text a b ≡ true → (length a ≡ length b) × (with_letters n a ≡ with_letters n b)
same_letters n [] [] e = (refl, refl)
same_letters n [] (y ∷ b) e = absurd (true≢false (sym e))
same_letters n (x ∷ a) [] e = absurd (true≢false (sym e))
same_letters n (x ∷ a) (y ∷ b) e =
    let same = (and_true _ _ (equal (lower x) (lower y)) (λ (t : same_text a b ≡ true). t, λ t. t)).0 e in
    let rest = same_letters (with_letter n (caseless x)) a b same.1 in
    (ap suc rest.0, rest.1 ∙ ap (λ (c : ℕ). with_letters (with_letter n c) b) (same_letter x y same.0))

pub same_number : (a b : List ℕ) → same_text a b ≡ true → number_of a ≡ number_of b
unfolding number_of
same_number a b e =
    let same = same_letters (length a % 32) a b e in
    same.1 ∙ ap (λ (n : ℕ). with_letters (n % 32) b) same.0

-- ---- one turn of the loop over a name's letters
pub letter_next : (s : List ℕ) (i n : ℕ) → i < length s
    → with_letters n (drop i s) ≡ with_letters (with_letter n (caseless (get_or s i 0))) (drop (i + 1) s)
letter_next s i n h = rw (drop-cons s i 0 h, add-one i)

pub letters_done : (s : List ℕ) (i n : ℕ) → length s ≤ i → n ≡ with_letters n (drop i s)
letters_done s i n h = rw (drop_of_length-le s h)

-- ---- in the search over pairs of columns, counted from 0
abbrev pub number_at : List ℕ → ℕ → ℕ
number_at s k = number_of (name_of s k)

-- the slot of each of the columns 1..n is marked
abbrev pub Marked : List ℕ → List Bool → ℕ → Type 0
Marked s marked n = Each n (λ k. get_or marked (slot_of (number_at s k)) false ≡ true)

module _ (s : List ℕ) (later number : ℕ) (e : number ≡ number_at s (suc later)) where
  other_number : (k : ℕ) → (number_at s k ≡ number → ⊥) → names_as s later k ≡ false
  unfolding same_name
  other_number k h = bool_cases (names_as s later k) (λ t. absurd (h (same_number (name_of s k) (name_of s (suc later)) t ∙ sym e))) (λ f. f)

  -- an earlier column whose number was seen and is another
  pub other_seen : (seen r : List ℕ) → seen ≡ one_to (number_at s) later ++ r → (i : ℕ) → i < later → (get_or seen i 0 ≡ number → ⊥)
      → names_as s later (suc i) ≡ false
  other_seen seen r q i l h = other_number (suc i) (λ t. h (ap (λ (x : List ℕ). get_or x i 0) q ∙ get_or-one_to (number_at s) later r i 0 l ∙ t))

  module _ (slot : ℕ) (at : slot ≡ slot_of number) (marked : List Bool) (h : Marked s marked later) where
    slot_later : slot ≡ slot_of (number_at s (suc later))
    slot_later = at ∙ ap slot_of e

    none_marked : get_or marked slot false ≡ false → None (names_as s later) later
    none_marked z =
        record {
          fails = λ k a b.
              other_number k (λ q. true≢false (sym (h k (a, b)) ∙ ap (λ (v : ℕ). get_or marked (slot_of v) false) q
              ∙ ap (λ (v : ℕ). get_or marked v false) (sym at) ∙ z));
        }

    -- where the search among the earlier columns begins: none before that has the name
    pub first_none : (first : ℕ) → first ≡ cond (get_or marked slot false) 0 later → (first ≤ later) × None (names_as s later) first
    first_none first q =
        bool_cases (get_or marked slot false)
        (λ t. let z : first ≡ 0 = rw t at q in (omega arith, rw z (none_start (names_as s later))))
        (λ t. let z : first ≡ later = rw t at q in (omega arith, rw z (none_marked t)))

    pub marked_next : length marked ≡ slots → Marked s (set marked slot true) (later + 1)
    marked_next l k i =
        by_cases (ℕ_discrete (slot_of (number_at s k)) slot)
        (λ q. rw q (get_or-set_same marked slot true false (omega (arith, l, at))))
        (λ q.
        get_or-set_other marked slot (slot_of (number_at s k)) true false q
        ∙ by_cases (dec_le k later) (λ c. h k (i.0, c))
        (λ c. let z : k ≡ suc later = omega (arith, i.1) in absurd (q (ap (λ (j : ℕ). slot_of (number_at s j)) z ∙ sym slot_later))))
