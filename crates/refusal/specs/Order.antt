-- "refuses it with one number and one place": the record, and what "tested in order, lowest row or side first" means.
use Rattle.std.specs.Prelude.{◌≡◌, Bool, cond, List, [], ◌∷◌, ◌++◌, ℕ, zero, suc, eqb, ltb, Option, Some, None, Result, Ok, Err}
use Rattle.laws.specs.Lowest.{lowest}
use Rattle.refusal.specs.declared.Refusal.{Refusal}

-- the number n at the place p; the only definition that makes a refusal
abbrev pub refusal : ℕ → ℕ → Refusal
refusal n p = record { number = n; place = p }

-- nothing is refused
abbrev pub fine : Refusal
fine = refusal 0 0

-- WHAT CODE ANSWERS: x, or the refusal where there is one; a refusal with the number 0 says that there is none
abbrev pub unless : {T : Type 0} → Refusal → T → Result T Refusal
unless q x = cond (eqb q.number 0) (Ok x) (Err q)

-- of a test
abbrev pub Answer : Type 0
Answer = Result (Unit {0}) Refusal

abbrev pub answered : Refusal → Answer
answered q = unless q tt

-- n at the place that is found, if one is
abbrev pub refused_at : ℕ → Option ℕ → Answer
refused_at n None = Ok tt
refused_at n (Some p) = Err (refusal n p)

-- n at the place p where the test fails
abbrev pub refused_if : Bool → ℕ → ℕ → Refusal
refused_if b n p = cond b (refusal n p) fine

-- n at the lowest row or side that fails; nothing where none does
unfoldable pub located : ℕ → ℕ → Refusal
located n p = cond (eqb p 0) fine (refusal n p)

-- the first of two that refuses
unfoldable pub first : Refusal → Refusal → Refusal
first a b = cond (eqb a.number 0) b a

-- "tested in order": the first of the tests that refuses
abbrev pub first_of : List Refusal → Refusal
first_of [] = fine
first_of (a ∷ l) = first a (first_of l)

-- the refusal of the lowest of the rows 1..n that has one
abbrev pub refuses : (ℕ → Refusal) → ℕ → Bool
refuses f k = ltb 0 (f k).number

abbrev pub at_row : (ℕ → Refusal) → ℕ → Refusal
at_row f zero = fine
at_row f (suc k) = f (suc k)

unfoldable pub lowest_of : (ℕ → Refusal) → ℕ → Refusal
lowest_of f n = at_row f (lowest (refuses f) n)

-- ---- in words

-- none of the tests refuses
abbrev pub AllFine : List Refusal → Type 0
AllFine [] = Unit {0}
AllFine (a ∷ l) = (a.number ≡ 0) × AllFine l

-- r is the refusal of one of the tests, and all earlier ones are fine
pub record RefusedFirst (l : List Refusal) (r : Refusal) : Type 0 where
  pub earlier : List Refusal
  pub later : List Refusal
  pub stands : l ≡ earlier ++ (r ∷ later)
  pub passed : AllFine earlier
  pub refused : r.number ≡ 0 → ⊥
