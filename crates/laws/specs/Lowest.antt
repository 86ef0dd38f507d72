-- The lowest number of 1..n that passes a test: "lowest row or side first" is this one definition.
use Rattle.std.specs.Prelude.{◌≡◌, Bool, true, false, cond, ℕ, zero, suc, ◌≤◌, ◌<◌, eqb, ltb, Option, Some, None as Nothing}

-- the first of two that is not 0
abbrev pub first_nonzero : ℕ → ℕ → ℕ
first_nonzero zero b = b
first_nonzero (suc a) b = suc a

-- the lowest of 1..n that passes the test, or 0
abbrev pub lowest : (ℕ → Bool) → ℕ → ℕ
lowest p zero = 0
lowest p (suc n) = first_nonzero (lowest p n) (cond (p (suc n)) (suc n) 0)

-- a number found, where 0 stands for none
abbrev pub found : ℕ → Option ℕ
found zero = Nothing
found (suc k) = Some (suc k)

-- none of 1..n passes
pub record None (p : ℕ → Bool) (n : ℕ) : Type 0 where
  pub fails : (k : ℕ) → 0 < k → k ≤ n → p k ≡ false

-- r is the lowest of 1..n that passes
pub record At (p : ℕ → Bool) (n r : ℕ) : Type 0 where
  pub pos : 0 < r
  pub within : r ≤ n
  pub passes : p r ≡ true
  pub below : (k : ℕ) → 0 < k → k < r → p k ≡ false

-- k is one of 1..n
abbrev pub In : ℕ → ℕ → Type 0
In n k = (0 < k) × (k ≤ n)

-- P holds at each of 1..n
abbrev pub Each : ℕ → (ℕ → Type 0) → Type 0
Each n P = (k : ℕ) → In n k → P k

-- p is the lowest of 1..n at which P fails
pub record LowestFailing (n : ℕ) (P : ℕ → Type 0) (p : ℕ) : Type 0 where
  pub within : In n p
  pub fails : P p → ⊥
  pub below : (k : ℕ) → 0 < k → k < p → P k

-- the smaller of two, where 0 is none
unfoldable pub lesser : ℕ → ℕ → ℕ
lesser a b = cond (eqb a 0) b (cond (eqb b 0) a (cond (ltb a b) a b))

-- the least g k of those k of 1..n that pass the test, or 0
abbrev pub least : (ℕ → Bool) → (ℕ → ℕ) → ℕ → ℕ
least p g zero = 0
least p g (suc n) = lesser (least p g n) (cond (p (suc n)) (g (suc n)) 0)

-- v is the least g k of those k of 1..n that pass, and `row` is one that has it
pub record LeastAt (p : ℕ → Bool) (g : ℕ → ℕ) (n v : ℕ) : Type 0 where
  pub row : ℕ
  pub pos : 0 < row
  pub within : row ≤ n
  pub passes : p row ≡ true
  pub has : g row ≡ v
  pub below : (k : ℕ) → 0 < k → k ≤ n → p k ≡ true → v ≤ g k
