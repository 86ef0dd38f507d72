-- The foremost of g 1, .., g n under an order, found by comparison alone, the earliest of equals winning.
use Rattle.std.specs.Prelude.{◌≡◌, ◌⊎◌, Bool, true, false, cond, ℕ, zero, suc, ◌≤◌, ◌<◌}

-- of two, the later one only where it stands before the earlier
abbrev pub foremost_of_two : {A : Type 0} → (A → A → Bool) → A → A → A
foremost_of_two before a b = cond (before b a) b a

-- of g 1, .., g n, one after the other, with g 1 to begin with
abbrev pub foremost : {A : Type 0} → (A → A → Bool) → (ℕ → A) → ℕ → A
foremost before g zero = g 1
foremost before g (suc n) = foremost_of_two before (foremost before g n) (g (suc n))

-- the same order read from its other end
abbrev pub reversed : {A : Type 0} → (A → A → Bool) → A → A → Bool
reversed before a b = before b a

-- ---- in words

-- `before` orders the values for which `Good` holds, ties allowed: no two stand before each other, and where one stands
-- before another every third stands after the one or before the other
pub record Ordered {A : Type 0} (before : A → A → Bool) (Good : A → Type 0) : Type 0 where
  pub asymmetric : (a b : A) → Good a → Good b → before a b ≡ true → before b a ≡ false
  pub splits : (a b c : A) → Good a → Good b → Good c → before a c ≡ true → (before a b ≡ true) ⊎ (before b c ≡ true)

-- r is g's value at a place of 1..n; nothing of 1..n stands before it, and it stands before all that is earlier
pub record Earliest {A : Type 0} (before : A → A → Bool) (g : ℕ → A) (n : ℕ) (r : A) : Type 0 where
  pub place : ℕ
  pub pos : 0 < place
  pub within : place ≤ n
  pub attained : g place ≡ r
  pub none_before : (k : ℕ) → 0 < k → k ≤ n → before (g k) r ≡ false
  pub before_earlier : (k : ℕ) → 0 < k → k < place → before r (g k) ≡ true
