-- Sums over 1..n, and how often a function takes a value.
use Rattle.std.specs.Prelude.{◌≡◌, Bool, cond, ℕ, zero, suc, ◌+◌, ◌≤◌, ◌<◌, eqb}

-- 1 where the test passes, else 0
abbrev pub bit : Bool → ℕ
bit b = cond b 1 0

-- g 1 + .. + g n
abbrev pub sum : (ℕ → ℕ) → ℕ → ℕ
sum g zero = 0
sum g (suc n) = sum g n + g (suc n)

-- how often the values of f on 1..m are s
abbrev pub hits : (ℕ → ℕ) → ℕ → ℕ → ℕ
hits f m s = sum (λ j. bit (eqb s (f j))) m

-- f takes no value twice on 1..m
abbrev pub Inj : (ℕ → ℕ) → ℕ → Type 0
Inj f m = (i j : ℕ) → 0 < i → i ≤ m → 0 < j → j ≤ m → f i ≡ f j → i ≡ j

-- f takes 1..m into 1..n
abbrev pub Into : (ℕ → ℕ) → ℕ → ℕ → Type 0
Into f m n = (k : ℕ) → 0 < k → k ≤ m → (0 < f k) × (f k ≤ n)
