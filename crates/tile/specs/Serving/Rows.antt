-- The lowest row that fails, as a search with a test tells it.
use Rattle.std.specs.Prelude.{◌≡◌, Bool, true, false, ℕ, ◌≤◌, ◌<◌, Option, Some, None}

-- r is the lowest of the rows 1..n at which the test gave true; `Gave` is what it gave at a row
pub record IsFirst (Gave : ℕ → Bool → Type 0) (n r : ℕ) : Type 0 where
  pub pos : 0 < r
  pub within : r ≤ n
  pub holds : Gave r true
  pub below : (k : ℕ) → 0 < k → k < r → Gave k false

-- the lowest row, if there is one
pub record IsLowest (Gave : ℕ → Bool → Type 0) (n : ℕ) (o : Option ℕ) : Type 0 where
  pub row : (r : ℕ) → o ≡ Some r → IsFirst Gave n r
  pub nothing : o ≡ None → (k : ℕ) → 0 < k → k ≤ n → Gave k false
