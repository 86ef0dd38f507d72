-- One unbroken run in a column of numbers.
use Rattle.std.specs.Prelude.{◌≡◌, List, ℕ, suc, ◌+◌, ◌≤◌, ◌<◌, length}
use Rattle.laws.specs.Lowest.{In}
use Rattle.laws.specs.Orbit.{entry}

-- the rows of the column that hold f are exactly one unbroken run that starts at row p: some rows from p on, within the column, hold it,
-- and no other row does
pub record OneRunFrom (column : List ℕ) (f p : ℕ) : Type 0 where
  pub rows : ℕ
  pub some : 0 < rows
  pub starts : 0 < p
  pub ends : p + rows ≤ suc (length column)
  pub inside : (r : ℕ) → p ≤ r → r < p + rows → entry column r ≡ f
  pub nowhere_else : (r : ℕ) → In (length column) r → entry column r ≡ f → (p ≤ r) × (r < p + rows)
