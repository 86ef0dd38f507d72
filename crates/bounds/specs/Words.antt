-- The bounds in document 01's words, over the width: what an accepted edge and its rectangle are.
use Rattle.std.specs.Prelude.{◌≡◌, true, ℕ, ◌≤◌, ◌<◌}
use Rattle.std.specs.Float.Ieee.{lt}
use Rattle.std.specs.Float.Ieee.Scale.{finite}
use Rattle.laws.specs.Foremost.{reversed, Earliest}
use Rattle.bounds.specs.Bounds.{Coordinates, Rectangle, count, xOf, yOf}

-- "The x and y of an edge must be finite", and there is a coordinate
pub record Accepted (c : Coordinates) : Type 0 where
  pub some : 0 < count c
  pub x_finite : (i : ℕ) → 0 < i → i ≤ count c → finite (xOf c i) ≡ true
  pub y_finite : (i : ℕ) → 0 < i → i ≤ count c → finite (yOf c i) ≡ true

-- "The least and greatest x and y ..., the earliest coordinate winning a tie": each bound is the x or y of a coordinate
-- (`attained`), none is less or greater (`none_before`), and every earlier coordinate's is greater or less, not equal
-- (`before_earlier`): so the sign of a zero is decided
pub record RectangleOf (c : Coordinates) (r : Rectangle) : Type 0 where
  pub least_x : Earliest lt (xOf c) (count c) r.least_x
  pub least_y : Earliest lt (yOf c) (count c) r.least_y
  pub greatest_x : Earliest (reversed lt) (xOf c) (count c) r.greatest_x
  pub greatest_y : Earliest (reversed lt) (yOf c) (count c) r.greatest_y
