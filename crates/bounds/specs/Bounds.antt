-- The rectangle of an edge's coordinates: one definition over the width of a float. Both widths have one type of values,
-- so every law of this crate is stated once, for f32 and f64 together.
use Rattle.std.specs.Prelude.{◌≡◌, Bool, not, ◌&&◌, cond, Option, Some, None, Result, Ok, Err, List, ℕ, pred, ◌+◌, ◌*◌, ◌/◌, eqb, Float, length}
use Rattle.std.specs.Float.{Format, binary32, binary64}
use Rattle.std.specs.Float.Ieee.{lt, of_bits}
use Rattle.std.specs.Float.Ieee.Scale.{finite}
use Rattle.laws.specs.Lowest.{lowest, None as NoneOf}
use Rattle.laws.specs.Foremost.{foremost_of_two, foremost, reversed}
use Rattle.refusal.specs.declared.Refusal.{Refusal}
use Rattle.refusal.specs.Order.{refusal}
use Rattle.number.specs.declared.Order.{Order}
use Rattle.number.specs.Bytes.{number}
use Rattle.bounds.specs.declared.Parts.{Parts}
use Rattle.bounds.specs.declared.Parts.TheVariants.{Two, Three}
use Rattle.bounds.specs.declared.Rectangle.{Rectangle as Of}

-- ---- the answers, of either width

-- "the rectangle travels as one record of four floats"
abbrev pub Rectangle : Type 0
Rectangle = Of Float

abbrev pub Bounds : Type 0
Bounds = Result Rectangle Refusal

-- a coordinate whose x and y are finite, or that it is none
abbrev pub Point : Type 0
Point = Option (Float × Float)

abbrev pub at : Float → Float → Point
at x y = Some (x, y)

-- the answers of the code, "in f32 ... in f64", as these: v gives the value of a float of the width, and is the identity of both
module _ {F : Type 0} (v : F → Float) where
  abbrev pub rectangle_by : Of F → Rectangle
  rectangle_by r = record { least_x = v r.least_x; least_y = v r.least_y; greatest_x = v r.greatest_x; greatest_y = v r.greatest_y }

  abbrev pub bounds_by : Result (Of F) Refusal → Bounds
  bounds_by (Ok r) = Ok (rectangle_by r)
  bounds_by (Err q) = Err q

  abbrev pub part_by : Option F → Option Float
  part_by (Some x) = Some (v x)
  part_by None = None

  abbrev pub point_by : Option (F × F) → Point
  point_by (Some p) = at (v p.0) (v p.1)
  point_by None = None

-- ---- coordinates in bytes

-- "C, Z short and B, Y double coordinates, 2 or 3 parts"
abbrev pub part_count : Parts → ℕ
part_count Two = 2
part_count Three = 3

-- the bytes of one part: "for C and Z in f32, for B and Y in f64"
abbrev pub part_bytes : Format → ℕ
part_bytes binary32 = 4
part_bytes binary64 = 8

-- the coordinates of an edge as they stand in a field: the width of a part, the byte order, the bytes, and how many of
-- them from one coordinate to the next
pub record Coordinates : Type 0 where
  pub format : Format
  pub order : Order
  pub bytes : List ℕ
  pub stride : ℕ

abbrev pub strided : Format → ℕ → Order → List ℕ → Coordinates
strided f w o s = record { format = f; order = o; bytes = s; stride = w }

-- "8, 12; 16, 24"
abbrev pub coordinates : Format → Parts → Order → List ℕ → Coordinates
coordinates f p o s = strided f (part_count p * part_bytes f) o s

-- as many whole coordinates as there are bytes for
unfoldable pub count : Coordinates → ℕ
count c = length c.bytes / c.stride

-- the part that begins at a place
unfoldable pub part_at : Format → Order → List ℕ → ℕ → Float
part_at f o s place = of_bits f (number o s place (part_bytes f))

-- the place of coordinate i, counted from 1, and its x and y; z is not read
abbrev pub place_of : Coordinates → ℕ → ℕ
place_of c i = pred i * c.stride

unfoldable pub xOf : Coordinates → ℕ → Float
xOf c i = part_at c.format c.order c.bytes (place_of c i)

unfoldable pub yOf : Coordinates → ℕ → Float
yOf c i = part_at c.format c.order c.bytes (place_of c i + part_bytes c.format)

-- ---- the rectangle

-- "The x and y of an edge must be finite; z is free."
unfoldable pub unfit : Coordinates → ℕ → Bool
unfit c i = not (finite (xOf c i) && finite (yOf c i))

-- "The least and greatest x and y are found by comparison alone, the earliest coordinate winning a tie."
abbrev pub least : (ℕ → Float) → ℕ → Float
least g n = foremost lt g n

abbrev pub greatest : (ℕ → Float) → ℕ → Float
greatest g n = foremost (reversed lt) g n

-- the rectangle of the coordinates 1 to n
unfoldable pub rectangle_of : Coordinates → ℕ → Rectangle
rectangle_of c n = record { least_x = least (xOf c) n; least_y = least (yOf c) n; greatest_x = greatest (xOf c) n; greatest_y = greatest (yOf c) n }

-- 12: "x or y not finite, or no coordinates"
abbrev pub not_finite_or_none : ℕ
not_finite_or_none = 12

-- THE BOUNDS of an edge: 12 at 0 for no coordinates, 12 at the lowest coordinate ("from 1") with x or y not finite, else the rectangle
unfoldable pub bounds_of : Coordinates → Bounds
bounds_of c =
    cond (eqb (count c) 0) (Err (refusal not_finite_or_none 0))
    (cond (eqb (lowest (unfit c) (count c)) 0) (Ok (rectangle_of c (count c))) (Err (refusal not_finite_or_none (lowest (unfit c) (count c)))))

-- ---- one coordinate, as the code takes it

-- a part where it is finite, and x and y where both are
abbrev pub fit_part : Float → Option Float
fit_part x = cond (finite x) (Some x) None

abbrev pub point : Float → Float → Point
point x y = cond (finite x) (cond (finite y) (at x y) None) None

-- the part at a place
unfoldable pub fit_at : Format → Order → List ℕ → ℕ → Option Float
fit_at f o s place = fit_part (part_at f o s place)

-- the coordinate at a place
unfoldable pub point_at : Format → Order → List ℕ → ℕ → Point
point_at f o s place = point (part_at f o s place) (part_at f o s (place + part_bytes f))

-- a rectangle with one coordinate alone, and with one more
abbrev pub around : Float → Float → Rectangle
around x y = record { least_x = x; least_y = y; greatest_x = x; greatest_y = y }

abbrev pub extended : Rectangle → Float → Float → Rectangle
extended r x y =
    record {
      least_x = foremost_of_two lt r.least_x x;
      least_y = foremost_of_two lt r.least_y y;
      greatest_x = foremost_of_two (reversed lt) r.greatest_x x;
      greatest_y = foremost_of_two (reversed lt) r.greatest_y y;
    }

-- the coordinates 1 to i are read: all are fit, and r is their rectangle
pub record Reached (c : Coordinates) (i : ℕ) (r : Rectangle) : Type 0 where
  pub fit : NoneOf (unfit c) i
  pub bounds : r ≡ rectangle_of c i
