-- The rectangle of an edge: the coordinates in column k of row i. "A column of another type than C, Z, B, Y is 13. Found for C and Z in
-- f32, for B and Y in f64, the rectangle travels as one record of four floats."
use Rattle.std.specs.Prelude.{Bool, true, false, cond, not, List, ℕ, Result, Ok, Err}
use Rattle.std.specs.Float.{binary32, binary64}
use Rattle.refusal.specs.declared.Refusal.{Refusal}
use Rattle.refusal.specs.Order.{refusal}
use Rattle.number.specs.declared.Order.{Order}
use Rattle.field.specs.declared.FieldType.{FieldType}
use Rattle.field.specs.declared.FieldType.TheVariants as type
use Rattle.bounds.specs.declared.Parts.TheVariants.{Two, Three}
use Rattle.bounds.specs.Bounds.{Rectangle, Bounds, coordinates, bounds_of}
use Rattle.header.specs.declared.Layout.{Layout}
use Rattle.opening.specs.declared.Table.{Table}
use Rattle.table.specs.Rows.{no_such_row, no_such_column, column_at, Row, row_of}
use Rattle.table.specs.Values.{field_in, part_of}
use Rattle.rectangle.specs.declared.Found.{Found}
use Rattle.rectangle.specs.declared.Found.TheVariants.{Short, Double}

-- an answer of either width, and the code's answer as one
pub data Answer : Type 0 where
  short : Rectangle → Answer
  double : Rectangle → Answer
  refused_with : Refusal → Answer

abbrev pub answer : Result Found Refusal → Answer
answer (Ok (Short r)) = short r
answer (Ok (Double r)) = double r
answer (Err q) = refused_with q

abbrev pub in_short : Bounds → Answer
in_short (Ok r) = short r
in_short (Err q) = refused_with q

abbrev pub in_double : Bounds → Answer
in_double (Ok r) = double r
in_double (Err q) = refused_with q

-- the bounds of the coordinates s by the column's type: C, Z in f32, B, Y in f64; 13 with the column number for another type
unfoldable pub by_type : FieldType → Order → List ℕ → ℕ → Answer
by_type type.ShortPair o s k = in_short (bounds_of (coordinates binary32 Two o s))
by_type type.ShortTriple o s k = in_short (bounds_of (coordinates binary32 Three o s))
by_type type.DoublePair o s k = in_double (bounds_of (coordinates binary64 Two o s))
by_type type.DoubleTriple o s k = in_double (bounds_of (coordinates binary64 Three o s))
by_type type.Text o s k = refused_with (refusal 13 k)
by_type type.Latin o s k = refused_with (refusal 13 k)
by_type type.Float o s k = refused_with (refusal 13 k)
by_type type.Double o s k = refused_with (refusal 13 k)
by_type type.Short o s k = refused_with (refusal 13 k)
by_type type.Integer o s k = refused_with (refusal 13 k)
by_type type.Date o s k = refused_with (refusal 13 k)
by_type type.NullField o s k = refused_with (refusal 13 k)
by_type type.Triplet o s k = refused_with (refusal 13 k)

-- C, Z, B, Y
abbrev pub is_coordinates : FieldType → Bool
is_coordinates type.ShortPair = true
is_coordinates type.ShortTriple = true
is_coordinates type.DoublePair = true
is_coordinates type.DoubleTriple = true
is_coordinates type.Text = false
is_coordinates type.Latin = false
is_coordinates type.Float = false
is_coordinates type.Double = false
is_coordinates type.Short = false
is_coordinates type.Integer = false
is_coordinates type.Date = false
is_coordinates type.NullField = false
is_coordinates type.Triplet = false

-- what a row gives: its own refusal, or what is found between its bounds
abbrev pub in_row : Row → (ℕ → ℕ → Answer) → Answer
in_row (Ok lies) f = f lies.start lies.end
in_row (Err q) f = refused_with q

-- the coordinates in column k of a row from start to end: the part of the file that the field shows
abbrev pub coordinates_in : List ℕ → Layout → ℕ → ℕ → ℕ → List ℕ
coordinates_in file l k start end = part_of file (field_in file l k start end)

-- THE RECTANGLE of the coordinates in column k of row i: 13 for the row, 13 for the column, "A column of another type than C, Z, B, Y is
-- 13", the row's own refusal, then the bounds with their 12
unfoldable pub rectangle_of : List ℕ → List ℕ → Table → ℕ → ℕ → Answer
rectangle_of file index t i k =
    cond (no_such_row t i) (refused_with (refusal 13 i))
    (cond (no_such_column t.layout k) (refused_with (refusal 13 k))
    (cond (not (is_coordinates (column_at t.layout k).kind)) (refused_with (refusal 13 k))
    (in_row (row_of file index t i)
    (λ start end. by_type (column_at t.layout k).kind t.layout.order (coordinates_in file t.layout k start end) k))))
