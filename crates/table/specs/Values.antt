-- Values: what the field of a column says, by its type; "Text and date are shown as parts of the caller's file, not copied."
use Rattle.std.specs.Prelude.{cond, List, [], ℕ, min, ◌+◌, ◌-◌, ◌*◌, take, drop, Some, None, Result, Ok, Err}
use Rattle.refusal.specs.declared.Refusal.{Refusal}
use Rattle.refusal.specs.Order.{refusal}
use Rattle.number.specs.declared.Order.{Order}
use Rattle.number.specs.Bytes.{number}
use Rattle.field.specs.declared.FieldType.{FieldType}
use Rattle.field.specs.declared.FieldType.TheVariants as type
use Rattle.field.specs.Fields.{width_of}
use Rattle.field.specs.Nulls.{short_half, integer_half, signed, short_is_null, integer_is_null, float_is_null, double_is_null}
use Rattle.triplet.specs.Triplet.{Reading, triplet_of}
use Rattle.header.specs.declared.ColumnLayout.{ColumnLayout}
use Rattle.header.specs.Layouts.{fixed_bytes}
use Rattle.header.specs.declared.Layout.{Layout}
use Rattle.opening.specs.declared.Table.{Table}
use Rattle.table.specs.declared.Extent.{Extent}
use Rattle.table.specs.declared.Value.{Value}
use Rattle.table.specs.declared.Value.TheVariants.{Short, Integer, Float, FloatNull, Double, DoubleNull, Triplet, Text, Date, Coordinates, Empty}
use Rattle.table.specs.Rows.{column_at, column_place, Row, row_of, no_such_row, no_such_column}

-- a value, or its refusal
abbrev pub ValueRead : Type 0
ValueRead = Result Value Refusal

-- "Null is -32,768 for S, -2,147,483,648 for I, NaN for floats; others have none."
abbrev pub short_of : ℕ → Value
short_of bits = Short (cond (short_is_null bits) None (Some (signed short_half bits)))

abbrev pub integer_of : ℕ → Value
integer_of bits = Integer (cond (integer_is_null bits) None (Some (signed integer_half bits)))

abbrev pub float_of : ℕ → Value
float_of bits = cond (float_is_null bits) (FloatNull bits) (Float bits)

abbrev pub double_of : ℕ → Value
double_of bits = cond (double_is_null bits) (DoubleNull bits) (Double bits)

-- where the elements of a field at p start, in a row that ends at `end`, and how many bytes they have. "A `*` field begins with an
-- unsigned four-byte count of its elements": they start after it (within the row in any case), and each has its type's bytes
abbrev pub elements_start : ColumnLayout → ℕ → ℕ → ℕ
elements_start c p end = cond c.star (min (p + 4) end) p

abbrev pub elements_bytes : Order → List ℕ → ColumnLayout → ℕ → ℕ
elements_bytes o s c p = cond c.star (number o s p 4 * width_of c.kind) (fixed_bytes c)

abbrev pub part_at : ℕ → ℕ → Extent
part_at p n = record { start = p; bytes = n }

abbrev pub elements : Order → List ℕ → ColumnLayout → ℕ → ℕ → Extent
elements o s c p end = part_at (elements_start c p end) (elements_bytes o s c p)

abbrev pub triplet_of_read : Reading → ValueRead
triplet_of_read (Ok t) = Ok (Triplet t.ids)
triplet_of_read (Err q) = Err q

-- THE VALUE OF A FIELD at p, by its column's type, in a row that ends at `end`.
-- "T, L text", a byte each: its part of the file. "F, R float", "4, 8" bytes. "S, I integer", "2, 4" bytes.
-- "C, Z short and B, Y double coordinates, 2 or 3 parts": their part of the file. "D date", 20 bytes: its part of the file.
-- "X null field", 0 bytes. "K triplet", "1 to 13" bytes: the three ids that the row goes on with
abbrev pub by_type : FieldType → Order → List ℕ → ColumnLayout → ℕ → ℕ → ValueRead
by_type type.Text o s c p end = Ok (Text (elements o s c p end))
by_type type.Latin o s c p end = Ok (Text (elements o s c p end))
by_type type.Float o s c p end = Ok (float_of (number o s p 4))
by_type type.Double o s c p end = Ok (double_of (number o s p 8))
by_type type.Short o s c p end = Ok (short_of (number o s p 2))
by_type type.Integer o s c p end = Ok (integer_of (number o s p 4))
by_type type.ShortPair o s c p end = Ok (Coordinates (elements o s c p end))
by_type type.ShortTriple o s c p end = Ok (Coordinates (elements o s c p end))
by_type type.DoublePair o s c p end = Ok (Coordinates (elements o s c p end))
by_type type.DoubleTriple o s c p end = Ok (Coordinates (elements o s c p end))
by_type type.Date o s c p end = Ok (Date (part_at p 20))
by_type type.NullField o s c p end = Ok Empty
by_type type.Triplet o s c p end = triplet_of_read (triplet_of o (take (end - p) (drop p s)))

unfoldable pub shown : Order → List ℕ → ColumnLayout → ℕ → ℕ → ValueRead
shown o s c p end = by_type c.kind o s c p end

abbrev pub in_row : Row → (ℕ → ℕ → ValueRead) → ValueRead
in_row (Ok lies) f = f lies.start lies.end
in_row (Err q) f = Err q

-- the value of column k in a row from start to end
abbrev pub field_in : List ℕ → Layout → ℕ → ℕ → ℕ → ValueRead
field_in file l k start end = shown l.order file (column_at l k) (column_place file l start end k) end

-- THE VALUE of column k in row i: 13 for the row, 13 for the column, the row's own refusals, then the value
unfoldable pub value_of : List ℕ → List ℕ → Table → ℕ → ℕ → ValueRead
value_of file index t i k =
    cond (no_such_row t i) (Err (refusal 13 i))
    (cond (no_such_column t.layout k) (Err (refusal 13 k))
    (in_row (row_of file index t i) (field_in file t.layout k)))

-- where the part of the file starts that a value shows, and how many bytes it has; none of a value that shows none
abbrev pub no_extent : Extent
no_extent = part_at 0 0

abbrev pub extent_of : Value → Extent
extent_of (Text e) = e
extent_of (Date e) = e
extent_of (Coordinates e) = e
extent_of (Short v) = no_extent
extent_of (Integer v) = no_extent
extent_of (Float b) = no_extent
extent_of (FloatNull b) = no_extent
extent_of (Double b) = no_extent
extent_of (DoubleNull b) = no_extent
extent_of (Triplet ids) = no_extent
extent_of Empty = no_extent

-- THE PART SHOWN; past the end of the file it is cut. A value that is refused shows none
unfoldable pub part_of : List ℕ → ValueRead → List ℕ
part_of file (Ok v) = take (extent_of v).bytes (drop (extent_of v).start file)
part_of file (Err q) = []
