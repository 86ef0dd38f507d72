-- The rectangle of a column in a row in document 01's words: when there is one, what it is, and which refusal is given instead.
use Rattle.std.specs.Prelude.{◌≡◌, ◌⊎◌, cond, List, ℕ, Err}
use Rattle.std.specs.Float.{Format, binary32, binary64}
use Rattle.laws.specs.Lowest.{At}
use Rattle.refusal.specs.Order.{refusal}
use Rattle.number.specs.declared.Order.{Order}
use Rattle.number.specs.Bytes.{number}
use Rattle.field.specs.declared.FieldType.{FieldType}
use Rattle.field.specs.declared.FieldType.TheVariants as type
use Rattle.bounds.specs.declared.Parts.{Parts}
use Rattle.bounds.specs.declared.Parts.TheVariants.{Two, Three}
use Rattle.bounds.specs.Bounds.{Rectangle, Coordinates, coordinates, count, unfit, not_finite_or_none}
use Rattle.bounds.specs.Words as bounds
use Rattle.header.specs.declared.ColumnLayout.{ColumnLayout}
use Rattle.opening.specs.declared.Table.{Table}
use Rattle.table.specs.Rows.{column_at, between, row_of}
use Rattle.table.specs.Values.{value_of, part_of}
use Rattle.table.specs.Words.{RowThere, ColumnThere, NoRow}
use Rattle.rectangle.specs.Rectangles.{Answer, short, double}

-- "C, Z short and B, Y double coordinates, 2 or 3 parts"
abbrev pub type_with : Format → Parts → FieldType
type_with binary32 Two = type.ShortPair
type_with binary32 Three = type.ShortTriple
type_with binary64 Two = type.DoublePair
type_with binary64 Three = type.DoubleTriple

-- "Found for C and Z in f32, for B and Y in f64"
abbrev pub in_width : Format → Rectangle → Answer
in_width binary32 r = short r
in_width binary64 r = double r

-- the coordinates that a field of column c at a place says to have: a `*` field begins with their count, else it is the column's
abbrev pub coordinates_said : Order → List ℕ → ColumnLayout → ℕ → ℕ
coordinates_said o s c at = cond c.star (number o s at 4) c.count

module _ (file index : List ℕ) (t : Table) (i k : ℕ) where
  -- column k has coordinates of parts of this width
  abbrev pub HasCoordinates : Format → Parts → Type 0
  HasCoordinates f p = (column_at t.layout k).kind ≡ type_with f p

  -- the row is accepted
  abbrev pub RowAccepted : Type 0
  RowAccepted = (start : ℕ) × (end : ℕ) × (row_of file index t i ≡ between start end)

  -- its coordinates: in the part of the file that the value shows
  abbrev pub line : Format → Parts → Coordinates
  line f p = coordinates f p t.layout.order (part_of file (value_of file index t i k))

  -- "The x and y of an edge must be finite" and there is one: WHEN A RECTANGLE IS ANSWERED
  pub record Drawn (f : Format) : Type 0 where
    pub row : RowAccepted
    pub column : ColumnThere t k
    pub parts : Parts
    pub kind : HasCoordinates f parts
    pub accepted : bounds.Accepted (line f parts)

  -- and what it is: each bound is attained, no x or y lies beyond it, and it is the earliest of its equals
  pub record RectangleIs (f : Format) (r : Rectangle) : Type 0 where
    pub drawn : Drawn f
    pub rectangle : bounds.RectangleOf (line f drawn.parts) r

  -- ---- when it is refused with the number n at the place p

  -- "13: no such .. column", "A column of another type than C, Z, B, Y is 13."
  abbrev pub NoColumn : ℕ → ℕ → Type 0
  NoColumn n p = RowThere t i × ((ColumnThere t k → ⊥) ⊎ ((f : Format) (q : Parts) → HasCoordinates f q → ⊥)) × (n ≡ 13) × (p ≡ k)

  -- the row's own refusal
  pub record RowBad (n p : ℕ) : Type 0 where
    pub row : RowThere t i
    pub column : ColumnThere t k
    pub format : Format
    pub parts : Parts
    pub kind : HasCoordinates format parts
    pub refused : row_of file index t i ≡ Err (refusal n p)

  -- "12: x or y not finite, or no coordinates", at the lowest such coordinate from 1, or at 0
  pub record LineBad (n p : ℕ) : Type 0 where
    pub row : RowAccepted
    pub column : ColumnThere t k
    pub format : Format
    pub parts : Parts
    pub kind : HasCoordinates format parts
    pub number_12 : n ≡ not_finite_or_none
    pub place : ((count (line format parts) ≡ 0) × (p ≡ 0)) ⊎ At (unfit (line format parts)) (count (line format parts)) p

  -- a rectangle is refused: "13: no such row" first, as a value is
  abbrev pub RefusedWith : ℕ → ℕ → Type 0
  RefusedWith n p = NoRow t i n p ⊎ (NoColumn n p ⊎ (RowBad n p ⊎ LineBad n p))
