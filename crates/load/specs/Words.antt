-- Loading in document 01's words: what a value of a table is in a tile, when a tile is loaded, and which finding is given instead.
use Rattle.std.specs.Prelude.{Some, None, Ok, Err, ◌≡◌, ◌⊎◌, true, List, ℕ, pred, ◌+◌, ◌≤◌, ◌<◌, ℤ, pos, negsuc, length}
use Rattle.laws.specs.Lowest.{In, Each, LowestFailing}
use Rattle.refusal.specs.Order.{refusal}
use Rattle.grammar.specs.Words.{Column, Reading}
use Rattle.field.specs.Letters.{letter_i, letter_k}
use Rattle.header.specs.declared.Layout.{Layout}
use Rattle.header.specs.Layouts.{layout_of}
use Rattle.header.specs.Names.{same_text}
use Rattle.header.specs.Words.{column_at, AcceptedHeader}
use Rattle.table.specs.declared.Value.{Value}
use Rattle.table.specs.declared.Value.TheVariants.{Short, Integer, Float, FloatNull, Double, DoubleNull, Triplet, Text, Date, Coordinates, Empty}
use Rattle.table.specs.Values.{ValueRead}
use Rattle.table.specs.Rows.{bound_of}
use Rattle.opening.specs.Words as opening
use Rattle.table.specs.Words as table
use Rattle.load.specs.Sources.{Files, file_of, index_of, name_at, table_at, number_at_place}
use Rattle.load.specs.Load.{finding}
use Rattle.load.specs.declared.TableName.{TableName}
use Rattle.load.specs.declared.TableName.TheVariants.{Edg, Fac, Rng, Cnd}
use Rattle.load.specs.declared.Finding.{Finding}
use Rattle.load.specs.declared.Counts.{Counts}

-- ---- what a value is in a tile

-- "negative numbers load as 0"
abbrev pub not_negative : ℤ → ℕ
not_negative (pos n) = n
not_negative (negsuc n) = 0

-- "From K the internal id is taken; absent, null or negative numbers load as 0." (An absent id of a triplet reads as 0.) Values of
-- other types stand in no column of a tile
abbrev pub loaded_value : Value → ℕ
loaded_value (Integer (Some v)) = not_negative v
loaded_value (Integer None) = 0
loaded_value (Triplet ids) = ids.id
loaded_value (Short v) = 0
loaded_value (Float b) = 0
loaded_value (FloatNull b) = 0
loaded_value (Double b) = 0
loaded_value (DoubleNull b) = 0
loaded_value (Text e) = 0
loaded_value (Date e) = 0
loaded_value (Coordinates e) = 0
loaded_value Empty = 0

abbrev pub loaded : ValueRead → ℕ
loaded (Ok v) = loaded_value v
loaded (Err q) = 0

-- ---- what loading asks of the four tables

-- "Loading opens the four tables in turn": table n opens with a reading of its header and so many rows
abbrev pub OpensWith : Files → ℕ → TableName → Reading → ℕ → Type 0
OpensWith f most n h rows = opening.Opens (file_of f n) (index_of f n) most h rows

-- the rows that table n says to have
abbrev pub rows_of : Files → TableName → ℕ
rows_of f n = opening.rows_in (file_of f n) (index_of f n)

-- "right_face, left_face, right_edge, left_edge (I or K); .. first_edge (I or K). Others listed are I."
abbrev pub TakesTriplets : ℕ → Type 0
TakesTriplets k = ((3 ≤ k) × (k ≤ 6)) ⊎ (k ≡ 10)

abbrev pub TypeRight : ℕ → Column → Type 0
TypeRight k c = (c.type ≡ letter_i) ⊎ (TakesTriplets k × (c.type ≡ letter_k))

-- the table of place k has a column of its name, "in either case", and of a right type
pub record ColumnThere (f : Files) (k : ℕ) : Type 0 where
  pub reading : Reading
  pub header : AcceptedHeader (file_of f (table_at k)) reading
  pub column : ℕ
  pub within : In (length reading.columns) column
  pub named : same_text (column_at reading column).name (name_at k) ≡ true
  pub type : TypeRight k (column_at reading column)

-- the lent column of place k has an element for each row of its table
abbrev pub RoomFor : Files → List ℕ → ℕ → Type 0
RoomFor f lengths k = rows_of f (table_at k) ≤ number_at_place lengths k

-- where row i of table n starts and ends
abbrev pub layout_in : Files → TableName → Layout
layout_in f n = layout_of (file_of f n)

abbrev pub row_end : Files → TableName → ℕ → ℕ
row_end f n i = bound_of (layout_in f n) (index_of f n) i

abbrev pub row_start : Files → TableName → ℕ → ℕ
row_start f n i = row_end f n (pred i)

-- "Row i must have id i and use exactly its bytes."
abbrev pub RowRight : Files → TableName → ℕ → Type 0
RowRight f n i = table.RowRight (file_of f n) (layout_in f n) (row_start f n i) (row_end f n i) i

-- ---- when a tile is loaded

abbrev pub count_of : Counts → TableName → ℕ
count_of c Edg = c.edges
count_of c Fac = c.faces
count_of c Rng = c.rings
count_of c Cnd = c.nodes

-- A TILE IS LOADED with the counts c EXACTLY WHEN these hold
pub record Loads (f : Files) (most : ℕ) (lengths : List ℕ) (c : Counts) : Type 0 where
  pub opens : (n : TableName) → (h : Reading) × OpensWith f most n h (count_of c n)
  pub columns : Each 10 (ColumnThere f)
  pub faces : 0 < c.faces
  pub rings : 0 < c.rings
  pub room : Each 10 (λ k. count_of c (table_at k) ≤ number_at_place lengths k)
  pub rows : (n : TableName) → Each (count_of c n) (RowRight f n)

-- ---- the tests by name: "opens the four tables in turn, then tests 17 by place, F, then R, zero (15), room (14, by place), then rows
-- table by table"

pub data Test : Type 0 where
  opened : TableName → Test
  columns_there : Test
  faces_some : Test
  rings_some : Test
  room_enough : Test
  rows_right : TableName → Test

-- the place of each table, and of each test, in the order
abbrev pub turn : TableName → ℕ
turn Edg = 0
turn Fac = 1
turn Rng = 2
turn Cnd = 3

abbrev pub rank : Test → ℕ
rank (opened n) = turn n
rank columns_there = 4
rank faces_some = 5
rank rings_some = 6
rank room_enough = 7
rank (rows_right n) = 8 + turn n

-- what each test asks
abbrev pub Holds : Files → ℕ → List ℕ → Test → Type 0
Holds f most lengths (opened n) = (h : Reading) × (rows : ℕ) × OpensWith f most n h rows
Holds f most lengths columns_there = Each 10 (ColumnThere f)
Holds f most lengths faces_some = 0 < rows_of f Fac
Holds f most lengths rings_some = 0 < rows_of f Rng
Holds f most lengths room_enough = Each 10 (RoomFor f lengths)
Holds f most lengths (rows_right n) = Each (rows_of f n) (RowRight f n)

-- "15: .. F or R zero"
abbrev pub IsEmpty : Files → TableName → Finding → Type 0
IsEmpty f n q = (rows_of f n ≡ 0) × (finding n (refusal 15 0) ≡ q)

-- this test fails, and q is found: the table that it speaks of, the number, the place
abbrev pub FailsWith : Files → ℕ → List ℕ → Test → Finding → Type 0
FailsWith f most lengths (opened n) q = (n ≡ q.table) × opening.RefusedWith (file_of f n) (index_of f n) most q.refusal.number q.refusal.place
FailsWith f most lengths columns_there q = (k : ℕ) × LowestFailing 10 (ColumnThere f) k × (finding (table_at k) (refusal 17 k) ≡ q)
FailsWith f most lengths faces_some q = IsEmpty f Fac q
FailsWith f most lengths rings_some q = IsEmpty f Rng q
FailsWith f most lengths room_enough q =
    (k : ℕ) × LowestFailing 10 (RoomFor f lengths) k × (finding (table_at k) (refusal 14 (rows_of f (table_at k))) ≡ q)
FailsWith f most lengths (rows_right n) q =
    (i : ℕ) × LowestFailing (rows_of f n) (RowRight f n) i × (n ≡ q.table)
    × table.RowRefused (file_of f n) (layout_in f n) (row_start f n i) (row_end f n i) i q.refusal.number q.refusal.place

-- A TILE IS REFUSED WITH THE FINDING q EXACTLY WHEN a test fails so and all earlier ones hold
pub record RefusedWith (f : Files) (most : ℕ) (lengths : List ℕ) (q : Finding) : Type 0 where
  pub test : Test
  pub earlier : (x : Test) → rank x < rank test → Holds f most lengths x
  pub fails : FailsWith f most lengths test q
