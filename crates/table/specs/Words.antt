-- "Rows and index" in the paper's words: when a row is right, when it is refused, and which bytes a value depends on.
use Rattle.std.specs.Prelude.{◌≡◌, ◌⊎◌, true, false, List, ℕ, suc, pred, ◌+◌, ◌-◌, ◌*◌, ◌≤◌, length, take, drop, Ok, Err}
use Rattle.laws.specs.Lowest.{In, Each}
use Rattle.refusal.specs.Order.{refusal}
use Rattle.number.specs.declared.Order.{Order}
use Rattle.number.specs.Bytes.{number}
use Rattle.field.specs.declared.FieldType.TheVariants.{Triplet}
use Rattle.field.specs.Fields.{width_of}
use Rattle.triplet.specs.declared.Ids.{Ids}
use Rattle.triplet.specs.Words.{BeginsWith, BadAt}
use Rattle.header.specs.declared.ColumnLayout.{ColumnLayout}
use Rattle.header.specs.declared.Layout.{Layout}
use Rattle.header.specs.LayoutWords.{layout_at}
use Rattle.opening.specs.declared.Table.{Table}
use Rattle.opening.specs.Opening.{offset_at, length_at}
use Rattle.header.specs.Layouts.{layout_of}
use Rattle.opening.specs.Words.{HasOneWidth, NeedsIndex}
use Rattle.table.specs.declared.Value.TheVariants as value
use Rattle.table.specs.Rows.{rows_of, columns_of, column_at, column_place, between, row_of}
use Rattle.table.specs.Values.{ValueRead}

-- ---- where row i lies

-- "all rows have one width": they follow one another from L + 4
pub record LiesByWidth (l : Layout) (i start end : ℕ) : Type 0 where
  pub starts : start ≡ l.start + l.width * pred i
  pub ends : end ≡ start + l.width

-- "n pairs of offset and length": it lies where its entry says
pub record LiesByEntry (l : Layout) (index : List ℕ) (i start end : ℕ) : Type 0 where
  pub starts : start ≡ offset_at l index i
  pub ends : end ≡ start + length_at l index i

-- ROW i of an opened table LIES from start to end
abbrev pub Lies : List ℕ → List ℕ → ℕ → ℕ → ℕ → Type 0
Lies file index i start end =
    (HasOneWidth file × LiesByWidth (layout_of file) i start end) ⊎ (NeedsIndex file × LiesByEntry (layout_of file) index i start end)

-- ---- when a row is right: "Row i must have id i and use exactly its bytes."

-- a field of column c that starts at the place `at`, in a row that ends at `end`, ends at p.
-- "K triplet, 1 to 13" bytes: the row goes on there with a triplet of so many
pub record TripletEnds (o : Order) (s : List ℕ) (end : ℕ) (c : ColumnLayout) (at p : ℕ) : Type 0 where
  pub kind : c.kind ≡ Triplet
  pub ids : Ids
  pub bytes : ℕ
  pub begins : BeginsWith o (take (end - at) (drop at s)) ids bytes
  pub ends : p ≡ at + bytes

-- "A `*` field begins with an unsigned four-byte count of its elements; zero is allowed."
pub record StarEnds (o : Order) (s : List ℕ) (end : ℕ) (c : ColumnLayout) (at p : ℕ) : Type 0 where
  pub kind : c.kind ≡ Triplet → ⊥
  pub star : c.star ≡ true
  pub ends : p ≡ at + 4 + number o s at 4 * width_of c.kind
  pub inside : p ≤ end

-- any other field has the bytes of its count of elements
pub record FixedEnds (end : ℕ) (c : ColumnLayout) (at p : ℕ) : Type 0 where
  pub kind : c.kind ≡ Triplet → ⊥
  pub no_star : c.star ≡ false
  pub ends : p ≡ at + c.count * width_of c.kind
  pub inside : p ≤ end

abbrev pub FieldEnds : Order → List ℕ → ℕ → ColumnLayout → ℕ → ℕ → Type 0
FieldEnds o s end c at p = TripletEnds o s end c at p ⊎ (StarEnds o s end c at p ⊎ FixedEnds end c at p)

-- the fields of a row from start to end, read in column order: column k starts at `place k`. They use exactly the row's bytes
pub record Fields (s : List ℕ) (l : Layout) (start end : ℕ) (place : ℕ → ℕ) : Type 0 where
  pub first : place 1 ≡ start
  pub next : Each l.columns (λ k. FieldEnds l.order s end (layout_at l k) (place k) (place (suc k)))
  pub last : place (suc l.columns) ≡ end

-- A ROW i from start to end IS RIGHT
pub record RowRight (s : List ℕ) (l : Layout) (start end i : ℕ) : Type 0 where
  pub place : ℕ → ℕ
  pub fields : Fields s l start end place
  pub id : number l.order s (place l.id) 4 ≡ i

-- ---- when a row is refused: "Within a row, 10 and 11 by column order (a cut triplet is 11), then 9."

-- the fields of the columns 1..m follow one another from the row's start
pub record Begun (s : List ℕ) (l : Layout) (start end : ℕ) (place : ℕ → ℕ) (m : ℕ) : Type 0 where
  pub first : place 1 ≡ start
  pub next : Each m (λ k. FieldEnds l.order s end (layout_at l k) (place k) (place (suc k)))

-- a column to which the fields before it lead
pub record LedTo (s : List ℕ) (l : Layout) (start end : ℕ) : Type 0 where
  pub place : ℕ → ℕ
  pub column : ℕ
  pub within : In l.columns column
  pub begun : Begun s l start end place (pred column)

-- "10: row too short": the field of a column ends nowhere in the row
pub record FieldMissing (s : List ℕ) (l : Layout) (start end i n p : ℕ) : Type 0 where
  pub number_10 : n ≡ 10
  pub at_row : p ≡ i
  pub at : LedTo s l start end
  pub kind : (layout_at l at.column).kind ≡ Triplet → ⊥
  pub no_end : (q : ℕ) → FieldEnds l.order s end (layout_at l at.column) (at.place at.column) q → ⊥

-- "11: type byte or part bad, or cut short": the row goes on with no triplet, and is bad at p, "counted from the type byte as 0"
pub record TripletBad (s : List ℕ) (l : Layout) (start end n p : ℕ) : Type 0 where
  pub number_11 : n ≡ 11
  pub at : LedTo s l start end
  pub kind : (layout_at l at.column).kind ≡ Triplet
  pub bad : BadAt l.order (take (end - at.place at.column) (drop (at.place at.column) s)) p

-- "10: .. or not used up"
pub record NotUsedUp (s : List ℕ) (l : Layout) (start end i n p : ℕ) : Type 0 where
  pub number_10 : n ≡ 10
  pub at_row : p ≡ i
  pub place : ℕ → ℕ
  pub begun : Begun s l start end place l.columns
  pub left : place (suc l.columns) ≡ end → ⊥

-- "9: id in row wrong"
pub record IdWrong (s : List ℕ) (l : Layout) (start end i n p : ℕ) : Type 0 where
  pub number_9 : n ≡ 9
  pub at_row : p ≡ i
  pub place : ℕ → ℕ
  pub fields : Fields s l start end place
  pub wrong : number l.order s (place l.id) 4 ≡ i → ⊥

-- A ROW i from start to end IS REFUSED WITH n AT p
abbrev pub RowRefused : List ℕ → Layout → ℕ → ℕ → ℕ → ℕ → ℕ → Type 0
RowRefused s l start end i n p =
    FieldMissing s l start end i n p ⊎ (TripletBad s l start end n p ⊎ (NotUsedUp s l start end i n p ⊎ IdWrong s l start end i n p))

-- ---- a value and the bytes of its row

-- s and t have the same bytes from start to end
pub record SameRow (s t : List ℕ) (start end : ℕ) : Type 0 where
  pub in_first : end ≤ length s
  pub in_second : end ≤ length t
  pub same : take (end - start) (drop start s) ≡ take (end - start) (drop start t)

-- "Text and date are shown as parts of the caller's file": the part that a value shows lies from start to end
abbrev pub PartInside : ℕ → ℕ → ValueRead → Type 0
PartInside start end (Ok (value.Text e)) = (start ≤ e.start) × (e.start + e.bytes ≤ end)
PartInside start end (Ok (value.Date e)) = (start ≤ e.start) × (e.start + e.bytes ≤ end)
PartInside start end (Ok (value.Coordinates e)) = (start ≤ e.start) × (e.start + e.bytes ≤ end)
PartInside start end (Ok (value.Short v)) = Unit {0}
PartInside start end (Ok (value.Integer v)) = Unit {0}
PartInside start end (Ok (value.Float b)) = Unit {0}
PartInside start end (Ok (value.FloatNull b)) = Unit {0}
PartInside start end (Ok (value.Double b)) = Unit {0}
PartInside start end (Ok (value.DoubleNull b)) = Unit {0}
PartInside start end (Ok (value.Triplet ids)) = Unit {0}
PartInside start end (Ok value.Empty) = Unit {0}
PartInside start end (Err q) = Unit {0}

-- ---- when a value is refused: over any table, opened or made by anybody

-- row i is one of the table's rows, column k one of its columns
abbrev pub RowThere : Table → ℕ → Type 0
RowThere t i = In (rows_of t) i

abbrev pub ColumnThere : Table → ℕ → Type 0
ColumnThere t k = In (columns_of t.layout) k

-- "13: no such row, ring or column", at the "asked number": the row's first
abbrev pub NoRow : Table → ℕ → ℕ → ℕ → Type 0
NoRow t i n p = (RowThere t i → ⊥) × (n ≡ 13) × (p ≡ i)

abbrev pub NoColumn : Table → ℕ → ℕ → ℕ → ℕ → Type 0
NoColumn t i k n p = RowThere t i × (ColumnThere t k → ⊥) × (n ≡ 13) × (p ≡ k)

-- then the row's own refusal
abbrev pub RowBad : List ℕ → List ℕ → Table → ℕ → ℕ → ℕ → ℕ → Type 0
RowBad file index t i k n p = RowThere t i × ColumnThere t k × (row_of file index t i ≡ Err (refusal n p))

-- last, in a row that is accepted, a field of type K that is no triplet. Such a row is walked, and so has none: it can only be where
-- somebody made a table of one width with a column of type K, which no header gives
pub record NoTriplet (file index : List ℕ) (t : Table) (i k n p : ℕ) : Type 0 where
  pub column : ColumnThere t k
  pub start : ℕ
  pub end : ℕ
  pub accepted : row_of file index t i ≡ between start end
  pub kind : (column_at t.layout k).kind ≡ Triplet
  pub number_11 : n ≡ 11
  pub bad : let at = column_place file t.layout start end k in BadAt t.layout.order (take (end - at) (drop at file)) p

-- A VALUE IS REFUSED WITH n AT p
abbrev pub ValueRefused : List ℕ → List ℕ → Table → ℕ → ℕ → ℕ → ℕ → Type 0
ValueRefused file index t i k n p = NoRow t i n p ⊎ (NoColumn t i k n p ⊎ (RowBad file index t i k n p ⊎ NoTriplet file index t i k n p))
