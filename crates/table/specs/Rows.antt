-- Rows: where row i lies, its fields one column after the other, and its judgement.
use Rattle.std.specs.Prelude.{Bool, true, cond, not, List, ℕ, zero, suc, pred, min, ◌+◌, ◌-◌, ◌*◌, eqb, ltb, leb, length, get_or, take, drop, Result, Ok, Err}
use Rattle.refusal.specs.declared.Refusal.{Refusal}
use Rattle.refusal.specs.Order.{refusal, refused_if, first, lowest_of}
use Rattle.number.specs.declared.Order.{Order}
use Rattle.number.specs.Bytes.{number}
use Rattle.field.specs.Fields.{width_of, is_triplet}
use Rattle.triplet.specs.Triplet.{Reading, triplet_of}
use Rattle.header.specs.declared.Layout.{Layout}
use Rattle.header.specs.declared.ColumnLayout.{ColumnLayout}
use Rattle.header.specs.declared.Span.{Span}
use Rattle.limits.specs.Limits.{most_columns, most_rows}
use Rattle.header.specs.Layouts.{blank_column, fixed_bytes}
use Rattle.opening.specs.declared.Table.{Table}
use Rattle.table.specs.declared.Unreached.{Unreached}
use Rattle.table.specs.declared.Unreached.TheVariants.{Short, BadTriplet}
use Rattle.opening.specs.Opening.{needs_index, end_at}

-- rows and columns that a table has, whoever made it
abbrev pub rows_of : Table → ℕ
rows_of t = min t.rows most_rows

abbrev pub columns_of : Layout → ℕ
columns_of l = min l.columns most_columns

-- "13: no such row, ring or column": not one of 1..n
abbrev pub no_such : ℕ → ℕ → Bool
no_such n k = cond (eqb k 0) true (ltb n k)

abbrev pub no_such_row : Table → ℕ → Bool
no_such_row t i = no_such (rows_of t) i

abbrev pub no_such_column : Layout → ℕ → Bool
no_such_column l k = no_such (columns_of l) k

-- column k of a layout, from 1
abbrev pub column_at : Layout → ℕ → ColumnLayout
column_at l k = get_or l.cols (pred k) blank_column

-- where row k ends, and row k + 1 starts: k widths on, or by its entry
unfoldable pub bound_of : Layout → List ℕ → ℕ → ℕ
bound_of l index k = cond (eqb l.width 0) (end_at l index k) (l.start + l.width * k)

-- a row that ends past the file or before it starts; no opened table has one
abbrev pub outside : List ℕ → ℕ → ℕ → Bool
outside s start end = cond (ltb (length s) end) true (ltb end start)

-- ---- fields

-- where a field ends, or why it ends nowhere in the row: the row is too short for it, or it is a bad triplet, and where
abbrev pub Reach : Type 0
Reach = Result ℕ Unreached

-- so many bytes
unfoldable pub plain_end : ℕ → ℕ → ℕ → Reach
plain_end at end need = cond (leb need (end - at)) (Ok (at + need)) (Err Short)

-- "A `*` field begins with an unsigned four-byte count of its elements; zero is allowed."
unfoldable pub star_end : Order → List ℕ → ℕ → ℕ → ℕ → Reach
star_end o s at end width = cond (ltb (end - at) 4) (Err Short) (plain_end (at + 4) end (number o s at 4 * width))

abbrev pub past_triplet : ℕ → Reading → Reach
past_triplet at (Ok t) = Ok (at + t.bytes)
past_triplet at (Err q) = Err (BadTriplet q.place)

unfoldable pub triplet_end : Order → List ℕ → ℕ → ℕ → Reach
triplet_end o s at end = past_triplet at (triplet_of o (take (end - at) (drop at s)))

-- the field of a column that starts at the place `at` of a row that ends at `end`
unfoldable pub field_end : Order → List ℕ → ℕ → ColumnLayout → ℕ → Reach
field_end o s end c at =
    cond (is_triplet c.kind) (triplet_end o s at end)
    (cond c.star (star_end o s at end (width_of c.kind)) (plain_end at end (fixed_bytes c)))

abbrev pub onward : Reach → (ℕ → Reach) → Reach
onward (Ok p) f = f p
onward (Err e) f = Err e

-- past the columns 1..n of a row: each starts where the last ended
abbrev pub reach : List ℕ → Layout → ℕ → ℕ → ℕ → Reach
reach s l start end zero = Ok start
reach s l start end (suc n) = onward (reach s l start end n) (λ p. field_end l.order s end (column_at l (suc n)) p)

-- where column k starts, 0 where the walk stopped before it
abbrev pub place_of : Reach → ℕ
place_of (Ok p) = p
place_of (Err e) = 0

abbrev pub place_of_column : List ℕ → Layout → ℕ → ℕ → ℕ → ℕ
place_of_column s l start end k = place_of (reach s l start end (pred k))

-- ---- the judgement

-- the id of a row whose id column starts at the place p
abbrev pub id_at : List ℕ → Layout → ℕ → ℕ
id_at s l p = number l.order s p 4

-- "9: id in row wrong", where the id starts at the place p
abbrev pub id_judged : Order → List ℕ → ℕ → ℕ → Refusal
id_judged o s p i = refused_if (not (eqb (number o s p 4) i)) 9 i

abbrev pub id_refusal : List ℕ → Layout → ℕ → ℕ → Refusal
id_refusal s l p i = id_judged l.order s p i

-- "Within a row, 10 and 11 by column order (a cut triplet is 11), then 9"; 10 too where the row is not used up
abbrev pub used_up : Reach → ℕ → ℕ → Refusal → Refusal
used_up (Ok p) end i rest = cond (eqb p end) rest (refusal 10 i)
used_up (Err Short) end i rest = refusal 10 i
used_up (Err (BadTriplet q)) end i rest = refusal 11 q

-- where column k starts in the row: by its offset where all rows have one width (within the row in any case), else past the fields
-- before it
abbrev pub offset_place : Layout → ℕ → ℕ → ℕ → ℕ
offset_place l start end k = min (start + (column_at l k).offset) end

unfoldable pub column_place : List ℕ → Layout → ℕ → ℕ → ℕ → ℕ
column_place s l start end k = cond (needs_index l) (place_of_column s l start end k) (offset_place l start end k)

-- the fields of row i from start to end. A row of fixed width has its fields' bytes by the opening: only its id is left to judge
unfoldable pub fields_refusal : List ℕ → Layout → ℕ → ℕ → ℕ → Refusal
fields_refusal s l start end i =
    cond (needs_index l)
    (used_up (reach s l start end (columns_of l)) end i (id_refusal s l (column_place s l start end l.id) i))
    (id_refusal s l (column_place s l start end l.id) i)

-- a row that no fields can be looked for in: it lies outside the file, or its layout, which no header gave, has no id column
abbrev pub place_judged : List ℕ → Bool → ℕ → ℕ → ℕ → Refusal
place_judged s missing start end i = cond (outside s start end) (refusal 10 i) (refused_if missing 9 i)

abbrev pub place_refusal : List ℕ → Layout → ℕ → ℕ → ℕ → Refusal
place_refusal s l start end i = place_judged s (no_such_column l l.id) start end i

-- THE JUDGEMENT of row i that lies from start to end
unfoldable pub row_refusal : List ℕ → Layout → ℕ → ℕ → ℕ → Refusal
row_refusal s l start end i = first (place_refusal s l start end i) (fields_refusal s l start end i)

-- where a row lies, or its refusal
abbrev pub Row : Type 0
Row = Result Span Refusal

abbrev pub between : ℕ → ℕ → Row
between start end = Ok (record { start = start; end = end })

-- where the row lies, unless it is refused
abbrev pub unless_refused : Refusal → ℕ → ℕ → Row
unless_refused q start end = cond (eqb q.number 0) (between start end) (Err q)

-- THE ROW i of a table: where it lies, or its refusal
unfoldable pub row_of : List ℕ → List ℕ → Table → ℕ → Row
row_of file index t i =
    cond (no_such_row t i) (Err (refusal 13 i))
    (unless_refused (row_refusal file t.layout (bound_of t.layout index (pred i)) (bound_of t.layout index i) i)
    (bound_of t.layout index (pred i)) (bound_of t.layout index i))

-- ---- all rows: "lowest row or side first"

-- row i, from where the last ended
abbrev pub row_judged : List ℕ → List ℕ → Layout → ℕ → Refusal
row_judged file index l i = row_refusal file l (bound_of l index (pred i)) (bound_of l index i) i

-- THE ROWS of a table: the judgement of the lowest that is refused
unfoldable pub rows_refusal : List ℕ → List ℕ → Table → Refusal
rows_refusal file index t = lowest_of (row_judged file index t.layout) (rows_of t)
