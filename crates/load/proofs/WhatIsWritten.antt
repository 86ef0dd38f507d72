-- WHAT THE LOADER WRITES IS WHAT THE TABLES SAY: the cell of a right row of an opened table is its column's value, and so a function of
-- that row's own bytes.
use mathlib.Core.Path.{◌≡◌, refl, sym, ap, ◌∙◌}
use mathlib.Core.Bool.{Bool, true, false, cond}
use mathlib.Core.List.{List}
use Prim.Native.Nat.{ℕ, suc, ◌-◌, ◌≤◌, ◌<◌}
use native.Mathlib.Omega.{arith}
use borrow.Author.Tests.{eqb-true, le-ltb}
use lib.Dec.{eqb, ltb}
use lib.ListN.{length, get_or, take, drop}
use Rattle.std.proofs.Common.{Ok}
use Rattle.laws.specs.Lowest.{In}
use Rattle.laws.proofs.LowestLaws.{bool_cases}
use Rattle.laws.proofs.BufferLaws.{length_front, front_low, front_high}
use Rattle.number.specs.declared.Order.{Order}
use Rattle.number.specs.Bytes.{number}
use Rattle.grammar.specs.Words.{Reading}
use Rattle.field.specs.declared.FieldType.{FieldType}
use Rattle.field.specs.declared.FieldType.TheVariants as type
use Rattle.field.specs.Nulls.{short_half, integer_half, signed, short_is_null, float_is_null, double_is_null}
use Rattle.std.proofs.Common.{Some, None, Ok, Err, Option, ℤ}
use Rattle.triplet.specs.Triplet.{Reading as TripletReading, triplet_of}
use Rattle.header.specs.declared.ColumnLayout.{ColumnLayout}
use Rattle.header.specs.declared.Layout.{Layout}
use Rattle.header.specs.Steps.{column_of}
use Rattle.opening.specs.declared.Table.{Table}
use Rattle.table.specs.declared.Value.{Value}
use Rattle.table.specs.declared.Value.TheVariants as val
use Rattle.table.specs.Rows.{column_at, column_place}
use Rattle.table.specs.Values.{integer_of, triplet_of_read, by_type, field_in, shown, value_of}
use Rattle.opening.specs.Words.{Opens}
use Rattle.table.specs.Words.{RowRight, SameRow}
use Rattle.opening.proofs.OpenedExactly.{opened_table}
use Rattle.table.proofs.RowExactly.{inside-file}
use Rattle.table.specs.Serving.OpenedRows.{opened_row}
use Rattle.table.proofs.ValueOfRow.{value_of_row}
use Rattle.taken.specs.Numbers.{natural, internal_id, number_in}
use Rattle.load.specs.declared.TableName.{TableName}
use Rattle.load.specs.declared.Counts.{Counts}
use Rattle.load.specs.Sources.{given, Files, file_of, index_of, table_in, table_of, tables_of, name_at, table_at, columns_of, number_at_place}
use Rattle.load.specs.Cells.{cell_in, cell_of}
use Rattle.load.specs.Load.{load_of, cells_of, column_left}
use Rattle.load.specs.Words.{loaded, loaded_value, OpensWith, layout_in, count_of, Loads}
use Rattle.load.proofs.LoadedExactly.{opened_as, place_found, loaded_exactly}

-- ---- by type

-- a null or a negative number, and no other, is 0
integer_loads : (bits : ℕ) → natural bits ≡ loaded_value (integer_of bits)
unfolding natural
integer_loads bits =
    bool_cases (eqb bits integer_half)
    (λ b. rw (b, le-ltb bits 2147483648 (omega (arith, eqb-true bits integer_half b))))
    (λ b. bool_cases (ltb bits integer_half) (λ c. rw (b, c)) (λ c. rw (b, c)))

triplet_loads : (x : TripletReading) → internal_id x ≡ loaded (triplet_of_read x)
triplet_loads (Ok t) = refl
triplet_loads (Err q) = refl

-- neither of two values stands in a tile
neither_loads : (b : Bool) (x y : Value) → 0 ≡ loaded_value x → 0 ≡ loaded_value y → 0 ≡ loaded_value (cond b x y)
neither_loads true x y e f = e
neither_loads false x y e f = f

number-shown : (k : FieldType) (o : Order) (s : List ℕ) (c : ColumnLayout) (p end : ℕ) → number_in o s k p end ≡ loaded (by_type k o s c p end)
unfolding number_in
number-shown type.Integer o s c p end = integer_loads (number o s p 4)
number-shown type.Triplet o s c p end = triplet_loads (triplet_of o (take (end - p) (drop p s)))
number-shown type.Float o s c p end = let b = number o s p 4 in neither_loads (float_is_null b) (val.FloatNull b) (val.Float b) refl refl
number-shown type.Double o s c p end = let b = number o s p 8 in neither_loads (double_is_null b) (val.DoubleNull b) (val.Double b) refl refl
number-shown type.Short o s c p end = refl
number-shown type.Text o s c p end = refl
number-shown type.Latin o s c p end = refl
number-shown type.ShortPair o s c p end = refl
number-shown type.ShortTriple o s c p end = refl
number-shown type.DoublePair o s c p end = refl
number-shown type.DoubleTriple o s c p end = refl
number-shown type.Date o s c p end = refl
number-shown type.NullField o s c p end = refl

-- a cell is the number of the value that its field shows
cell_shown : (s : List ℕ) (l : Layout) (start end k : ℕ) → cell_in s l start end k ≡ loaded (field_in s l k start end)
unfolding cell_in shown
cell_shown s l start end k = number-shown (column_at l k).kind l.order s (column_at l k) (column_place s l start end k) end

-- ---- column k of row i + 1, which is right, of an opened table
module _ (file index : List ℕ) (most : ℕ) (h : Reading) (n : ℕ) (o : Opens file index most h n) (i : ℕ) (more : i < n) where
  open opened_row file index n (suc i) use {layout as l, table as opened, start, end}

  abbrev row_in : In n (suc i)
  row_in = (omega arith, more)

  module _ (right : RowRight file l start end (suc i)) (k : ℕ) (c : In l.columns k) where
    -- WHAT THE LOADER WRITES IS WHAT THE TABLES SAY
    pub cell_is_value : cell_of file index l k i ≡ loaded (value_of file index opened (suc i) k)
    unfolding cell_of
    cell_is_value =
        let w = inside-file file index most h n o (suc i) row_in in
        cell_shown file l start end k
        ∙ sym (ap loaded (value_of_row file index most h n o (suc i) row_in right k c file
        (record { in_first = w; in_second = w; same = refl })))

    -- IT IS A FUNCTION OF THE ROW'S OWN BYTES: whatever else stands in a file with these, it is the same
    pub cell_of_row : (t : List ℕ) → SameRow file t start end → cell_of file index l k i ≡ cell_in t l start end k
    cell_of_row t e =
        cell_is_value
        ∙ ap loaded (value_of_row file index most h n o (suc i) row_in right k c t e)
        ∙ sym (cell_shown t l start end k)

-- ---- THE LENT COLUMN of place k, d before, where a tile was loaded with the counts c
module _ (f : Files) (most : ℕ) (lengths : List ℕ) (c : Counts) (e : load_of f most lengths ≡ Ok c) (k : ℕ)
    (at_place : In 10 k) (d : List ℕ) where
  abbrev n : TableName
  n = table_at k

  -- the table's column of this place's name
  abbrev column : ℕ
  column = column_of (file_of f n) (name_at k)

  abbrev left : List ℕ
  left = column_left (Ok c) f most n k d

  loads : Loads f most lengths c
  loads = (loaded_exactly f most lengths c).0 e

  abbrev reading : Reading
  reading = (loads.opens n).0

  abbrev opens : OpensWith f most n reading (count_of c n)
  opens = (loads.opens n).1

  table_said : table_in (tables_of f most) n ≡ record { layout = layout_in f n; rows = count_of c n }
  table_said = opened_as f most n reading (count_of c n) opens

  rows_counted : (table_in (tables_of f most) n).rows ≡ count_of c n
  rows_counted = ap (λ (t : Table). t.rows) table_said

  -- the column that is written is that of the name, and the table has it
  column_found : (number_at_place (columns_of f (tables_of f most)) k ≡ column) × In (layout_in f n).columns column
  column_found = place_found f most (λ m. ((loads.opens m).0, count_of c m, (loads.opens m).1)) k at_place (loads.columns k at_place)

  cells_of_lem : (i : ℕ) → cells_of f most n k i ≡ cell_of (file_of f n) (index_of f n) (layout_in f n) column i
  unfolding cells_of
  cells_of_lem i =
      ap (λ (t : Table). cell_of (file_of f n) (index_of f n) t.layout (number_at_place (columns_of f (tables_of f most)) k) i) table_said
      ∙ ap (λ (j : ℕ). cell_of (file_of f n) (index_of f n) (layout_in f n) j i) column_found.0

  -- ELEMENT i IS THE VALUE OF ROW i + 1 in the table's column of this place's name
  pub element_is_value : (i : ℕ) → i < count_of c n
      → get_or left i 0 ≡ loaded (value_of (file_of f n) (index_of f n) (table_of f most n) (suc i) column)
  element_is_value i more =
      front_low (cells_of f most n k) (table_in (tables_of f most) n).rows d i (omega (arith, rows_counted))
      ∙ cells_of_lem i
      ∙ cell_is_value (file_of f n) (index_of f n) most reading (count_of c n) opens i more
      (loads.rows n (suc i) (omega arith, more)) column column_found.1
      ∙ ap (λ (t : Table). loaded (value_of (file_of f n) (index_of f n) t (suc i) column))
      (sym (let t = opened_table (file_of f n) (index_of f n) most reading (count_of c n) opens in ap (λ r. (given r).table) t.1 ∙ t.2))

  -- past the rows nothing is written, and the column is as long as before
  pub rest_as_it_was : (i : ℕ) → count_of c n ≤ i → get_or left i 0 ≡ get_or d i 0
  rest_as_it_was i past = front_high (cells_of f most n k) (table_in (tables_of f most) n).rows d i (omega (arith, rows_counted))

  pub length_as_it_was : number_at_place lengths k ≡ length d → length left ≡ length d
  length_as_it_was q =
      length_front (cells_of f most n k) (table_in (tables_of f most) n).rows d (omega (arith, rows_counted, loads.room k at_place))
