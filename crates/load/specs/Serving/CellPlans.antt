-- The cells of a row by plain numbers, which are taken from the layout once for all rows. That these are its cells is proved in CellLaws.
use Rattle.std.specs.Prelude.{cond, List, ℕ, suc, min, ◌+◌, ◌-◌, eqb, get_or, replicate}
use Rattle.laws.specs.Buffer.{front}
use Rattle.number.specs.declared.Order.{Order}
use Rattle.field.specs.Fields.{letter_of}
use Rattle.header.specs.declared.Layout.{Layout}
use Rattle.limits.specs.Limits.{most_columns}
use Rattle.table.specs.Rows.{column_at}
use Rattle.table.specs.Plans.{places_after}
use Rattle.taken.specs.Numbers.{number_by}

-- ---- where the columns of a row start: `width` is 0 where it must be walked

-- in rows of one width, counted from the row's start
unfoldable pub offsets_of : Layout → List ℕ
offsets_of l = front (λ k. (column_at l (suc k)).offset) most_columns (replicate most_columns 0)

-- where the places are counted from: of a row that is walked, from the file's start
unfoldable pub origin_of : ℕ → ℕ → ℕ
origin_of width start = cond (eqb width 0) 0 start

-- and the places: those that a walk past n columns leaves, or those that there were
unfoldable pub places_for : Order → List ℕ → List ℕ → ℕ → ℕ → ℕ → ℕ → List ℕ → List ℕ
places_for o s plan n width start end old = cond (eqb width 0) (places_after o s plan n start end old) old

-- ---- the six of an edge

-- the letters of the columns' types
unfoldable pub letters_of : Layout → List ℕ → List ℕ
letters_of l columns = front (λ k. letter_of (column_at l (get_or columns k 0)).kind) 6 (replicate 6 0)

-- the cell of column c by its type's letter
abbrev pub cell_at : Order → List ℕ → ℕ → ℕ → List ℕ → ℕ → ℕ → ℕ
cell_at o s letter c places origin end = number_by o s letter (min (origin + get_or places (c - 1) 0) end) end

unfoldable pub cells_at : Order → List ℕ → List ℕ → List ℕ → List ℕ → ℕ → ℕ → List ℕ
cells_at o s letters columns places origin end = front (λ k. cell_at o s (get_or letters k 0) (get_or columns k 0) places origin end) 6 (replicate 6 0)
