-- The numbers of a tile's columns, row by row.
use Rattle.std.specs.Prelude.{◌≡◌, false, List, ℕ, suc, ◌≤◌, ◌<◌, length}
use Rattle.laws.specs.Buffer.{front}
use Rattle.header.specs.declared.Layout.{Layout}
use Rattle.limits.specs.Limits.{most_columns}
use Rattle.table.specs.Rows.{column_at, no_such_column, bound_of, column_place}
use Rattle.opening.specs.declared.Table.{Table}
use Rattle.taken.specs.Numbers.{number_in}
use Rattle.load.specs.Sources.{number_at_place}
use Rattle.load.specs.Columns.{Columns, columns}

-- the cell of column k in the row from start to end
unfoldable pub cell_in : List ℕ → Layout → ℕ → ℕ → ℕ → ℕ
cell_in s l start end k = number_in l.order s (column_at l k).kind (column_place s l start end k) end

-- THE CELL of column k in row i, for i + 1 = 1, 2, ..: what a lent column holds at i
unfoldable pub cell_of : List ℕ → List ℕ → Layout → ℕ → ℕ → ℕ
cell_of file index l k i = cell_in file l (bound_of l index i) (bound_of l index (suc i)) k

-- ---- what the writing of judged rows stands on

-- the six columns of edges are there
abbrev pub EdgeColumns : Layout → List ℕ → Type 0
EdgeColumns l columns = (k : ℕ) → 0 < k → k ≤ 6 → no_such_column l (number_at_place columns k) ≡ false

abbrev pub SixThere : List ℕ → Type 0
SixThere columns = (k : ℕ) → 0 < k → k ≤ 6 → (0 < number_at_place columns k) × (number_at_place columns k ≤ most_columns)

abbrev pub EdgeRoom : ℕ → Columns → Type 0
EdgeRoom rows d =
    (rows ≤ length d.start_node) × (rows ≤ length d.end_node) × (rows ≤ length d.right_face)
    × (rows ≤ length d.left_face) × (rows ≤ length d.right_edge) × (rows ≤ length d.left_edge)

-- the six written, and the other four as they were
abbrev pub edges_written : List ℕ → List ℕ → Table → List ℕ → Columns → Columns
edges_written file index t numbers d =
    let written : ℕ → List ℕ → List ℕ = λ k old. front (cell_of file index t.layout (number_at_place numbers k)) t.rows old in
    columns (written 1 d.start_node) (written 2 d.end_node) (written 3 d.right_face) (written 4 d.left_face) (written 5 d.right_edge)
    (written 6 d.left_edge) d.ring_ptr d.fac_id d.start_edge d.first_edge
