-- "Loading opens the four tables in turn, then tests 17 by place, F, then R, zero (15), room (14, by place), then rows table by table,
-- writing nothing past the rows."
use Rattle.std.specs.Prelude.{Bool, cond, List, [], ◌∷◌, ◌++◌, ℕ, zero, suc, eqb, ltb, Result, Ok, Err}
use Rattle.laws.specs.Lowest.{lowest, None}
use Rattle.laws.specs.Buffer.{front}
use Rattle.refusal.specs.declared.Refusal.{Refusal}
use Rattle.refusal.specs.Order.{refusal, fine, refused_if, refuses}
use Rattle.opening.specs.declared.Table.{Table}
use Rattle.opening.specs.Opening.{table_refusal}
use Rattle.table.specs.Rows.{row_judged, rows_refusal}
use Rattle.load.specs.Sources.{Files, Tables, file_of, index_of, table_in, tables_of, table_at, columns_of, number_at_place, rows_for}
use Rattle.load.specs.Columns.{Columns, columns}
use Rattle.load.specs.Cells.{cell_of}
use Rattle.load.specs.declared.TableName.{TableName}
use Rattle.load.specs.declared.TableName.TheVariants.{Edg, Fac, Rng, Cnd}
use Rattle.load.specs.declared.Finding.{Finding}
use Rattle.load.specs.declared.Counts.{Counts}

abbrev pub finding : TableName → Refusal → Finding
finding n q = record { table = n; refusal = q }

-- nothing is found; no table is spoken of
abbrev pub no_finding : Finding
no_finding = finding Edg fine

-- the first of the tests that refuses
unfoldable pub first_found : Finding → Finding → Finding
first_found a b = cond (eqb a.refusal.number 0) b a

abbrev pub first_finding : List Finding → Finding
first_finding [] = no_finding
first_finding (a ∷ l) = first_found a (first_finding l)

-- what is found at the lowest place that fails a test; nothing at 0, where none does
abbrev pub found_at : (ℕ → Finding) → ℕ → Finding
found_at g zero = no_finding
found_at g (suc k) = g (suc k)

-- ---- the tests

-- the opening of a table
abbrev pub opening : Files → ℕ → TableName → Finding
opening f most n = finding n (table_refusal (file_of f n) (index_of f n) most)

-- "opens the four tables in turn"
abbrev pub opening_tests : Files → ℕ → List Finding
opening_tests f most = opening f most Edg ∷ opening f most Fac ∷ opening f most Rng ∷ opening f most Cnd ∷ []

-- "17: tile column missing or of wrong type", by place; the table is that place's
abbrev pub missing : List ℕ → ℕ → Bool
missing columns k = eqb (number_at_place columns k) 0

abbrev pub column_wrong : ℕ → Finding
column_wrong k = finding (table_at k) (refusal 17 k)

unfoldable pub column_finding : List ℕ → Finding
column_finding columns = found_at column_wrong (lowest (missing columns) 10)

-- "F, then R, zero (15)"
unfoldable pub empty_finding : TableName → ℕ → Finding
empty_finding n rows = finding n (refused_if (eqb rows 0) 15 0)

-- the lent column of place k is shorter than its table's rows: 14 with the needed length
abbrev pub too_short : List ℕ → List ℕ → ℕ → Bool
too_short lengths rows k = ltb (number_at_place lengths k) (number_at_place rows k)

abbrev pub room_needed : List ℕ → ℕ → Finding
room_needed rows k = finding (table_at k) (refusal 14 (number_at_place rows k))

unfoldable pub room_finding : List ℕ → List ℕ → Finding
room_finding lengths rows = found_at (room_needed rows) (lowest (too_short lengths rows) 10)

-- `columns` are the ten columns' numbers, `lengths` those of the ten lent columns
abbrev pub fit_tests : Tables → List ℕ → List ℕ → List Finding
fit_tests t columns lengths =
    column_finding columns ∷ empty_finding Fac t.fac.rows ∷ empty_finding Rng t.rng.rows ∷ room_finding lengths (rows_for t) ∷ []

-- every row is accepted
abbrev pub RowsJudged : List ℕ → List ℕ → Table → Type 0
RowsJudged file index t = None (refuses (row_judged file index t.layout)) t.rows

abbrev pub rows_finding : Files → Tables → TableName → Finding
rows_finding f t n = finding n (rows_refusal (file_of f n) (index_of f n) (table_in t n))

-- "then rows table by table"
abbrev pub row_tests : Files → Tables → List Finding
row_tests f t = rows_finding f t Edg ∷ rows_finding f t Fac ∷ rows_finding f t Rng ∷ rows_finding f t Cnd ∷ []

-- the tests in document 01's order
abbrev pub tests : Files → ℕ → List ℕ → List Finding
tests f most lengths =
    opening_tests f most ++ (fit_tests (tables_of f most) (columns_of f (tables_of f most)) lengths ++ row_tests f (tables_of f most))

-- ---- what they find

unfoldable pub load_finding : Files → ℕ → List ℕ → Finding
load_finding f most lengths = first_finding (tests f most lengths)

-- ---- what loading answers and leaves

abbrev pub counts : Tables → Counts
counts t = record { edges = t.edg.rows; faces = t.fac.rows; rings = t.rng.rows; nodes = t.cnd.rows }

-- WHAT LOADING ANSWERS: the counts of the tile, or what was found
abbrev pub Loaded : Type 0
Loaded = Result Counts Finding

-- what is given where nothing is found, or else what is found
unfoldable pub unless_found : {A : Type 0} → Finding → A → Result A Finding
unless_found q a = cond (eqb q.refusal.number 0) (Ok a) (Err q)

-- what a test answers in code
abbrev pub reported : Finding → Result (Unit {0}) Finding
reported q = unless_found q tt

-- THE LOAD
unfoldable pub load_of : Files → ℕ → List ℕ → Loaded
load_of f most lengths = unless_found (load_finding f most lengths) (counts (tables_of f most))

-- the numbers of the column of place k in table n, row 1 first
unfoldable pub cells_of : Files → ℕ → TableName → ℕ → ℕ → ℕ
cells_of f most n k =
    cell_of (file_of f n) (index_of f n) (table_in (tables_of f most) n).layout (number_at_place (columns_of f (tables_of f most)) k)

-- the lent column of place k in table n afterwards: the rows' numbers and the rest as it was; on a refusal all as it was
abbrev pub column_left : Loaded → Files → ℕ → TableName → ℕ → List ℕ → List ℕ
column_left (Ok c) f most n k d = front (cells_of f most n k) (table_in (tables_of f most) n).rows d
column_left (Err q) f most n k d = d

-- and all ten
abbrev pub columns_left : Loaded → Files → ℕ → Columns → Columns
columns_left r f most l =
    columns (column_left r f most Edg 1 l.start_node) (column_left r f most Edg 2 l.end_node) (column_left r f most Edg 3 l.right_face)
    (column_left r f most Edg 4 l.left_face) (column_left r f most Edg 5 l.right_edge) (column_left r f most Edg 6 l.left_edge)
    (column_left r f most Fac 7 l.ring_ptr) (column_left r f most Rng 8 l.fac_id) (column_left r f most Rng 9 l.start_edge)
    (column_left r f most Cnd 10 l.first_edge)
