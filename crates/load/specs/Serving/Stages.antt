-- The load in the stages in which it is run: the openings, what fits, the rows, and all with what the writing needs.
use Rattle.std.specs.Prelude.{List, ℕ, Result}
use Rattle.opening.specs.declared.Opened.{Opened}
use Rattle.load.specs.declared.TableName.{TableName}
use Rattle.load.specs.declared.OfTables.{OfTables}
use Rattle.load.specs.declared.Finding.{Finding}
use Rattle.load.specs.declared.Judged.{Judged}
use Rattle.load.specs.Sources.{Files, Tables, tables_of, columns_of}
use Rattle.load.specs.Serving.Named.{opened_in, opened_four, tables_among, columns_by}
use Rattle.load.specs.Load.{unless_found, first_finding, opening, opening_tests, fit_tests, row_tests, load_finding}

-- a table, opened
unfoldable pub opened_as : Files → ℕ → TableName → Result Opened Finding
opened_as f most n = unless_found (opening f most n) (opened_in f most n)

-- all four
unfoldable pub opened_all : Files → ℕ → Result (OfTables Opened) Finding
opened_all f most = unless_found (first_finding (opening_tests f most)) (opened_four f most)

unfoldable pub fit_finding : Tables → List ℕ → List ℕ → Finding
fit_finding t columns lengths = first_finding (fit_tests t columns lengths)

-- the ten columns' numbers, where all fits
unfoldable pub fitted : Files → OfTables Opened → List ℕ → Result (List ℕ) Finding
fitted f o lengths = unless_found (fit_finding (tables_among o) (columns_by f o) lengths) (columns_by f o)

unfoldable pub all_rows_finding : Files → Tables → Finding
all_rows_finding f t = first_finding (row_tests f t)

-- what was opened with the ten columns' numbers, where nothing is found
unfoldable pub judged_of : Files → ℕ → List ℕ → Result Judged Finding
judged_of f most lengths =
    unless_found (load_finding f most lengths) (record { opened = opened_four f most; columns = columns_of f (tables_of f most) })
