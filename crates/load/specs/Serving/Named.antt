-- The ten columns found by where the names of the columns lie, which the opening gave: no header is judged anew. That these are the columns
-- of the definition is proved in NamedLaws.
use Rattle.std.specs.Prelude.{cond, List, ℕ, eqb, Result}
use Rattle.header.specs.Names.{column_among}
use Rattle.opening.specs.declared.Opened.{Opened}
use Rattle.opening.specs.Opening.{opened_of}
use Rattle.load.specs.declared.TableName.{TableName}
use Rattle.load.specs.declared.TableName.TheVariants.{Edg, Fac, Rng, Cnd}
use Rattle.load.specs.declared.OfTables.{OfTables}
use Rattle.load.specs.declared.Finding.{Finding}
use Rattle.load.specs.Sources.{Files, Tables, given, file_of, index_of, in_tables, name_at, table_at, fitting, ten}
use Rattle.load.specs.Load.{no_finding, column_wrong, unless_found}

-- as the openings left them
abbrev pub opened_in : Files → ℕ → TableName → Opened
opened_in f most n = given (opened_of (file_of f n) (index_of f n) most)

unfoldable pub opened_four : Files → ℕ → OfTables Opened
opened_four f most = record { edg = opened_in f most Edg; fac = opened_in f most Fac; rng = opened_in f most Rng; cnd = opened_in f most Cnd }

-- the tables among what was opened
abbrev pub tables_among : OfTables Opened → Tables
tables_among o = record { edg = o.edg.table; fac = o.fac.table; rng = o.rng.table; cnd = o.cnd.table }

-- the column of place k in what was opened of its table, by its name
unfoldable pub column_by : List ℕ → Opened → ℕ → List ℕ → ℕ
column_by file o k name = fitting o.table.layout k (column_among file o.names o.table.layout.columns name)

unfoldable pub columns_by : Files → OfTables Opened → List ℕ
columns_by f o = ten (λ n k. column_by (file_of f n) (in_tables o n) k (name_at k))

-- 17 for a place without its column
abbrev pub place_finding : ℕ → ℕ → Finding
place_finding k c = cond (eqb c 0) (column_wrong k) no_finding

unfoldable pub column_placed : Files → OfTables Opened → ℕ → List ℕ → Result ℕ Finding
column_placed f o k name =
    let c = column_by (file_of f (table_at k)) (in_tables o (table_at k)) k name in unless_found (place_finding k c) c
