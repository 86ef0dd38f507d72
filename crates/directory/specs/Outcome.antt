-- "each at most 65,536 bytes, with at most 2,000 rows per table. Larger is 15: sizes first, in that order ..., then rows as each table
-- opens."
use Rattle.tile.specs.Check.{Verdict}
use Rattle.std.specs.Prelude.{Bool, List, ℕ, Some, None, Result, Ok, Err}
use Rattle.laws.specs.Buffer.{listed}
use Rattle.refusal.specs.declared.Refusal.{Refusal}
use Rattle.refusal.specs.Order.{refusal}
use Rattle.side.specs.Edges.{edges}
use Rattle.tile.specs.Columns.{Tile, tile, F}
use Rattle.tile.specs.Check.{verdict_of, marks_after}
use Rattle.load.specs.declared.TableName.{TableName}
use Rattle.load.specs.declared.TableName.TheVariants.{Edg, Fac, Rng, Cnd}
use Rattle.load.specs.declared.Counts.{Counts}
use Rattle.load.specs.Sources.{Files, table_in, tables_of}
use Rattle.load.specs.Columns.{Columns}
use Rattle.load.specs.Load.{Loaded, cells_of, columns_left, load_of}
use Rattle.report.specs.declared.FileName.{FileName}
use Rattle.directory.specs.declared.Sizes.{Sizes}
use Rattle.limits.specs.Limits.{program_rows}
use Rattle.directory.specs.Files.{AtFault, too_large}
use Rattle.directory.specs.Concerned.{file_of_finding, file_of_verdict}
use Rattle.directory.specs.Columns.{held, short_of}
use Rattle.directory.specs.Files.{Directory, cnx_read, files_read, sizes_taken}
use Rattle.directory.specs.declared.Named.{Named}

-- WHAT IS ANSWERED for a directory: the counts of its tile, or a refusal with its file
abbrev pub Outcome : Type 0
Outcome = Result Counts Named

abbrev pub named : FileName → Refusal → Named
named n q = record { file = n; refusal = q }

-- 15 with the first file at fault, or else the rest
abbrev pub unless_at_fault : AtFault → Outcome → Outcome
unless_at_fault (Some n) rest = Err (named n (refusal 15 0))
unless_at_fault None rest = rest

-- ---- the tile that the files say

-- the numbers of the column of place k in table n, one for each row
abbrev pub column : Files → TableName → ℕ → List ℕ
column f n k = listed (cells_of f program_rows n k) (table_in (tables_of f program_rows) n).rows

unfoldable pub tile_said : Files → Tile
tile_said f =
    tile
    (edges (column f Edg 1) (column f Edg 2) (column f Edg 3) (column f Edg 4) (column f Edg 5) (column f Edg 6))
    (column f Fac 7) (column f Rng 8) (column f Rng 9) (column f Cnd 10)

-- ---- loaded: sizes first, then the load's own answer, with the file that a refusal speaks of

abbrev pub loaded_as : Bool → Loaded → Outcome
loaded_as cnx_read (Ok c) = Ok c
loaded_as cnx_read (Err q) = Err (named (file_of_finding cnx_read q) q.refusal)

-- THE ANSWER TO A LOAD of a directory whose files are said to have these sizes; `lengths` are those of the ten lent columns
unfoldable pub loaded_of : Sizes → Directory → List ℕ → Outcome
loaded_of z d lengths = unless_at_fault (too_large (sizes_taken z d) (cnx_read d)) (loaded_as (cnx_read d) (load_of (files_read d) program_rows lengths))

-- what it leaves in the ten lent columns: those that the files say, over what was there; a refusal changes nothing
abbrev pub columns_after : Outcome → Files → Columns → Columns
columns_after (Ok c) f l = columns_left (Ok c) f program_rows l
columns_after (Err w) f l = l

-- ---- checked: the check's own answer, with the file that a refusal speaks of

-- in a tile with these ring faces and so many faces
abbrev pub checked_by : Counts → List ℕ → ℕ → Verdict → Outcome
checked_by c fac_id faces (Ok tt) = Ok c
checked_by c fac_id faces (Err q) = Err (named (file_of_verdict fac_id faces q) q)

abbrev pub checked_from : Counts → Tile → Verdict → Outcome
checked_from c t v = checked_by c t.fac_id (F t) v

-- the answer to a check of a tile with these counts; `space` is that of the owner marks
unfoldable pub checked_as : Counts → Tile → ℕ → Outcome
checked_as c t space = checked_from c t (verdict_of t space)

-- THE ANSWER TO A CHECK of the tile at the front of ten columns: 15 for counts that the columns cannot have
unfoldable pub checked_of : Counts → Columns → ℕ → Outcome
checked_of c l space = unless_at_fault (short_of c l) (checked_as c (held c l) space)

abbrev pub marks_unless : AtFault → List ℕ → List ℕ → List ℕ
marks_unless (Some n) d checked = d
marks_unless None d checked = checked

-- and what it leaves in the owner marks
unfoldable pub marks_checked : Counts → Columns → List ℕ → List ℕ
marks_checked c l d = marks_unless (short_of c l) d (marks_after (held c l) d)

-- ---- both

abbrev pub then_checked : Outcome → Tile → ℕ → Outcome
then_checked (Ok c) t space = checked_as c t space
then_checked (Err w) t space = Err w

-- THE OUTCOME for a directory: the tile that its files say, loaded, then checked
unfoldable pub outcome_of : Sizes → Directory → List ℕ → ℕ → Outcome
outcome_of z d lengths space = then_checked (loaded_of z d lengths) (tile_said (files_read d)) space
