-- "The file is the table concerned: edg for 14, 20 to 26 and 31, cnd for 27, rng or fac for 28 by its place, rng for 29 and 30. For 8 it
-- is edx or cnx where that file was read, and for 15 by size it is the file too large."
use Rattle.std.specs.Prelude.{Bool, false, cond, List, ℕ, eqb, length}
use Rattle.laws.specs.Orbit.{entry}
use Rattle.refusal.specs.declared.Refusal.{Refusal}
use Rattle.side.specs.Edges.{outside}
use Rattle.load.specs.declared.TableName.{TableName}
use Rattle.load.specs.declared.TableName.TheVariants as table
use Rattle.load.specs.declared.Finding.{Finding}
use Rattle.report.specs.declared.FileName.{FileName}
use Rattle.report.specs.declared.FileName.TheVariants.{Edg, Edx, Fac, Rng, Cnd, Cnx}

-- the file of the table itself
abbrev pub of_table : TableName → FileName
of_table table.Edg = Edg
of_table table.Fac = Fac
of_table table.Rng = Rng
of_table table.Cnd = Cnd

-- the file of the table's index, where that file was read; fac and rng have none
abbrev pub of_index : Bool → TableName → FileName
of_index cnx_read table.Edg = Edx
of_index cnx_read table.Fac = Fac
of_index cnx_read table.Rng = Rng
of_index cnx_read table.Cnd = cond cnx_read Cnx Cnd

-- the file of what loading found
unfoldable pub file_of_finding : Bool → Finding → FileName
file_of_finding cnx_read q = cond (eqb q.refusal.number 8) (of_index cnx_read q.table) (of_table q.table)

-- "rng or fac for 28 by its place": a ring row whose face is out of range, or else it is a face row. (Ring rows are tested before
-- face rows, so a place past the last ring row, or at a ring row whose face is in range, is a face row.)
abbrev pub ring_row : List ℕ → ℕ → ℕ → Bool
ring_row fac_id faces p = cond (outside (length fac_id) p) false (outside faces (entry fac_id p))

-- the file of what the check refused, in a tile with these ring faces and so many faces
unfoldable pub file_of_verdict : List ℕ → ℕ → Refusal → FileName
file_of_verdict fac_id faces q =
    cond (eqb q.number 27) Cnd
    (cond (eqb q.number 28) (cond (ring_row fac_id faces q.place) Rng Fac)
    (cond (eqb q.number 29) Rng (cond (eqb q.number 30) Rng Edg)))
