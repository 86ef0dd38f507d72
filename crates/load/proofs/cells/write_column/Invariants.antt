use mathlib.Core.Path.{◌≡◌}
use Rattle.table.specs.Rows.{bound_of}
use Rattle.load.specs.Cells.{cell_of}
use Rattle.load.proofs.CellLaws.{Ready, Written}
use Rattle.load.proofs.cells.write_column.Given as goal

abbrev pub invariant-loop-i : goal.invariant-loop-i
invariant-loop-i l =
    (l.start ≡ bound_of l.table.layout l.index l.i) × Ready l.table.layout l.places × Written (cell_of l.file l.index l.table.layout l.column) l.i l.initial.out l.out
