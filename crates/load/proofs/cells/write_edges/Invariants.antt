use mathlib.Core.Path.{◌≡◌}
use Rattle.table.specs.Rows.{bound_of}
use Rattle.load.specs.Sources.{number_at_place}
use Rattle.load.specs.Cells.{cell_of}
use Rattle.load.proofs.CellLaws.{Ready, EdgesWritten}
use Rattle.load.proofs.cells.write_edges.Given as goal

abbrev pub invariant-loop-i : goal.invariant-loop-i
invariant-loop-i l =
    (l.start ≡ bound_of l.layout l.index l.i) × Ready l.layout l.places
    × EdgesWritten (λ k. cell_of l.file l.index l.layout (number_at_place l.columns k)) l.i l.initial.out l.out
