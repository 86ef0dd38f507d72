use mathlib.Core.Path.{◌≡◌}
use lib.ListN.{get_or, replicate}
use Rattle.laws.specs.Buffer.{front}
use Rattle.load.specs.Serving.CellPlans.{cell_at}
use Rattle.load.proofs.cells.edge_cells.Given as goal

abbrev pub invariant-loop-k : goal.invariant-loop-k
invariant-loop-k l =
    l.cells ≡ front (λ k. cell_at l.order l.file (get_or l.letters k 0) (get_or l.columns k 0) l.places l.origin l.end) l.k (replicate 6 0)
