use mathlib.Core.Path.{◌≡◌}
use lib.ListN.{get_or, replicate}
use Rattle.laws.specs.Buffer.{front}
use Rattle.field.specs.Fields.{letter_of}
use Rattle.table.specs.Rows.{column_at}
use Rattle.load.proofs.cells.edge_letters.Given as goal

abbrev pub invariant-loop-k : goal.invariant-loop-k
invariant-loop-k l =
    l.letters ≡ front (λ k. letter_of (column_at l.layout (get_or l.columns k 0)).kind) l.k (replicate 6 0)
