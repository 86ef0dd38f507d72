use mathlib.Core.Path.{◌≡◌}
use Prim.Native.Nat.{suc}
use lib.ListN.{replicate}
use Rattle.laws.specs.Buffer.{front}
use Rattle.limits.specs.Limits.{most_columns}
use Rattle.table.specs.Rows.{column_at}
use Rattle.load.proofs.cells.offsets_of.Given as goal

abbrev pub invariant-loop-k : goal.invariant-loop-k
invariant-loop-k l = l.offsets ≡ front (λ k. (column_at l.layout (suc k)).offset) l.k (replicate most_columns 0)
