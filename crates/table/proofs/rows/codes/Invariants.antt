use mathlib.Core.Path.{◌≡◌}
use Prim.Native.Nat.{◌≤◌}
use lib.ListN.{replicate}
use Rattle.laws.specs.Buffer.{front}
use Rattle.limits.specs.Limits.{most_columns}
use Rattle.table.specs.Plans.{code_at}
use Rattle.table.proofs.rows.codes.Given as goal

abbrev pub invariant-loop-j : goal.invariant-loop-j
invariant-loop-j l = (l.n ≤ most_columns) × (l.plan ≡ front (code_at l.layout) l.j (replicate most_columns 0))
