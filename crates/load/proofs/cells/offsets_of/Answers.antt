use mathlib.Core.Path.{◌≡◌, refl, ap, ◌∙◌}
use Prim.Native.Nat.{ℕ, suc}
use native.Mathlib.Omega.{arith}
use lib.ListN.{replicate}
use Rattle.laws.specs.Buffer.{front}
use Rattle.laws.proofs.BufferLaws.{front_next}
use Rattle.limits.specs.Limits.{most_columns}
use Rattle.table.specs.Rows.{column_at}
use Rattle.load.specs.Serving.CellPlans.{offsets_of}
use Rattle.load.proofs.cells.offsets_of.Goals as goal

pub loop-k-preserved : goal.loop-k-preserved
loop-k-preserved c =
    front_next (λ k. (column_at c.args.layout.now (suc k)).offset) c.loop-k.k _ c.loop-k.offsets
    (replicate most_columns 0) c.loop-k.invariant refl (omega arith)

pub returns : goal.returns
unfolding offsets_of
returns c =
    let q : c.loop-k.k ≡ most_columns = omega (arith, c.loop-k-test.false, c.loop-k.auto) in
    c.loop-k.invariant ∙ ap (λ (n : ℕ). front (λ k. (column_at c.args.layout.now (suc k)).offset) n (replicate most_columns 0)) q
