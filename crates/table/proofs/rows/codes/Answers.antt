use mathlib.Core.Path.{◌≡◌, refl, ap, ◌∙◌}
use Prim.Native.Nat.{ℕ}
use native.Mathlib.Omega.{arith}
use lib.ListN.{replicate}
use Rattle.laws.proofs.BufferLaws.{front_next}
use Rattle.laws.specs.Buffer.{front}
use Rattle.limits.specs.Limits.{most_columns}
use Rattle.table.specs.Plans.{code_at, plan_of}
use Rattle.table.proofs.rows.codes.Goals as goal

pub loop-j-init : goal.loop-j-init
loop-j-init c = (omega (arith, c.columns_within-n.ensures), refl)

pub loop-j-preserved : goal.loop-j-preserved
loop-j-preserved c = (
  c.loop-j.invariant.0,
  front_next (code_at c.args.layout.now) c.loop-j.j _ c.loop-j.plan (replicate most_columns 0) c.loop-j.invariant.1
      c.code_of.ensures (omega (arith, c.loop-j.invariant.0)),
)

pub returns : goal.returns
unfolding plan_of
returns c =
    let q : c.loop-j.j ≡ c.columns_within-n.result = omega arith in
    c.loop-j.invariant.1 ∙ ap (λ (k : ℕ). front (code_at c.args.layout.now) k (replicate most_columns 0)) (q ∙ c.columns_within-n.ensures)
