use Rattle.std.proofs.Common.{arith}
use Rattle.laws.proofs.LowestLaws.{none_start}
use Rattle.header.proofs.NameLaws.{starts-at}
use Rattle.header.proofs.StepLaws.{stands_at, not_here, step_column, step_done, step_none}
use Rattle.header.proofs.steps.step_in.Goals as goal

pub loop-k-init : goal.loop-k-init
loop-k-init c = none_start (stands_at c.args.head.now c.args.place)

pub returns-then-place-names : goal.returns-then-place-names
returns-then-place-names c =
    step_column c.args.head.now c.args.place c.loop-k.k c.loop-k.invariant _ (starts-at c.args.head.now c.args.n c.loop-k.k (omega arith) c.args.names.now c.requires.2)
    c.args.n c.definition_at.result (omega arith) c.if-place-names.true c.definition_at.ensures

pub loop-k-preserved : goal.loop-k-preserved
loop-k-preserved c =
    not_here c.args.head.now c.args.place c.loop-k.k c.loop-k.invariant _
    (starts-at c.args.head.now c.args.n c.loop-k.k (omega arith) c.args.names.now c.requires.2) c.if-place-names.false

pub returns-then-place-after : goal.returns-then-place-after
returns-then-place-after c =
    step_done c.args.head.now c.args.place c.loop-k.k c.loop-k.invariant c.args.n c.args.after (omega arith) (omega arith) c.requires.3 c.if-place-after.true

pub returns : goal.returns
returns c =
    step_none c.args.head.now c.args.place c.loop-k.k c.loop-k.invariant c.args.n c.args.after (omega arith) (omega arith) c.requires.3
    c.at.result c.if-place-after.false c.at.ensures
