use Rattle.std.proofs.Common.{refl, arith, ◌∙◌}
use Rattle.header.proofs.PlaceLaws.{seek_here, seek_end, seek_next}
use Rattle.header.proofs.places.seek_byte.Goals as goal

pub loop-i-init : goal.loop-i-init
loop-i-init c = refl

pub returns-then-head-i-clause-value : goal.returns-then-head-i-clause-value
returns-then-head-i-clause-value c = seek_here c.args.head.now c.loop-i.i c.args.byte (omega arith) c.if-head-i.true ∙ c.loop-i.invariant

pub loop-i-preserved : goal.loop-i-preserved
loop-i-preserved c = seek_next c.args.head.now c.loop-i.i c.args.byte (omega arith) c.if-head-i.false ∙ c.loop-i.invariant

pub returns-clause-value : goal.returns-clause-value
returns-clause-value c = seek_end c.args.head.now c.loop-i.i c.args.byte (omega arith) ∙ c.loop-i.invariant
