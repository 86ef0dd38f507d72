use Rattle.std.proofs.Common.{◌+◌, ◌*◌, refl, sym, arith, ◌∙◌}
use Rattle.header.proofs.CountLaws.{decimal_next, decimal_done, decimal_bound}
use Rattle.header.proofs.places.number_from.Goals as goal

pub loop-i-init : goal.loop-i-init
loop-i-init c = (omega arith, refl)

pub loop-i-preserved : goal.loop-i-preserved
loop-i-preserved c =
    let q = rw (← c.digit_of.ensures.value) at
    (sym (decimal_next c.args.head.now c.args.p c.args.e c.loop-i.i c.loop-i.value (omega arith) (omega arith)) ∙ c.loop-i.invariant.1) in (
      decimal_bound c.args.head.now c.args.p c.args.e (c.loop-i.i + 1) (c.loop-i.value * 10 + c.digit_of.result) (λ k. omega (arith, c.type_inv.head k)) (omega arith) q,
      q,
    )

pub returns : goal.returns
returns c = decimal_done c.args.head.now c.args.p c.args.e c.loop-i.i c.loop-i.value (omega arith) ∙ c.loop-i.invariant.1
