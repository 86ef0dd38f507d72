use Rattle.std.proofs.Common.{◌≡◌, refl, ◌∙◌, arith, ◌+◌, ◌*◌}
use Rattle.laws.proofs.LowestLaws.{none_start, none_next}
use Rattle.laws.proofs.FoundLaws.{found_next, found_nothing}
use Rattle.opening.specs.Opening.{entry_wrong}
use Rattle.opening.proofs.OpeningLaws.{end_first, entry_fine, entry_wrong_lem, end_next, entry_number, entry_first}
use Rattle.opening.proofs.wrong_entry.Goals as goal

pub loop-i-init : goal.loop-i-init
loop-i-init c = record { end_here = end_first c.args.layout.now c.args.index.now 0 refl; none = none_start (entry_wrong c.args.layout.now c.args.index.now) }

pub returns-then-offset-end : goal.returns-then-offset-end
returns-then-offset-end c =
    let at = 8 * (c.loop-i.i + 1) in
    let offset = c.read-offset.ensures ∙ entry_first c.args.layout.now.order c.args.index.now at (omega (arith, c.requires)) in
    let p = entry_wrong c.args.layout.now c.args.index.now in
    let w = entry_wrong_lem c.args.layout.now c.args.index.now c.loop-i.i _ c.loop-i.end offset c.loop-i.invariant.end_here c.if-offset-end.true in
    found_next p c.args.n c.loop-i.i c.loop-i-test.true c.loop-i.invariant.none w

pub loop-i-preserved : goal.loop-i-preserved
loop-i-preserved c =
    let at = 8 * (c.loop-i.i + 1) in
    let offset = c.read-offset.ensures ∙ entry_first c.args.layout.now.order c.args.index.now at (omega (arith, c.requires)) in
    let bytes = c.read.ensures ∙ entry_number c.args.layout.now.order c.args.index.now at 4 (omega (arith, c.requires)) (omega arith) in
    record {
      end_here = end_next c.args.layout.now c.args.index.now c.loop-i.i _ c.loop-i.end offset c.loop-i.invariant.end_here _ bytes;
      none = none_next (entry_wrong c.args.layout.now c.args.index.now) c.loop-i.i c.loop-i.invariant.none
          (entry_fine c.args.layout.now c.args.index.now c.loop-i.i _ c.loop-i.end offset c.loop-i.invariant.end_here c.if-offset-end.false);
    }

pub returns : goal.returns
returns c =
    let p = entry_wrong c.args.layout.now c.args.index.now in
    let e : c.loop-i.i ≡ c.args.n = omega (arith, c.loop-i.auto.i-end, c.loop-i-test.false) in
    found_nothing p c.args.n (rw e at c.loop-i.invariant.none)
