use Rattle.grammar.proofs.PassLaws.{counted_first}
use Rattle.grammar.proofs.columns_of.Goals as goal

pub loop-at-init : goal.loop-at-init
loop-at-init c = counted_first c.args.text.now c.in_ok-first.ensures c.in_ok-at.ensures
