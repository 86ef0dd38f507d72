use Rattle.opening.proofs.OpeningLaws.{no_entry, by_entry}
use Rattle.opening.proofs.entry_end.Goals as goal

pub returns-then-index-k : goal.returns-then-index-k
returns-then-index-k c =
    no_entry c.args.order c.args.index.now c.args.first c.args.k c.if-index-k.true

pub returns : goal.returns
returns c =
    by_entry c.args.order c.args.index.now c.args.first c.args.k _ _ c.if-k-eq0.false c.read.ensures c.read-2.ensures
