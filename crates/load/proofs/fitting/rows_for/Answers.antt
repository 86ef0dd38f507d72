use borrow.Author.Rules.{rules}
use Rattle.load.specs.Sources.{rows_for}
use Rattle.load.proofs.fitting.rows_for.Goals as goal

pub returns : goal.returns
unfolding rows_for
returns c = search rules
