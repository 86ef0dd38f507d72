use Rattle.header.specs.Serving.Stages.{laid_after}
use Rattle.header.proofs.layouts.lay_column.Goals as goal

pub returns : goal.returns
unfolding laid_after
returns c = simp (← c.count_kept-count.ensures, ← c.kind_of-kind.ensures)
