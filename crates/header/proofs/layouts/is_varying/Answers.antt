use Rattle.header.specs.Layouts.{varies}
use Rattle.header.proofs.layouts.is_varying.Goals as goal

pub returns-then-d : goal.returns-then-d
unfolding varies
returns-then-d c = simp c.if-d.true

pub returns-else-d : goal.returns-else-d
unfolding varies
returns-else-d c = simp (← c.is_triplet.ensures, ← c.kind_of.ensures, c.if-d.false)
