use Rattle.laws.specs.Lowest.{None}
use Rattle.header.proofs.StepLaws.{stands_at}
use Rattle.header.proofs.steps.step_in.Given as goal

abbrev pub invariant-loop-k : goal.invariant-loop-k
invariant-loop-k l = None (stands_at l.head l.place) l.k
