use Rattle.laws.specs.Lowest.{None}
use Rattle.header.specs.Serving.Stages.{other_key_in}
use Rattle.header.proofs.judge.key_elsewhere.Given as goal

abbrev pub invariant-loop-k : goal.invariant-loop-k
invariant-loop-k l = None (other_key_in l.keys l.id) l.k
