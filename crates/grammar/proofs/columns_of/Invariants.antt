use Prim.Native.Nat.{◌-◌}
use lib.ListN.{length}
use Rattle.grammar.proofs.PassLaws.{Counted}
use Rattle.grammar.proofs.columns_of.Given as goal

abbrev pub invariant-loop-at : goal.invariant-loop-at
invariant-loop-at l = Counted l.text l.at l.cols

abbrev pub decreases-loop-at : goal.decreases-loop-at
decreases-loop-at l = length l.text - l.at
