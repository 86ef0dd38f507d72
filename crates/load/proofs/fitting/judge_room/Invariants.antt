use Rattle.laws.specs.Lowest.{None}
use Rattle.load.specs.Load.{too_short}
use Rattle.load.proofs.fitting.judge_room.Given as goal

abbrev pub invariant-loop-i : goal.invariant-loop-i
invariant-loop-i l = None (too_short l.lengths l.rows) l.i
