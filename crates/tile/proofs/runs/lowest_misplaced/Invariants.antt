use Rattle.std.proofs.Common.{◌≡◌}
use Rattle.laws.specs.Lowest.{found, least}
use Rattle.laws.specs.Orbit.{entry}
use Rattle.tile.specs.Serving.Stages.{begins_elsewhere}
use Rattle.tile.proofs.runs.lowest_misplaced.Given as goal

abbrev pub invariant-loop-i : goal.invariant-loop-i
invariant-loop-i l = l.low ≡ found (least (begins_elsewhere l.ring_ptr l.fac_id) (entry l.fac_id) l.i)
