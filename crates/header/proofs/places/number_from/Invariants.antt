use Rattle.std.proofs.Common.{◌≡◌, ◌-◌, ◌≤◌, take, drop}
use Rattle.header.specs.Places.{decimal}
use Rattle.header.specs.Serving.Stages.{greatest_count}
use Rattle.header.proofs.places.number_from.Given as goal

abbrev pub invariant-loop-i : goal.invariant-loop-i
invariant-loop-i l = (l.value ≤ greatest_count)
    × (decimal l.value (take (l.e - l.i) (drop l.i l.head)) ≡ decimal 0 (take (l.e - l.p) (drop l.p l.head)))
