use Rattle.std.proofs.Common.{◌≡◌}
use Rattle.laws.specs.Buffer.{front}
use Rattle.laws.specs.Marks.{owner_at, already_met}
use Rattle.laws.specs.Lowest.{None}
use Rattle.side.specs.Successor.{after}
use Rattle.tile.specs.Columns.{sides, start_side}
use Rattle.tile.proofs.owners.Cycles.own.Given as goal

abbrev pub invariant-loop-r : goal.invariant-loop-r
invariant-loop-r l = (l.marks ≡ front (owner_at (after l.self.edg) (sides l.self) (start_side l.self) l.r) (sides l.self) l.initial.marks)
    × None (already_met (after l.self.edg) (sides l.self) (start_side l.self)) l.r
