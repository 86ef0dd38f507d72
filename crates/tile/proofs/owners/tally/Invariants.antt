use Rattle.std.proofs.Common.{◌≡◌}
use Rattle.laws.specs.Buffer.{front}
use Rattle.laws.specs.Lowest.{None}
use Rattle.laws.specs.Marks.{count}
use Rattle.refusal.specs.Order.{refuses}
use Rattle.side.specs.Successor.{after}
use Rattle.tile.specs.Columns.{sides}
use Rattle.tile.specs.Check.{edge_side_refusal}
use Rattle.tile.proofs.owners.tally.Given as goal

abbrev pub invariant-loop-i : goal.invariant-loop-i
invariant-loop-i l = (l.marks ≡ front (count (after l.tile.edg) l.i) (sides l.tile) l.initial.marks) × None (refuses (edge_side_refusal l.tile.edg)) l.i
