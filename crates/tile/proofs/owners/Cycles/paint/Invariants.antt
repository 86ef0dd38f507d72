use Rattle.std.proofs.Common.{◌≡◌, ℕ, eqb}
use Rattle.laws.specs.Buffer.{front}
use Rattle.laws.specs.Lowest.{None}
use Rattle.laws.specs.Marks.{painted}
use Rattle.laws.specs.Orbit.{iterate}
use Rattle.side.specs.Successor.{after}
use Rattle.tile.specs.Columns.{sides}
use Rattle.tile.proofs.owners.Cycles.paint.Given as goal

abbrev pub invariant-loop : goal.invariant-loop
invariant-loop l = (l.s ≡ iterate (after l.self.edg) l.counter l.start)
    × (l.marks ≡ front (painted (after l.self.edg) l.initial.marks l.start l.row l.counter) (sides l.self) l.initial.marks)
    × None (λ (m : ℕ). eqb (iterate (after l.self.edg) m l.start) l.start) l.counter
