use Rattle.std.proofs.Common.{◌≡◌, ℕ, ◌≤◌}
use Rattle.laws.specs.Buffer.{front}
use Rattle.laws.specs.Orbit.{iterate}
use Rattle.side.specs.Successor.{after}
use Rattle.tile.specs.Columns.{sides}
use Rattle.tile.proofs.paths.write_sides.Given as goal

abbrev pub invariant-loop-j : goal.invariant-loop-j
invariant-loop-j l = (l.s ≡ iterate (after l.tile.edg) l.j l.start) × (l.s ≤ sides l.tile)
    × (l.out ≡ front (λ (i : ℕ). iterate (after l.tile.edg) i l.start) l.j l.initial.out)
