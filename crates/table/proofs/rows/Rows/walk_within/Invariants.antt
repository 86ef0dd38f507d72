use mathlib.Core.Path.{◌≡◌}
use Prim.Native.Nat.{◌≤◌}
use Rattle.std.specs.Prelude.{Ok}
use Rattle.table.specs.Plans.{plan_reach, places_left}
use Rattle.table.proofs.rows.Rows.walk_within.Given as goal

abbrev pub invariant-loop-j : goal.invariant-loop-j
invariant-loop-j l =
    (l.at ≤ l.lies.end) × (plan_reach l.self.order l.file l.self.plan l.lies.start l.lies.end l.j ≡ Ok l.at)
    × (l.places ≡ places_left (plan_reach l.self.order l.file l.self.plan l.lies.start l.lies.end) l.j l.initial.places)
