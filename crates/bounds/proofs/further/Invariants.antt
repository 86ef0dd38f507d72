use mathlib.Core.Path.{◌≡◌}
use Prim.Native.Nat.{◌≤◌}
use Rattle.bounds.specs.Bounds.{rectangle_by, strided, count, Reached}
use Rattle.bounds.proofs.further.Given as goal

abbrev pub invariant-loop-i : goal.invariant-loop-i
invariant-loop-i g l =
    (1 ≤ l.i) × (l.i ≤ l.i-end) × (l.i-end ≡ count (strided g.F.Coordinate.format l.stride l.order l.bytes))
    × Reached (strided g.F.Coordinate.format l.stride l.order l.bytes) l.i (rectangle_by g.F.Coordinate.value l.rectangle)
