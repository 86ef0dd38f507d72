use Rattle.std.proofs.Common.{ℕ, ◌<◌, ◌≤◌, false}
use Rattle.tile.proofs.rows.lowest_row.Given as goal

abbrev pub invariant-loop-i : goal.invariant-loop-i
invariant-loop-i g l = goal.F-IsAlwaysCallable g l.fails × ((k : ℕ) → 0 < k → k ≤ l.i → goal.F-post g l.fails k false)
