use Rattle.std.proofs.Common.{◌≡◌, ◌-◌}
use Rattle.tile.specs.Columns.{sides}
use Rattle.tile.specs.Walk.{moves, moves_from}
use Rattle.tile.proofs.paths.count_moves.Given as goal

abbrev pub invariant-loop-k : goal.invariant-loop-k
invariant-loop-k l = moves l.tile.edg l.start ≡ moves_from l.tile.edg l.start (sides l.tile - l.k) l.s l.k
