-- `tile::judge` meets its contract: a refusal has the marks cleared.
use Rattle.std.proofs.Common.{ap}
use Rattle.std.specs.Result.{is_err}
use Rattle.tile.proofs.JudgeLaws.{zeros_left, owners_kept}
use Rattle.tile.proofs.judge.Goals as goal

pub returns-in-Err-clause-marks_after : goal.returns-in-Err-clause-marks_after
returns-in-Err-clause-marks_after c =
    zeros_left c.args.tile.now _ c.judge_parts.result c.judge_parts.ensures.value c.args.marks.now c.judge_parts.new.marks
    (ap is_err c.in-Err.is) c.judge_parts.ensures.beyond c.clear.new.marks (rw c.sides.ensures at c.clear.ensures)

pub returns-in-Ok-clause-marks_after : goal.returns-in-Ok-clause-marks_after
returns-in-Ok-clause-marks_after c =
    owners_kept c.args.tile.now _ c.judge_parts.result c.judge_parts.ensures.value c.args.marks.now c.judge_parts.new.marks
    (ap is_err c.in-Ok.is) c.judge_parts.ensures.marks_after
