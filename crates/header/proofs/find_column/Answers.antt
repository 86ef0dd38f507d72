use Rattle.std.proofs.Common.{ap, ◌∙◌}
use Rattle.laws.specs.Lowest.{found}
use Rattle.header.proofs.HeaderLaws.{accepted_column, refused_column}
use Rattle.header.proofs.JudgeLaws.{sound_passed, refused_by}
use Rattle.header.proofs.find_column.Goals as goal

pub returns-in-Ok : goal.returns-in-Ok
returns-in-Ok c =
    let f = c.in-Ok.judged in
    c.column_among.ensures ∙ ap found (accepted_column c.args.file.now f
    (sound_passed c.args.file.now c.judge_file.result c.judge_file.ensures f c.in-Ok.is) c.args.name.now)

pub returns-in-Err : goal.returns-in-Err
returns-in-Err c =
    ap found (refused_column c.args.file.now _ (refused_by c.args.file.now c.judge_file.result c.judge_file.ensures _ c.in-Err.is) c.args.name.now)
