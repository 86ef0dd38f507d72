use Rattle.header.proofs.HeaderLaws.{accepted_start, refused_start}
use Rattle.header.proofs.JudgeLaws.{sound_passed, refused_by}
use Rattle.header.proofs.first_place.Goals as goal

pub returns-in-Ok : goal.returns-in-Ok
returns-in-Ok c =
    accepted_start c.args.file.now c.in-Ok.judged (sound_passed c.args.file.now c.judge_file.result c.judge_file.ensures c.in-Ok.judged c.in-Ok.is)

pub returns-in-Err : goal.returns-in-Err
returns-in-Err c =
    refused_start c.args.file.now _ (refused_by c.args.file.now c.judge_file.result c.judge_file.ensures _ c.in-Err.is)
