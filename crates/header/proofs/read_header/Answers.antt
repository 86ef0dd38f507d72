use Rattle.header.proofs.HeaderLaws.{accepted_header, refused_header}
use Rattle.header.proofs.JudgeLaws.{sound_passed, refused_by}
use Rattle.header.proofs.read_header.Goals as goal

pub returns-in-Ok : goal.returns-in-Ok
returns-in-Ok c =
    accepted_header c.args.file.now c.in-Ok.accepted
    (sound_passed c.args.file.now c.judge_file.result c.judge_file.ensures c.in-Ok.accepted c.in-Ok.is)

pub returns-in-Err : goal.returns-in-Err
returns-in-Err c =
    refused_header c.args.file.now c.in-Err.refusal
    (refused_by c.args.file.now c.judge_file.result c.judge_file.ensures c.in-Err.refusal c.in-Err.is)
