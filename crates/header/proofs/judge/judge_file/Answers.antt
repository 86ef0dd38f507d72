use Rattle.std.proofs.Common.{sym, ◌∙◌}
use Rattle.header.proofs.JudgeLaws.{file-short, file_unlisted}
use Rattle.header.proofs.judge.judge_file.Goals as goal

pub returns-then-file-lt5 : goal.returns-then-file-lt5
returns-then-file-lt5 c = file-short c.args.file.now c.if-file-lt5.true c.at.result c.at.ensures

pub judge_sized-requires : goal.judge_sized-requires
judge_sized-requires c = (c.if-file-lt5.false, sym c.order_of.ensures ∙ c.in-Some.is)

pub returns-in-None : goal.returns-in-None
returns-in-None c =
    file_unlisted c.args.file.now c.if-file-lt5.false (sym c.order_of.ensures ∙ c.in-None.is) c.at-in-None.result c.at-in-None.ensures
