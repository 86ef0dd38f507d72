use Rattle.std.proofs.Common.{◌∙◌}
use native.Mathlib.Nat.{sub-zero}
use Rattle.header.proofs.JudgeLaws.{file_cut, file_long, file_text_lem}
use Rattle.header.proofs.judge.judge_sized.Goals as goal

pub returns-then-file-size : goal.returns-then-file-size
returns-then-file-size c =
    file_cut c.args.file.now c.requires.0 c.args.order c.requires.1 c.read-size.result c.read-size.ensures c.if-file-size.true c.at.result c.at.ensures

pub returns-then-size-gt-MOST_TEXT : goal.returns-then-size-gt-MOST_TEXT
returns-then-size-gt-MOST_TEXT c =
    file_long c.args.file.now c.requires.0 c.args.order c.requires.1 c.read-size.result c.read-size.ensures c.if-file-size.false
    c.if-size-gt-MOST_TEXT.true c.at-then-size-gt-MOST_TEXT.result c.at-then-size-gt-MOST_TEXT.ensures

pub returns : goal.returns
returns c =
    rw sub-zero at c.judge_text.ensures ∙ file_text_lem c.args.file.now c.requires.0 c.args.order c.requires.1
    c.read-size.result c.read-size.ensures c.if-file-size.false c.if-size-gt-MOST_TEXT.false
