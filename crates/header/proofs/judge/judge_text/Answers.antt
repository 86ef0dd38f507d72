use Rattle.std.proofs.Common.{drop, length-drop, arith, ◌∙◌}
use Rattle.grammar.proofs.ScanBounds.{bad_within}
use Rattle.header.proofs.JudgeLaws.{scanned, text_bad, text_columns}
use Rattle.header.proofs.judge.judge_text.Goals as goal

pub overflow_add-i : goal.overflow_add-i
overflow_add-i c =
    omega (
      arith,
      bad_within (drop 4 c.args.head.now) _ (scanned c.args.head.now _ _ c.scan_text.ensures c.in-Err.is),
      length-drop 4 c.args.head.now,
    )

pub returns-in-Ok : goal.returns-in-Ok
returns-in-Ok c =
    c.judge_columns.ensures ∙ text_columns c.args.order c.args.head.now _ _ (scanned c.args.head.now _ _ c.scan_text.ensures c.in-Ok.is)

pub returns-in-Err : goal.returns-in-Err
returns-in-Err c =
    text_bad c.args.order c.args.head.now _ _ (scanned c.args.head.now _ _ c.scan_text.ensures c.in-Err.is) c.at.result c.at.ensures
