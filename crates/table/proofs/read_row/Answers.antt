use mathlib.Core.Path.{◌≡◌, refl, sym, ◌∙◌}
use Rattle.std.proofs.Common.{rules, Err}
use Rattle.table.proofs.PlanLaws.{row_refused, row_passed}
use Rattle.table.proofs.read_row.Goals as goal

pub returns-in_err-judge_row : goal.returns-in_err-judge_row
returns-in_err-judge_row c =
    let x = c.in_err-judge_row.field-0.0 in
    let r : c.from_residual.result ≡ Err x = search rules in
    r ∙ sym (row_refused c.args.file.now c.args.index.now c.args.table c.args.row _ refl
    (sym c.no_such_row.ensures ∙ c.if-no_such_row.false) _ _ c.lies-lies.ensures.start c.lies-lies.ensures.end x
    (sym c.judge_row.ensures.value ∙ c.in_err-judge_row.was))

pub returns : goal.returns
returns c =
    sym (row_passed c.args.file.now c.args.index.now c.args.table c.args.row _ refl
    (sym c.no_such_row.ensures ∙ c.if-no_such_row.false) _ _ c.lies-lies.ensures.start c.lies-lies.ensures.end
    (sym c.judge_row.ensures.value ∙ c.in_ok-judge_row.was))
