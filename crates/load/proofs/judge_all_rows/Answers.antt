use mathlib.Core.Path.{sym, ◌∙◌}
use Rattle.std.proofs.lemmas.Result.{err_from_is_err_and}
use Rattle.load.specs.Serving.Stages.{all_rows_finding}
use Rattle.load.proofs.TopLaws.{passes, finds, alone}
use Rattle.load.proofs.judge_all_rows.Goals as goal

pub returns-in_err-judge_rows : goal.returns-in_err-judge_rows
unfolding all_rows_finding
returns-in_err-judge_rows c =
    let p = err_from_is_err_and c.from_residual.result c.from_residual.ensures.1 in
    rw (p.1, p.2) (sym (finds _ _ _ _ _ (sym c.judge_rows.ensures ∙ c.in_err-judge_rows.was)))

pub returns-in_err-judge_rows-2 : goal.returns-in_err-judge_rows-2
unfolding all_rows_finding
returns-in_err-judge_rows-2 c =
    let p = err_from_is_err_and c.from_residual-in_err-judge_rows-2.result c.from_residual-in_err-judge_rows-2.ensures.1 in
    rw (p.1, p.2) (sym (passes _ _ _ _ _ (sym c.judge_rows.ensures ∙ c.in_ok-judge_rows.was)
    ∙ finds _ _ _ _ _ (sym c.judge_rows-2.ensures ∙ c.in_err-judge_rows-2.was)))

pub returns-in_err-judge_rows-3 : goal.returns-in_err-judge_rows-3
unfolding all_rows_finding
returns-in_err-judge_rows-3 c =
    let p = err_from_is_err_and c.from_residual-in_err-judge_rows-3.result c.from_residual-in_err-judge_rows-3.ensures.1 in
    rw (p.1, p.2) (sym (passes _ _ _ _ _ (sym c.judge_rows.ensures ∙ c.in_ok-judge_rows.was)
    ∙ passes _ _ _ _ _ (sym c.judge_rows-2.ensures ∙ c.in_ok-judge_rows-2.was)
    ∙ finds _ _ _ _ _ (sym c.judge_rows-3.ensures ∙ c.in_err-judge_rows-3.was)))

pub returns : goal.returns
unfolding all_rows_finding
returns c = c.judge_rows-4.ensures ∙ sym (passes _ _ _ _ _ (sym c.judge_rows.ensures ∙ c.in_ok-judge_rows.was)
    ∙ passes _ _ _ _ _ (sym c.judge_rows-2.ensures ∙ c.in_ok-judge_rows-2.was)
    ∙ passes _ _ _ _ _ (sym c.judge_rows-3.ensures ∙ c.in_ok-judge_rows-3.was) ∙ alone _)
