use mathlib.Core.Path.{refl, sym, ap, ◌∙◌}
use Rattle.std.proofs.Common.{Ok}
use Rattle.std.proofs.lemmas.Result.{err_from_is_err_and}
use Rattle.load.specs.Serving.Stages.{fit_finding, fitted}
use Rattle.load.proofs.TopLaws.{passes, finds, gives, given_at}
use Rattle.load.proofs.fitting.judge_fit.Goals as goal

pub returns-in_err-columns : goal.returns-in_err-columns
unfolding fit_finding fitted
returns-in_err-columns c =
    let p = err_from_is_err_and c.from_residual.result c.from_residual.ensures.1 in
    rw (p.1, p.2) (sym (finds _ _ _ _ _ (sym c.find_columns.ensures ∙ c.in_err-columns.was)))

pub returns-in_err-judge_empty : goal.returns-in_err-judge_empty
unfolding fit_finding fitted
returns-in_err-judge_empty c =
    let p = err_from_is_err_and c.from_residual-in_err-judge_empty.result c.from_residual-in_err-judge_empty.ensures.1 in
    rw (p.1, p.2) (sym (passes _ _ _ _ _ (sym c.find_columns.ensures ∙ c.in_ok-columns.was)
    ∙ finds _ _ _ _ _ (sym c.judge_empty.ensures ∙ c.in_err-judge_empty.was)))

pub returns-in_err-judge_empty-2 : goal.returns-in_err-judge_empty-2
unfolding fit_finding fitted
returns-in_err-judge_empty-2 c =
    let p = err_from_is_err_and c.from_residual-in_err-judge_empty-2.result c.from_residual-in_err-judge_empty-2.ensures.1 in
    rw (p.1, p.2) (sym (passes _ _ _ _ _ (sym c.find_columns.ensures ∙ c.in_ok-columns.was)
    ∙ passes _ _ _ _ _ (sym c.judge_empty.ensures ∙ c.in_ok-judge_empty.was)
    ∙ finds _ _ _ _ _ (sym c.judge_empty-2.ensures ∙ c.in_err-judge_empty-2.was)))

pub returns-in_err-judge_room : goal.returns-in_err-judge_room
unfolding fit_finding fitted
returns-in_err-judge_room c =
    let p = err_from_is_err_and c.from_residual-in_err-judge_room.result c.from_residual-in_err-judge_room.ensures.1 in
    rw (p.1, p.2) (sym (passes _ _ _ _ _ (sym c.find_columns.ensures ∙ c.in_ok-columns.was)
    ∙ passes _ _ _ _ _ (sym c.judge_empty.ensures ∙ c.in_ok-judge_empty.was)
    ∙ passes _ _ _ _ _ (sym c.judge_empty-2.ensures ∙ c.in_ok-judge_empty-2.was)
    ∙ finds _ _ _ _ _ (sym (rw (← c.rows_for.ensures) c.judge_room.ensures) ∙ c.in_err-judge_room.was)))

pub returns : goal.returns
unfolding fit_finding fitted
returns c =
    ap Ok (sym (gives _ _ _ (sym c.find_columns.ensures ∙ c.in_ok-columns.was))) ∙ sym (passes _ _ _ _ _ (sym c.find_columns.ensures ∙ c.in_ok-columns.was)
    ∙ passes _ _ _ _ _ (sym c.judge_empty.ensures ∙ c.in_ok-judge_empty.was)
    ∙ passes _ _ _ _ _ (sym c.judge_empty-2.ensures ∙ c.in_ok-judge_empty-2.was)
    ∙ passes _ _ _ _ _ (sym (rw (← c.rows_for.ensures) c.judge_room.ensures) ∙ c.in_ok-judge_room.was)
    ∙ given_at _ _ refl)
