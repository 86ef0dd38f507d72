use mathlib.Core.Path.{sym, ◌∙◌}
use Rattle.std.proofs.lemmas.Result.{err_from_is_err_and}
use Rattle.load.proofs.TopLaws.{finds_opening, finds_fit, finds_rows, finds_nothing}
use Rattle.load.proofs.judge.Goals as goal

pub returns-in_err-opened : goal.returns-in_err-opened
returns-in_err-opened c =
    let p = err_from_is_err_and c.from_residual.result c.from_residual.ensures.1 in
    rw (p.1, p.2) (sym (finds_opening c.args.sources.now c.args.most c.args.lengths _ (sym c.open_all.ensures ∙ c.in_err-opened.was)))

pub returns-in_err-columns : goal.returns-in_err-columns
returns-in_err-columns c =
    let p = err_from_is_err_and c.from_residual-in_err-columns.result c.from_residual-in_err-columns.ensures.1 in
    rw (p.1, p.2) (sym (finds_fit c.args.sources.now c.args.most c.args.lengths _ (sym c.open_all.ensures ∙ c.in_ok-opened.was)
    _ (sym c.judge_fit.ensures ∙ c.in_err-columns.was)))

pub returns-in_err-judge_all_rows : goal.returns-in_err-judge_all_rows
returns-in_err-judge_all_rows c =
    let p = err_from_is_err_and c.from_residual-in_err-judge_all_rows.result c.from_residual-in_err-judge_all_rows.ensures.1 in
    rw (p.1, p.2) (sym (finds_rows c.args.sources.now c.args.most c.args.lengths _ (sym c.open_all.ensures ∙ c.in_ok-opened.was)
    _ (sym c.judge_fit.ensures ∙ c.in_ok-columns.was) _ (sym c.judge_all_rows.ensures ∙ c.in_err-judge_all_rows.was)))

pub returns : goal.returns
returns c =
    sym (finds_nothing c.args.sources.now c.args.most c.args.lengths _ (sym c.open_all.ensures ∙ c.in_ok-opened.was)
    _ (sym c.judge_fit.ensures ∙ c.in_ok-columns.was) (sym c.judge_all_rows.ensures ∙ c.in_ok-judge_all_rows.was))
