use Rattle.std.proofs.Common.{rules, ◌≡◌, sym, ◌∙◌, Err}
use Rattle.opening.proofs.OpeningLaws.{header_refused, table_refused, table_opened}
use Rattle.opening.proofs.open_within.Goals as goal

pub returns-in_err-head : goal.returns-in_err-head
returns-in_err-head c =
    let x = c.in_err-head.field-0.0 in
    let r : c.from_residual.result ≡ Err x = search rules in
    r ∙ sym (header_refused c.args.file.now c.args.index.now c.args.most x (sym c.read_header.ensures ∙ c.in_err-head.was))

pub returns-in_err-judge_opening : goal.returns-in_err-judge_opening
returns-in_err-judge_opening c =
    let x = c.in_err-judge_opening.field-0.0 in
    let r : c.from_residual-in_err-judge_opening.result ≡ Err x = search rules in
    r ∙ sym (table_refused c.args.file.now c.args.index.now c.args.most _ (sym c.read_header.ensures ∙ c.in_ok-head.was) x
    (sym c.judge_opening.ensures ∙ c.in_err-judge_opening.was))

pub returns : goal.returns
returns c =
    sym (table_opened c.args.file.now c.args.index.now c.args.most _ (sym c.read_header.ensures ∙ c.in_ok-head.was) _ c.count_rows.ensures
    (sym c.judge_opening.ensures ∙ c.in_ok-judge_opening.was))
