use borrow.Author.Tests.{eq-eqb, ne_eqb}
use mathlib.Core.Path.{◌≡◌, sym, ap, ◌∙◌, refl}
use Rattle.refusal.specs.Order.{answered}
use Rattle.refusal.proofs.AnswerLaws.{ok-fine, err-is, err-refuses}
use Rattle.table.specs.Rows.{rows_refusal}
use Rattle.load.specs.Sources.{file_of, index_of, table_in}
use Rattle.load.specs.Serving.Named.{tables_among}
use Rattle.load.specs.Load.{unless_found}
use Rattle.load.proofs.NamedLaws.{among}
use Rattle.load.proofs.judge_rows.Goals as goal
use Rattle.load.proofs.judge_rows.Goals.{After-judge_rows}

said : (c : After-judge_rows) → c.judge_rows.result
    ≡ answered (rows_refusal (file_of c.args.sources.now c.args.table) (index_of c.args.sources.now c.args.table) (table_in (tables_among c.args.opened.now) c.args.table))
said c = rw (← among c.args.opened.now c.args.table, ← c.file.ensures, ← c.index.ensures, ← c.of.ensures) c.judge_rows.ensures

pub returns-in-Ok : goal.returns-in-Ok
unfolding unless_found
returns-in-Ok c =
    let z = ok-fine _ (sym (said (goal.at.returns-in-Ok c).After-judge_rows) ∙ c.in-Ok.is) in
    rw (eq-eqb _ 0 z) refl

pub returns-in-Err : goal.returns-in-Err
unfolding unless_found
returns-in-Err c =
    let e = sym (said (goal.at.returns-in-Err c).After-judge_rows) ∙ c.in-Err.is in
    rw (err-is _ _ e, ne_eqb _ 0 (λ z. err-refuses _ _ e (ap (λ r. r.number) (err-is _ _ e) ∙ z))) refl
