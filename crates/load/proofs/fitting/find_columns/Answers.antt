use mathlib.Core.Path.{refl, sym, ◌∙◌}
use Rattle.std.proofs.Common.{Ok, ◌∷◌, []}
use Rattle.std.proofs.lemmas.Result.{err_from_is_err_and}
use Rattle.load.specs.Sources.{table_at}
use Rattle.load.specs.Serving.Named.{columns_by, column_placed}
use Rattle.load.proofs.TopLaws.{passes, finds, gives, given_at}
use Rattle.load.proofs.FitLaws.{columns_first}
use Rattle.load.proofs.fitting.find_columns.Goals as goal

pub returns-in_err-find_column : goal.returns-in_err-find_column
unfolding columns_by column_placed table_at
returns-in_err-find_column c =
    let p = err_from_is_err_and c.from_residual.result c.from_residual.ensures.1 in
    rw (p.1, p.2) (sym (columns_first c.args.sources.now c.args.opened.now _
    ∙ finds _ _ _ _ _ (sym c.find_column.ensures ∙ c.in_err-find_column.was)))

pub returns-in_err-find_column-2 : goal.returns-in_err-find_column-2
unfolding columns_by column_placed table_at
returns-in_err-find_column-2 c =
    let p = err_from_is_err_and c.from_residual-in_err-find_column-2.result c.from_residual-in_err-find_column-2.ensures.1 in
    rw (p.1, p.2) (sym (columns_first c.args.sources.now c.args.opened.now _
    ∙ passes _ _ _ _ _ (sym c.find_column.ensures ∙ c.in_ok-find_column.was)
    ∙ finds _ _ _ _ _ (sym c.find_column-2.ensures ∙ c.in_err-find_column-2.was)))

pub returns-in_err-find_column-3 : goal.returns-in_err-find_column-3
unfolding columns_by column_placed table_at
returns-in_err-find_column-3 c =
    let p = err_from_is_err_and c.from_residual-in_err-find_column-3.result c.from_residual-in_err-find_column-3.ensures.1 in
    rw (p.1, p.2) (sym (columns_first c.args.sources.now c.args.opened.now _
    ∙ passes _ _ _ _ _ (sym c.find_column.ensures ∙ c.in_ok-find_column.was)
    ∙ passes _ _ _ _ _ (sym c.find_column-2.ensures ∙ c.in_ok-find_column-2.was)
    ∙ finds _ _ _ _ _ (sym c.find_column-3.ensures ∙ c.in_err-find_column-3.was)))

pub returns-in_err-find_column-4 : goal.returns-in_err-find_column-4
unfolding columns_by column_placed table_at
returns-in_err-find_column-4 c =
    let p = err_from_is_err_and c.from_residual-in_err-find_column-4.result c.from_residual-in_err-find_column-4.ensures.1 in
    rw (p.1, p.2) (sym (columns_first c.args.sources.now c.args.opened.now _
    ∙ passes _ _ _ _ _ (sym c.find_column.ensures ∙ c.in_ok-find_column.was)
    ∙ passes _ _ _ _ _ (sym c.find_column-2.ensures ∙ c.in_ok-find_column-2.was)
    ∙ passes _ _ _ _ _ (sym c.find_column-3.ensures ∙ c.in_ok-find_column-3.was)
    ∙ finds _ _ _ _ _ (sym c.find_column-4.ensures ∙ c.in_err-find_column-4.was)))

pub returns-in_err-find_column-5 : goal.returns-in_err-find_column-5
unfolding columns_by column_placed table_at
returns-in_err-find_column-5 c =
    let p = err_from_is_err_and c.from_residual-in_err-find_column-5.result c.from_residual-in_err-find_column-5.ensures.1 in
    rw (p.1, p.2) (sym (columns_first c.args.sources.now c.args.opened.now _
    ∙ passes _ _ _ _ _ (sym c.find_column.ensures ∙ c.in_ok-find_column.was)
    ∙ passes _ _ _ _ _ (sym c.find_column-2.ensures ∙ c.in_ok-find_column-2.was)
    ∙ passes _ _ _ _ _ (sym c.find_column-3.ensures ∙ c.in_ok-find_column-3.was)
    ∙ passes _ _ _ _ _ (sym c.find_column-4.ensures ∙ c.in_ok-find_column-4.was)
    ∙ finds _ _ _ _ _ (sym c.find_column-5.ensures ∙ c.in_err-find_column-5.was)))

pub returns-in_err-find_column-6 : goal.returns-in_err-find_column-6
unfolding columns_by column_placed table_at
returns-in_err-find_column-6 c =
    let p = err_from_is_err_and c.from_residual-in_err-find_column-6.result c.from_residual-in_err-find_column-6.ensures.1 in
    rw (p.1, p.2) (sym (columns_first c.args.sources.now c.args.opened.now _
    ∙ passes _ _ _ _ _ (sym c.find_column.ensures ∙ c.in_ok-find_column.was)
    ∙ passes _ _ _ _ _ (sym c.find_column-2.ensures ∙ c.in_ok-find_column-2.was)
    ∙ passes _ _ _ _ _ (sym c.find_column-3.ensures ∙ c.in_ok-find_column-3.was)
    ∙ passes _ _ _ _ _ (sym c.find_column-4.ensures ∙ c.in_ok-find_column-4.was)
    ∙ passes _ _ _ _ _ (sym c.find_column-5.ensures ∙ c.in_ok-find_column-5.was)
    ∙ finds _ _ _ _ _ (sym c.find_column-6.ensures ∙ c.in_err-find_column-6.was)))

pub returns-in_err-find_column-7 : goal.returns-in_err-find_column-7
unfolding columns_by column_placed table_at
returns-in_err-find_column-7 c =
    let p = err_from_is_err_and c.from_residual-in_err-find_column-7.result c.from_residual-in_err-find_column-7.ensures.1 in
    rw (p.1, p.2) (sym (columns_first c.args.sources.now c.args.opened.now _
    ∙ passes _ _ _ _ _ (sym c.find_column.ensures ∙ c.in_ok-find_column.was)
    ∙ passes _ _ _ _ _ (sym c.find_column-2.ensures ∙ c.in_ok-find_column-2.was)
    ∙ passes _ _ _ _ _ (sym c.find_column-3.ensures ∙ c.in_ok-find_column-3.was)
    ∙ passes _ _ _ _ _ (sym c.find_column-4.ensures ∙ c.in_ok-find_column-4.was)
    ∙ passes _ _ _ _ _ (sym c.find_column-5.ensures ∙ c.in_ok-find_column-5.was)
    ∙ passes _ _ _ _ _ (sym c.find_column-6.ensures ∙ c.in_ok-find_column-6.was)
    ∙ finds _ _ _ _ _ (sym c.find_column-7.ensures ∙ c.in_err-find_column-7.was)))

pub returns-in_err-find_column-8 : goal.returns-in_err-find_column-8
unfolding columns_by column_placed table_at
returns-in_err-find_column-8 c =
    let p = err_from_is_err_and c.from_residual-in_err-find_column-8.result c.from_residual-in_err-find_column-8.ensures.1 in
    rw (p.1, p.2) (sym (columns_first c.args.sources.now c.args.opened.now _
    ∙ passes _ _ _ _ _ (sym c.find_column.ensures ∙ c.in_ok-find_column.was)
    ∙ passes _ _ _ _ _ (sym c.find_column-2.ensures ∙ c.in_ok-find_column-2.was)
    ∙ passes _ _ _ _ _ (sym c.find_column-3.ensures ∙ c.in_ok-find_column-3.was)
    ∙ passes _ _ _ _ _ (sym c.find_column-4.ensures ∙ c.in_ok-find_column-4.was)
    ∙ passes _ _ _ _ _ (sym c.find_column-5.ensures ∙ c.in_ok-find_column-5.was)
    ∙ passes _ _ _ _ _ (sym c.find_column-6.ensures ∙ c.in_ok-find_column-6.was)
    ∙ passes _ _ _ _ _ (sym c.find_column-7.ensures ∙ c.in_ok-find_column-7.was)
    ∙ finds _ _ _ _ _ (sym c.find_column-8.ensures ∙ c.in_err-find_column-8.was)))

pub returns-in_err-find_column-9 : goal.returns-in_err-find_column-9
unfolding columns_by column_placed table_at
returns-in_err-find_column-9 c =
    let p = err_from_is_err_and c.from_residual-in_err-find_column-9.result c.from_residual-in_err-find_column-9.ensures.1 in
    rw (p.1, p.2) (sym (columns_first c.args.sources.now c.args.opened.now _
    ∙ passes _ _ _ _ _ (sym c.find_column.ensures ∙ c.in_ok-find_column.was)
    ∙ passes _ _ _ _ _ (sym c.find_column-2.ensures ∙ c.in_ok-find_column-2.was)
    ∙ passes _ _ _ _ _ (sym c.find_column-3.ensures ∙ c.in_ok-find_column-3.was)
    ∙ passes _ _ _ _ _ (sym c.find_column-4.ensures ∙ c.in_ok-find_column-4.was)
    ∙ passes _ _ _ _ _ (sym c.find_column-5.ensures ∙ c.in_ok-find_column-5.was)
    ∙ passes _ _ _ _ _ (sym c.find_column-6.ensures ∙ c.in_ok-find_column-6.was)
    ∙ passes _ _ _ _ _ (sym c.find_column-7.ensures ∙ c.in_ok-find_column-7.was)
    ∙ passes _ _ _ _ _ (sym c.find_column-8.ensures ∙ c.in_ok-find_column-8.was)
    ∙ finds _ _ _ _ _ (sym c.find_column-9.ensures ∙ c.in_err-find_column-9.was)))

pub returns-in_err-find_column-10 : goal.returns-in_err-find_column-10
unfolding columns_by column_placed table_at
returns-in_err-find_column-10 c =
    let p = err_from_is_err_and c.from_residual-in_err-find_column-10.result c.from_residual-in_err-find_column-10.ensures.1 in
    rw (p.1, p.2) (sym (columns_first c.args.sources.now c.args.opened.now _
    ∙ passes _ _ _ _ _ (sym c.find_column.ensures ∙ c.in_ok-find_column.was)
    ∙ passes _ _ _ _ _ (sym c.find_column-2.ensures ∙ c.in_ok-find_column-2.was)
    ∙ passes _ _ _ _ _ (sym c.find_column-3.ensures ∙ c.in_ok-find_column-3.was)
    ∙ passes _ _ _ _ _ (sym c.find_column-4.ensures ∙ c.in_ok-find_column-4.was)
    ∙ passes _ _ _ _ _ (sym c.find_column-5.ensures ∙ c.in_ok-find_column-5.was)
    ∙ passes _ _ _ _ _ (sym c.find_column-6.ensures ∙ c.in_ok-find_column-6.was)
    ∙ passes _ _ _ _ _ (sym c.find_column-7.ensures ∙ c.in_ok-find_column-7.was)
    ∙ passes _ _ _ _ _ (sym c.find_column-8.ensures ∙ c.in_ok-find_column-8.was)
    ∙ passes _ _ _ _ _ (sym c.find_column-9.ensures ∙ c.in_ok-find_column-9.was)
    ∙ finds _ _ _ _ _ (sym c.find_column-10.ensures ∙ c.in_err-find_column-10.was)))

pub returns : goal.returns
unfolding columns_by column_placed table_at
returns c =
    let g₀ = gives _ _ _ (sym c.find_column.ensures ∙ c.in_ok-find_column.was) in
    let g₁ = gives _ _ _ (sym c.find_column-2.ensures ∙ c.in_ok-find_column-2.was) in
    let g₂ = gives _ _ _ (sym c.find_column-3.ensures ∙ c.in_ok-find_column-3.was) in
    let g₃ = gives _ _ _ (sym c.find_column-4.ensures ∙ c.in_ok-find_column-4.was) in
    let g₄ = gives _ _ _ (sym c.find_column-5.ensures ∙ c.in_ok-find_column-5.was) in
    let g₅ = gives _ _ _ (sym c.find_column-6.ensures ∙ c.in_ok-find_column-6.was) in
    let g₆ = gives _ _ _ (sym c.find_column-7.ensures ∙ c.in_ok-find_column-7.was) in
    let g₇ = gives _ _ _ (sym c.find_column-8.ensures ∙ c.in_ok-find_column-8.was) in
    let g₈ = gives _ _ _ (sym c.find_column-9.ensures ∙ c.in_ok-find_column-9.was) in
    let g₉ = gives _ _ _ (sym c.find_column-10.ensures ∙ c.in_ok-find_column-10.was) in
    (λ i. Ok (sym g₀ i ∷ sym g₁ i ∷ sym g₂ i ∷ sym g₃ i ∷ sym g₄ i ∷ sym g₅ i ∷ sym g₆ i ∷ sym g₇ i ∷ sym g₈ i ∷ sym g₉ i ∷ []))
    ∙ sym (columns_first c.args.sources.now c.args.opened.now _
    ∙ passes _ _ _ _ _ (sym c.find_column.ensures ∙ c.in_ok-find_column.was)
    ∙ passes _ _ _ _ _ (sym c.find_column-2.ensures ∙ c.in_ok-find_column-2.was)
    ∙ passes _ _ _ _ _ (sym c.find_column-3.ensures ∙ c.in_ok-find_column-3.was)
    ∙ passes _ _ _ _ _ (sym c.find_column-4.ensures ∙ c.in_ok-find_column-4.was)
    ∙ passes _ _ _ _ _ (sym c.find_column-5.ensures ∙ c.in_ok-find_column-5.was)
    ∙ passes _ _ _ _ _ (sym c.find_column-6.ensures ∙ c.in_ok-find_column-6.was)
    ∙ passes _ _ _ _ _ (sym c.find_column-7.ensures ∙ c.in_ok-find_column-7.was)
    ∙ passes _ _ _ _ _ (sym c.find_column-8.ensures ∙ c.in_ok-find_column-8.was)
    ∙ passes _ _ _ _ _ (sym c.find_column-9.ensures ∙ c.in_ok-find_column-9.was)
    ∙ passes _ _ _ _ _ (sym c.find_column-10.ensures ∙ c.in_ok-find_column-10.was)
    ∙ given_at _ _ refl)
