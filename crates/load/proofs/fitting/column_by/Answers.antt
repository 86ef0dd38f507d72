use Rattle.std.proofs.Common.{rules, ◌≡◌, sym, ap, ◌∙◌, None, ℕ}
use Rattle.laws.specs.Lowest.{found}
use Rattle.load.specs.Sources.{fitting}
use Rattle.load.specs.Serving.Named.{column_by}
use Rattle.laws.proofs.FoundLaws.{some_found, none_found}
use Rattle.load.proofs.FitLaws.{none_fits_zero}
use Rattle.load.proofs.fitting.column_by.Goals as goal

pub returns : goal.returns
unfolding column_by
returns c =
    c.fit.ensures ∙ ap (λ (x : ℕ). found (fitting c.args.opened.now.table.layout c.args.place x)) (some_found _ _ (sym c.column_among.ensures ∙ c.in_ok-column.was)).0

pub returns-in_err-column : goal.returns-in_err-column
unfolding column_by
returns-in_err-column c =
    let r : c.from_residual.result ≡ None = search rules in
    r ∙ none_fits_zero c.args.opened.now.table.layout c.args.place _ (none_found _ (sym c.column_among.ensures ∙ c.in_err-column.was))
