-- `directory::files::by_number` meets its contract.
use borrow.Author.Tests.{eq-eqb, ne_eqb}
use mathlib.Core.Path.{sym, ◌∙◌}
use Rattle.directory.proofs.files.by_number.Goals as goal

pub returns-then-number : goal.returns-then-number
returns-then-number c = simp (eq-eqb _ 29 (c.if-number.true ∙ c.number.ensures))

pub returns-then-number-2 : goal.returns-then-number-2
returns-then-number-2 c =
    simp (eq-eqb _ 30 (c.if-number-2.true ∙ c.number-2.ensures), ne_eqb _ 29 (λ e. c.if-number.false (e ∙ sym c.number.ensures)))

pub returns : goal.returns
returns c =
    simp (ne_eqb _ 30 (λ e. c.if-number-2.false (e ∙ sym c.number-2.ensures)), ne_eqb _ 29 (λ e. c.if-number.false (e ∙ sym c.number.ensures)))
