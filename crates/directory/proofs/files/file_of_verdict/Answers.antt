-- `directory::files::file_of_verdict` meets its contract: each number has the file that the definition gives it.
use borrow.Author.Tests.{eq-eqb, ne_eqb}
use mathlib.Core.Path.{sym, ◌∙◌}
use Rattle.directory.specs.Concerned.{file_of_verdict}
use Rattle.directory.proofs.files.file_of_verdict.Goals as goal

pub returns-then-refused-number : goal.returns-then-refused-number
unfolding file_of_verdict
returns-then-refused-number c = simp (eq-eqb _ 27 (c.if-refused-number.true ∙ c.number.ensures))

pub returns-then-refused-number-2 : goal.returns-then-refused-number-2
unfolding file_of_verdict
returns-then-refused-number-2 c =
    simp (← c.by_place.ensures, eq-eqb _ 28 (c.if-refused-number-2.true ∙ c.number-2.ensures), ne_eqb _ 27 (λ e. c.if-refused-number.false (e ∙ sym c.number.ensures)))

pub returns : goal.returns
unfolding file_of_verdict
returns c =
    simp (← c.by_number.ensures, ne_eqb _ 28 (λ e. c.if-refused-number-2.false (e ∙ sym c.number-2.ensures)), ne_eqb _ 27 (λ e. c.if-refused-number.false (e ∙ sym c.number.ensures)))
