-- `directory::files::file_of_finding` meets its contract: an index refusal is the index file's, every other the table's.
use borrow.Author.Tests.{eq-eqb, ne_eqb}
use mathlib.Core.Path.{sym, ◌∙◌}
use Rattle.directory.specs.Concerned.{file_of_finding}
use Rattle.directory.proofs.files.file_of_finding.Goals as goal

pub returns-then-found-number : goal.returns-then-found-number
unfolding file_of_finding
returns-then-found-number c = simp (← c.of_index.ensures, eq-eqb _ 8 (c.if-found-number.true ∙ c.number.ensures))

pub returns : goal.returns
unfolding file_of_finding
returns c = simp (← c.of_table.ensures, ne_eqb _ 8 (λ e. c.if-found-number.false (e ∙ sym c.number.ensures)))
