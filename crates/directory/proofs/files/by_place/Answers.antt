-- `directory::files::by_place` meets its contract.
use mathlib.Core.Path.{sym, ◌∙◌}
use Rattle.directory.proofs.files.by_place.Goals as goal

pub returns-then-is_ring_row : goal.returns-then-is_ring_row
returns-then-is_ring_row c = rw (sym c.is_ring_row.ensures ∙ c.if-is_ring_row.true)

pub returns : goal.returns
returns c = rw (sym c.is_ring_row.ensures ∙ c.if-is_ring_row.false)
