-- `directory::files::is_ring_row` meets its contract: the place is tested to be a ring row before its face is read.
use mathlib.Core.Path.{sym, ◌∙◌}
use Rattle.directory.proofs.files.is_ring_row.Goals as goal

pub returns-then-is_outside : goal.returns-then-is_outside
returns-then-is_outside c = rw (sym c.is_outside.ensures ∙ c.if-is_outside.true)

pub returns : goal.returns
returns c =
    rw (sym c.is_outside.ensures ∙ c.if-is_outside.false, ← c.row.ensures) c.is_outside-2.ensures
