-- `side::Edges::follow` meets its contract: a link outside 1..E is 22, and else the side is chosen of the four rows that were read.
use mathlib.Core.Path.{sym, ◌∙◌}
use Rattle.side.proofs.SideLaws.{link_outside, link_inside}
use Rattle.side.proofs.Edges.follow.Goals as goal

pub returns-then-is_outside : goal.returns-then-is_outside
returns-then-is_outside c = rw (← c.self.view_is) (link_outside _ _ _ _ (sym c.is_outside.ensures ∙ c.if-is_outside.true))

pub returns : goal.returns
returns c =
    rw (← c.self.view_is)
    (link_inside _ _ _ _ _ _ _ _ _ (sym c.is_outside.ensures ∙ c.if-is_outside.false)
    c.row.ensures c.row-2.ensures c.row-3.ensures c.row-4.ensures c.leaving.ensures)
