-- `side::Edges::next_side` meets its contract: the right and the left side each read their own three columns.
use Rattle.side.proofs.SideLaws.{right_follows, left_follows}
use Rattle.side.proofs.Edges.next_side.Goals as goal

pub returns-then-s-eq1 : goal.returns-then-s-eq1
returns-then-s-eq1 c =
    rw (← c.self.view_is)
    (right_follows _ _ _ _ _ _ c.if-s-eq1.true c.row.ensures c.row-then-s-eq1.ensures c.row-then-s-eq1-2.ensures
    (rw c.self.view_is c.follow.ensures))

pub returns-else-s-eq1 : goal.returns-else-s-eq1
returns-else-s-eq1 c =
    rw (← c.self.view_is)
    (left_follows _ _ _ _ _ _ c.if-s-eq1.false c.row-else-s-eq1.ensures c.row-else-s-eq1-2.ensures
    c.row-else-s-eq1-3.ensures (rw c.self.view_is c.follow-else-s-eq1.ensures))
