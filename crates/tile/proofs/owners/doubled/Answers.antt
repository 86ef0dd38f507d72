-- `tile::owners::doubled` meets its contract: the first mark that shows two is the lowest side with two predecessors.
use Rattle.std.proofs.Common.{refl, ap, ◌∙◌}
use Rattle.laws.specs.Lowest.{found}
use Rattle.laws.proofs.MarkLaws.{pred_answer}
use Rattle.side.specs.Successor.{after}
use Rattle.side.specs.Edges.{side_count}
use Rattle.tile.proofs.owners.doubled.Goals as goal

pub returns : goal.returns
returns c =
    rw c.sides.ensures at c.find.ensures
    ∙ ap found (pred_answer (after c.args.tile.now.edg) (side_count c.args.tile.now.edg) c.args.marks.now c.args.marks.now c.requires _ refl)
