-- `tile::runs::lowest_misplaced` meets its contract. The loop's invariant: the least face of the rows passed that begin a run elsewhere.
use Rattle.std.proofs.Common.{◌∙◌}
use Rattle.tile.proofs.RunLaws.{face_there, least_more}
use Rattle.tile.proofs.runs.lowest_misplaced.Goals as goal

pub misplaced-requires-clause-face : goal.misplaced-requires-clause-face
misplaced-requires-clause-face c = face_there c.args.ring_ptr.now c.args.fac_id.now c.requires c.loop-i.i c.loop-i-test.true

pub loop-i-preserved : goal.loop-i-preserved
loop-i-preserved c =
    c.lesser_of-low.ensures
    ∙ least_more c.args.ring_ptr.now c.args.fac_id.now c.loop-i.i c.loop-i.low c.misplaced.result c.loop-i.invariant c.misplaced.ensures
