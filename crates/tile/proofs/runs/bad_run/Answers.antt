-- `tile::runs::bad_run` meets its contract: the lower of the two passes' answers is the lowest face with a wrong run.
use Rattle.std.proofs.Common.{sym, ap, ◌∙◌}
use Rattle.laws.specs.Lowest.{found}
use Rattle.tile.specs.Serving.Stages.{lesser_of}
use Rattle.tile.proofs.RunLaws.{found-lesser, runs_judged}
use Rattle.tile.proofs.runs.bad_run.Goals as goal

pub returns : goal.returns
returns c =
    c.lesser_of.ensures
    ∙ (λ i. lesser_of (c.lowest_pointing_away.ensures i) (c.lowest_misplaced.ensures i))
    ∙ sym (found-lesser _ _)
    ∙ ap found (runs_judged c.args.ring_ptr.now c.args.fac_id.now c.requires)
