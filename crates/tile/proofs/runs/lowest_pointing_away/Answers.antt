-- `tile::runs::lowest_pointing_away` meets its contract: the test is that of the definition.
use Rattle.std.proofs.Common.{rules, arith}
use Rattle.tile.specs.Serving.Stages.{points_away}
use Rattle.tile.proofs.RowLaws.{lowest_by}
use Rattle.tile.proofs.runs.lowest_pointing_away.Goals as goal

pub returns : goal.returns
returns c =
    lowest_by (points_away c.args.ring_ptr.now c.args.fac_id.now) (omega arith) (λ k b l h. search rules) c.lowest_row.ensures
