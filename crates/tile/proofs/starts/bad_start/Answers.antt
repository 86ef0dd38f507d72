-- `tile::starts::bad_start` meets its contract: the test is that of the definition.
use Rattle.std.proofs.Common.{ap, ◌∙◌, rules, arith}
use Rattle.laws.specs.Lowest.{found, lowest}
use Rattle.tile.specs.Columns.{Tile, R}
use Rattle.tile.specs.Check.{start_wrong}
use Rattle.tile.proofs.RowLaws.{lowest_by}
use Rattle.tile.proofs.starts.bad_start.Goals as goal

pub returns : goal.returns
returns c =
    lowest_by (start_wrong c.args.tile.now) (omega arith) (λ k b l h. search rules) c.lowest_row.ensures
    ∙ ap (λ (t : Tile). found (lowest (start_wrong c.args.tile.now) (R t))) (c.columns.view_is ∙ c.tile.view_is)
