-- `tile::columns::bad_node` meets its contract: the test is that of the definition.
use Rattle.std.proofs.Common.{ap, ◌∙◌, rules, arith}
use Rattle.laws.specs.Lowest.{found, lowest}
use Rattle.tile.specs.Columns.{Tile, N}
use Rattle.tile.specs.Check.{first_edge_wrong}
use Rattle.tile.proofs.RowLaws.{lowest_by}
use Rattle.tile.proofs.columns.bad_node.Goals as goal

pub returns : goal.returns
returns c =
    lowest_by (first_edge_wrong c.args.tile.now) (omega arith) (λ k b l h. search rules) c.lowest_row.ensures
    ∙ ap (λ (t : Tile). found (lowest (first_edge_wrong c.args.tile.now) (N t))) c.tile.view_is
