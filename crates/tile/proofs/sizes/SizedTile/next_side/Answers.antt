-- `tile::sizes::SizedTile::next_side` meets its contract: the successor is that of the tile's edges.
use Rattle.std.proofs.Common.{ap, ◌∙◌}
use Rattle.side.specs.Successor.{successor}
use Rattle.tile.specs.Columns.{Tile}
use Rattle.tile.proofs.sizes.SizedTile.next_side.Goals as goal

pub returns : goal.returns
returns c = c.next_side.ensures ∙ ap (λ (t : Tile). successor t.edg c.args.s) (c.tile.view_is ∙ c.self.view_is)
