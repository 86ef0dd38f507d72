-- `directory::Columns::held` meets its contract: the fronts of the columns are the tile.
use mathlib.Core.Path.{ap, ◌∙◌}
use Rattle.load.specs.Columns.{Columns}
use Rattle.directory.specs.Columns.{held}
use Rattle.directory.proofs.OutcomeLaws.{fronts_held}
use Rattle.directory.proofs.Columns.held.Goals as goal

pub returns : goal.returns
returns c =
    fronts_held c.args.counts _ _ _ _ _ _ _ _ _ _ c.front_of.ensures c.front_of-2.ensures c.front_of-3.ensures c.front_of-4.ensures
    c.front_of-5.ensures c.front_of-6.ensures c.front_of-7.ensures c.front_of-8.ensures c.front_of-9.ensures c.front_of-10.ensures
    ∙ ap (λ (l : Columns). held c.args.counts l) c.self.view_is
