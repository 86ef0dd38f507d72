-- `tile::columns::bad_row` meets its contract: the test is that of the definition.
use Rattle.std.proofs.Common.{rules, arith}
use Rattle.tile.specs.Check.{row_outside}
use Rattle.tile.proofs.RowLaws.{lowest_by}
use Rattle.tile.proofs.columns.bad_row.Goals as goal

pub returns : goal.returns
returns c =
    lowest_by (row_outside c.args.most c.args.a.now c.args.b.now) (omega arith) (λ k b l h. search rules) c.lowest_row.ensures
