-- `tile::columns::bad_entry` meets its contract: the test is that of the definition.
use Rattle.std.proofs.Common.{rules, arith}
use Rattle.tile.specs.Check.{entry_outside}
use Rattle.tile.proofs.RowLaws.{lowest_by}
use Rattle.tile.proofs.columns.bad_entry.Goals as goal

pub returns : goal.returns
returns c = lowest_by (entry_outside c.args.most c.args.a.now) (omega arith) (λ k b l h. search rules) c.lowest_row.ensures
