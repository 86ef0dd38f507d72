-- `tile::owners::find` meets its contract: the test is that of the definition.
use Rattle.std.proofs.Common.{ℕ, eqb, rules, arith}
use Rattle.laws.specs.Orbit.{entry}
use Rattle.tile.proofs.RowLaws.{lowest_by}
use Rattle.tile.proofs.owners.find.Goals as goal

pub returns : goal.returns
returns c =
    lowest_by (λ (s : ℕ). eqb (entry c.args.marks.now s) c.args.v) (omega arith) (λ k b l h. search rules) c.lowest_row.ensures
