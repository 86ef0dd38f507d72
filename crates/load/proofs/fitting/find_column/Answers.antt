use mathlib.Core.Path.{◌≡◌, sym, ◌∙◌}
use Rattle.laws.specs.Lowest.{found}
use Rattle.load.specs.Sources.{file_of, in_tables, table_at}
use Rattle.load.specs.Serving.Named.{column_by, column_placed}
use Rattle.load.proofs.FitLaws.{placed_some, placed_none}
use Rattle.load.proofs.fitting.find_column.Goals as goal
use Rattle.load.proofs.fitting.find_column.Goals.{After-column_by}

said : (c : After-column_by) → c.column_by.result ≡ found (column_by (file_of c.args.sources.now (table_at c.args.place))
    (in_tables c.args.opened.now (table_at c.args.place)) c.args.place c.args.name.now)
said c = rw (← c.table_at-table.ensures, ← c.file.ensures, ← c.of.ensures) c.column_by.ensures

pub returns-in-Some : goal.returns-in-Some
unfolding column_placed
returns-in-Some c = placed_some c.args.place _ _ (sym (said (goal.at.returns-in-Some c).After-column_by) ∙ c.in-Some.is)

pub returns-in-None : goal.returns-in-None
unfolding column_placed
returns-in-None c =
    rw (c.at.ensures, c.table_at-table.ensures) (placed_none c.args.place _ (sym (said (goal.at.returns-in-None c).After-column_by) ∙ c.in-None.is))
