use mathlib.Core.Path.{◌≡◌}
use mathlib.Core.Bool.{cond}
use Rattle.load.specs.Sources.{fitting}
use Rattle.load.proofs.FitLaws.{in_layout, found_some}
use Rattle.load.proofs.fitting.fit.Goals as goal
use Rattle.load.proofs.fitting.fit.Goals.{After-type_fits}

pub returns-then-no_such_column : goal.returns-then-no_such_column
unfolding fitting
returns-then-no_such_column c = simp (c.if-no_such_column.true, ← c.no_such_column.ensures)

pub column_kind-requires : goal.column_kind-requires
column_kind-requires c = in_layout c.args.layout.now c.args.column _
    c.no_such_column.ensures c.if-no_such_column.false

-- a column that is there is taken where its type fits
there : (c : After-type_fits) → fitting c.args.layout.now c.args.place c.args.column ≡ cond c.type_fits.result c.args.column 0
unfolding fitting
there c =
    simp (
      ← c.type_fits.ensures,
      ← c.column_kind.ensures,
      c.if-no_such_column.false,
      ← c.no_such_column.ensures,
    )

pub returns-then-type_fits : goal.returns-then-type_fits
returns-then-type_fits c =
    rw (there (goal.at.returns-then-type_fits c).After-type_fits, c.if-type_fits.true)
    (found_some c.args.column (in_layout c.args.layout.now c.args.column _ c.no_such_column.ensures c.if-no_such_column.false).0)

pub returns : goal.returns
returns c = rw (there (goal.at.returns c).After-type_fits, c.if-type_fits.false)
