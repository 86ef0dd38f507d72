-- `tile::check` meets its contract: the sizes, the owner space, and the judgement of the rest.
use Rattle.std.proofs.Common.{◌≡◌, ap, ◌∙◌, Err, false}
use Rattle.std.proofs.lemmas.Result.{err_from_is_err_and}
use Rattle.tile.specs.Columns.{sides}
use Rattle.tile.specs.Check.{sizes_wrong}
use Rattle.tile.proofs.JudgeLaws.{not_sized, is_sized, wrong_sizes, no_space, judged, marks_are}
use Rattle.tile.proofs.check.Goals as goal
use Rattle.tile.proofs.check.Goals.{After-sides-n}

pub returns-in_err-tile-clause-value : goal.returns-in_err-tile-clause-value
returns-in_err-tile-clause-value c =
    let p = err_from_is_err_and c.from_residual.result c.from_residual.ensures.1 in
    let n = not_sized c.args.tile.now c.new.result c.new.ensures _ c.in_err-tile.was in
    p.1 ∙ ap Err p.2 ∙ (wrong_sizes c.args.tile.now c.args.marks.now _ n.1 n.0).0

pub returns-in_err-tile-clause-marks_after : goal.returns-in_err-tile-clause-marks_after
returns-in_err-tile-clause-marks_after c =
    let n = not_sized c.args.tile.now c.new.result c.new.ensures _ c.in_err-tile.was in
    (wrong_sizes c.args.tile.now c.args.marks.now _ n.1 n.0).1

-- the tile has right sizes, and the sides are its
sized : (c : After-sides-n) → (sizes_wrong c.args.tile.now ≡ false) × (c.in_ok-tile.tile ≡ c.args.tile.now)
sized c = is_sized c.args.tile.now c.new.result c.new.ensures _ c.in_ok-tile.was

counted : (c : After-sides-n) → c.sides-n.result ≡ sides c.args.tile.now
counted c = c.sides-n.ensures ∙ ap sides (sized c).1

pub returns-then-marks-n-clause-value : goal.returns-then-marks-n-clause-value
returns-then-marks-n-clause-value c =
    let s = (goal.at.returns-then-marks-n-clause-value c).After-sides-n in
    (no_space c.args.tile.now c.args.marks.now (sized s).0 _ (rw (counted s) at c.at.ensures) (rw (counted s) at c.if-marks-n.true)).0

pub returns-then-marks-n-clause-marks_after : goal.returns-then-marks-n-clause-marks_after
returns-then-marks-n-clause-marks_after c =
    let s = (goal.at.returns-then-marks-n-clause-marks_after c).After-sides-n in
    (no_space c.args.tile.now c.args.marks.now (sized s).0 _ (rw (counted s) at c.at.ensures) (rw (counted s) at c.if-marks-n.true)).1

pub returns-clause-value : goal.returns-clause-value
returns-clause-value c =
    let s = (goal.at.returns-clause-value c).After-sides-n in
    judged c.args.tile.now c.args.marks.now (sized s).0 (rw (counted s) at c.if-marks-n.false) c.judge.result
    (rw (sized s).1 at c.judge.ensures.value)

pub returns-clause-marks_after : goal.returns-clause-marks_after
returns-clause-marks_after c =
    let s = (goal.at.returns-clause-marks_after c).After-sides-n in
    marks_are c.args.tile.now c.args.marks.now (sized s).0 (rw (counted s) at c.if-marks-n.false) c.judge.new.marks
    (rw (sized s).1 at c.judge.ensures.marks_after)
