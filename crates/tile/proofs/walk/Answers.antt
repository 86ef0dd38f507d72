-- `tile::walk` meets its contract: 15, 13, 29, the empty ring, and then the walk from the start side.
use Rattle.std.proofs.Common.{◌≡◌, sym, ap, ◌∙◌, Err, false, length}
use Rattle.std.proofs.lemmas.Result.{err_from_is_err_and}
use Rattle.side.specs.Edges.{outside}
use Rattle.tile.specs.Columns.{Tile, R}
use Rattle.tile.specs.Check.{sizes_wrong}
use Rattle.tile.proofs.JudgeLaws.{not_sized, is_sized}
use Rattle.tile.proofs.OwnerLaws.{start_within}
use Rattle.tile.proofs.WalkLaws.{walk_sizes, walk_no_row, walk_no_start, walk_empty, walk_on, walk_written}
use Rattle.tile.proofs.walk.Goals as goal
use Rattle.tile.proofs.walk.Goals.{After-is_outside}

pub returns-in_err-sized-clause-value : goal.returns-in_err-sized-clause-value
returns-in_err-sized-clause-value c =
    let p = err_from_is_err_and c.from_residual.result c.from_residual.ensures.1 in
    let n = not_sized c.args.tile.now c.new.result c.new.ensures _ c.in_err-sized.was in
    p.1 ∙ ap Err p.2 ∙ walk_sizes c.args.tile.now c.args.row (length c.args.out.now) _ n.0 n.1

-- the tile has right sizes
sized : (c : After-is_outside) → (sizes_wrong c.args.tile.now ≡ false) × (c.in_ok-sized.sized ≡ c.args.tile.now)
sized c = is_sized c.args.tile.now c.new.result c.new.ensures _ c.in_ok-sized.was

row_outside : (c : After-is_outside) → c.is_outside.result ≡ outside (R c.args.tile.now) c.args.row
row_outside c = c.is_outside.ensures ∙ ap (λ (t : Tile). outside (R t) c.args.row) c.tile.view_is

pub returns-then-is_outside-clause-value : goal.returns-then-is_outside-clause-value
returns-then-is_outside-clause-value c =
    let s = (goal.at.returns-then-is_outside-clause-value c).After-is_outside in
    walk_no_row c.args.tile.now c.args.row (length c.args.out.now) (sized s).0 _ (sym (row_outside s) ∙ c.if-is_outside.true) c.at.ensures

pub returns-then-has_empty_start-clause-value : goal.returns-then-has_empty_start-clause-value
returns-then-has_empty_start-clause-value c =
    let s = (goal.at.returns-then-has_empty_start-clause-value c).After-is_outside in
    let e = sized s in
    walk_empty c.args.tile.now c.args.row (length c.args.out.now) e.0 (sym (row_outside s) ∙ c.if-is_outside.false) _
    (rw e.1 at c.start_side-start.ensures) c.if-start-eq0.true (sym (rw e.1 at c.has_empty_start.ensures) ∙ c.if-has_empty_start.true)

pub returns-then-start-eq0-clause-value : goal.returns-then-start-eq0-clause-value
returns-then-start-eq0-clause-value c =
    let s = (goal.at.returns-then-start-eq0-clause-value c).After-is_outside in
    let e = sized s in
    walk_no_start c.args.tile.now c.args.row (length c.args.out.now) e.0 (sym (row_outside s) ∙ c.if-is_outside.false) _
    (rw e.1 at c.start_side-start.ensures) c.if-start-eq0.true (sym (rw e.1 at c.has_empty_start.ensures) ∙ c.if-has_empty_start.false) _
    c.at-then-start-eq0.ensures

pub walk_from-requires : goal.walk_from-requires
walk_from-requires c = rw c.start_side-start.ensures (start_within c.in_ok-sized.sized c.args.row)

pub returns-clause-value : goal.returns-clause-value
returns-clause-value c =
    let s = (goal.at.returns-clause-value c).After-is_outside in
    let e = sized s in
    walk_on c.args.tile.now c.args.row (length c.args.out.now) e.0 (sym (row_outside s) ∙ c.if-is_outside.false)
    _ (rw e.1 at c.start_side-start.ensures) c.if-start-eq0.false
    c.walk_from.result (rw e.1 at c.walk_from.ensures.value)

pub returns-clause-out_after : goal.returns-clause-out_after
returns-clause-out_after c =
    let s = (goal.at.returns-clause-out_after c).After-is_outside in
    let e = sized s in
    walk_written c.args.tile.now c.args.row (length c.args.out.now) e.0 (sym (row_outside s) ∙ c.if-is_outside.false)
    _ (rw e.1 at c.start_side-start.ensures) c.if-start-eq0.false
    c.walk_from.result c.args.out.now c.walk_from.new.out (rw e.1 at c.walk_from.ensures.out_after)
