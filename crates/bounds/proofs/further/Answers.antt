-- `further`: after i coordinates all are fit and the rectangle is theirs.
use mathlib.Core.Path.{refl, sym, ap, ◌∙◌}
use native.Mathlib.Omega.{arith}
use Rattle.std.specs.Prelude.{Err}
use Rattle.bounds.specs.Bounds.{rectangle_by, Coordinates, strided, count}
use Rattle.bounds.proofs.ReadLaws.{reached_next, bounds_stop, bounds_all}
use Rattle.bounds.proofs.further.Given.{Over}
use Rattle.bounds.proofs.further.Goals as goal
use Rattle.bounds.proofs.further.Goals.{Start}

-- the coordinates of the function's arguments
abbrev whole : (g : Over) → Start g → Coordinates
whole g c = strided g.F.Coordinate.format c.args.stride c.args.order c.args.bytes.now

pub loop-i-init : goal.loop-i-init
unfolding count
loop-i-init g c = (omega arith, c.requires.1, refl, c.requires.2)

pub returns-in_default : goal.returns-in_default
returns-in_default g c =
    let w = whole g (goal.at.returns-in_default g c).Start in
    ap Err c.at.ensures
    ∙ bounds_stop w c.loop-i.i _ refl (sym c.in_default.ensures) c.loop-i.invariant.3.fit (rw (← c.loop-i.invariant.2) c.loop-i-test.true)

pub loop-i-preserved : goal.loop-i-preserved
loop-i-preserved g c =
    let w = whole g (goal.at.loop-i-preserved g c).Start in
    let r = rectangle_by g.F.Coordinate.value c.loop-i.rectangle in (
      omega arith,
      omega arith,
      c.loop-i.invariant.2,
      rw c.extended-rectangle.ensures (reached_next w c.loop-i.i _ refl _ _ (sym c.in-Some.ensures) r c.loop-i.invariant.3),
    )

pub returns : goal.returns
returns g c =
    let w = whole g (goal.at.returns g c).Start in
    bounds_all w c.loop-i.i (rectangle_by g.F.Coordinate.value c.loop-i.rectangle) c.loop-i.invariant.0 (omega arith) c.loop-i.invariant.3
