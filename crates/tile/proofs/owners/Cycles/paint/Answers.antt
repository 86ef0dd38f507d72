-- `tile::owners::Cycles::paint` meets its contract. The loop's invariant: the sides of the moves made are painted, and the start has not
-- returned. When it has, all moves are.
use Rattle.std.proofs.Common.{◌≡◌, refl, sym, ap, ◌∙◌, ℕ, suc, ◌+◌, ◌≤◌, ◌<◌, eqb, add-one, arith}
use borrow.Author.Tests.{ne_eqb}
use Rattle.laws.proofs.MarkLaws.{paint_start, paint_turn, paint_back, paint_none}
use Rattle.laws.proofs.OrbitLaws.{iterate_in, iterate_next}
use Rattle.laws.proofs.LowestLaws.{none_start, none_next}
use Rattle.laws.specs.Orbit.{iterate}
use Rattle.side.proofs.SideLaws.{after_zero}
use Rattle.side.specs.Successor.{side_of, after}
use Rattle.tile.specs.Columns.{sides}
use Rattle.tile.proofs.OwnerLaws.{Painting, painting}
use Rattle.tile.proofs.owners.Cycles.paint.Goals as goal
use Rattle.tile.proofs.owners.Cycles.paint.Goals.{In-loop, After-next_side, In-Ok}

known : (c : In-loop) → Painting c.args.self.now
known c = painting c.args.self.now (rw c.self.view_is at c.self.invariant)

-- the side is one of 1..2E
on_side : (c : In-loop) → (0 < c.loop.s) × (c.loop.s ≤ sides c.args.self.now)
on_side c =
    rw c.loop.invariant.0
    (iterate_in (after c.args.self.now.edg) (sides c.args.self.now) (known c).into c.loop.counter c.args.start (omega arith) c.requires.start_bound)

-- what the successor answers is the side of one more move
leads : (c : After-next_side) → side_of c.next_side.result ≡ after c.args.self.now.edg c.loop.s
leads c = ap side_of (rw c.self.view_is at c.next_side.ensures)

moved : (c : In-Ok) → c.in-Ok.u ≡ iterate (after c.args.self.now.edg) (c.loop.counter + 1) c.args.start
moved c =
    iterate_next (after c.args.self.now.edg) c.loop.counter c.args.start c.loop.s c.in-Ok.u c.loop.invariant.0
    (sym (ap side_of c.in-Ok.is) ∙ ap side_of (rw c.self.view_is at c.next_side.ensures))

-- and it is one of 1..2E
inside : (c : In-Ok) → (0 < c.in-Ok.u) × (c.in-Ok.u ≤ sides c.args.self.now)
inside c =
    let k = painting c.args.self.now (rw c.self.view_is at c.self.invariant) in
    rw (moved c)
    (iterate_in (after c.args.self.now.edg) (sides c.args.self.now) k.into (c.loop.counter + 1) c.args.start (omega arith) c.requires.start_bound)

pub returns-then-start-eq0 : goal.returns-then-start-eq0
returns-then-start-eq0 c =
    paint_none (after c.args.self.now.edg) (sides c.args.self.now) c.args.marks.now c.args.start c.args.row (after_zero c.args.self.now.edg)
    c.requires.room c.if-start-eq0.true

pub loop-init : goal.loop-init
loop-init c = (
  refl,
  paint_start (after c.args.self.now.edg) (sides c.args.self.now) c.args.marks.now c.args.start c.args.row c.requires.room,
  none_start _,
)

pub overflow_sub-marks : goal.overflow_sub-marks
overflow_sub-marks c = (inside (goal.at.overflow_sub-marks c).In-Ok).0

pub offset_bounds-marks-u : goal.offset_bounds-marks-u
offset_bounds-marks-u c = omega (arith, inside (goal.at.offset_bounds-marks-u c).In-Ok, c.requires.room)

pub bounds-marks-u : goal.bounds-marks-u
bounds-marks-u c = omega (arith, inside (goal.at.bounds-marks-u c).In-Ok, c.requires.room, c.loop.auto.marks)

pub returns-in-Err : goal.returns-in-Err
returns-in-Err c =
    let s = on_side (goal.at.returns-in-Err c).In-loop in
    let p = (known (goal.at.returns-in-Err c).In-loop).into c.loop.s s.0 s.1 in
    let e = sym (leads (goal.at.returns-in-Err c).After-next_side) ∙ ap side_of c.in-Err.is in
    absurd (omega (arith, p, e))

pub returns-then-s-start : goal.returns-then-s-start
returns-then-s-start c =
    let f = after c.args.self.now.edg in
    let n = sides c.args.self.now in
    let k = known (goal.at.returns-then-s-start c).In-loop in
    let m = moved (goal.at.returns-then-s-start c).In-Ok in
    let x : 0 < c.args.start = omega arith in
    paint_back f n c.args.marks.now _ k.into c.requires.room c.args.start c.args.row x c.requires.start_bound k.inj c.loop.counter c.in-Ok.u m
    c.if-s-start.true (rw (c.sides-end.ensures, c.self.view_is) at c.loop-test.true) c.loop.invariant.2
    (paint_turn f n c.args.marks.now c.loop.marks k.into c.requires.room c.args.start c.args.row x c.requires.start_bound c.loop.counter c.in-Ok.u
    c.loop.invariant.1 m)

pub loop-preserved : goal.loop-preserved
loop-preserved c =
    let f = after c.args.self.now.edg in
    let m = moved (goal.at.loop-preserved c).In-Ok in
    let k = known (goal.at.loop-preserved c).In-loop in (
      m,
      paint_turn f (sides c.args.self.now) c.args.marks.now c.loop.marks k.into c.requires.room c.args.start c.args.row (omega arith)
          c.requires.start_bound c.loop.counter c.in-Ok.u c.loop.invariant.1 m,
      none_next (λ (j : ℕ). eqb (iterate f j c.args.start) c.args.start) c.loop.counter c.loop.invariant.2
          (ne_eqb (iterate f (suc c.loop.counter) c.args.start) c.args.start
          (λ e. c.if-s-start.false (m ∙ ap (λ (j : ℕ). iterate f j c.args.start) (add-one c.loop.counter) ∙ e))),
    )

pub returns : goal.returns
returns c =
    let q : c.loop.counter ≡ sides c.args.self.now = omega (arith, ap sides c.self.view_is) in
    rw q at c.loop.invariant.1
