-- `tile::owners::Cycles::own` meets its contract. The loop's invariant: the marks hold the owners among the ring rows passed, none of which
-- was taken.
use Rattle.std.proofs.Common.{◌≡◌, sym, ap, ◌∙◌, suc, ◌<◌, length, add-one, arith}
use Rattle.laws.proofs.MarkLaws.{own_taken, own_next, own_turn}
use Rattle.laws.proofs.LowestLaws.{lowest_ended}
use Rattle.laws.specs.Buffer.{front}
use Rattle.laws.specs.Marks.{zeros, already_met}
use Rattle.laws.specs.Orbit.{entry}
use Rattle.side.proofs.SideLaws.{after_zero}
use Rattle.side.specs.Successor.{after}
use Rattle.tile.specs.Columns.{R, sides, start_side}
use Rattle.tile.proofs.AnswersInOrder.{is_found, is_nothing}
use Rattle.tile.proofs.OwnerLaws.{Painting, painting, start_within, stopped_at, stopped_last}
use Rattle.tile.proofs.SizeLaws.{rows_within}
use Rattle.tile.proofs.owners.Cycles.own.Goals as goal
use Rattle.tile.proofs.owners.Cycles.own.Goals.{After-clear, In-loop-r, After-row}

known : (c : After-clear) → Painting c.args.self.now
known c = painting c.args.self.now (rw c.self.view_is at c.self.invariant)

erased : (c : After-clear) → c.clear.new.marks ≡ front zeros (sides c.args.self.now) c.args.marks.now
erased c = rw (c.sides.ensures, c.self.view_is) at c.clear.ensures

rings : (c : In-loop-r) → length c.columns.inside.fac_id.now ≡ R c.args.self.now
rings c = ap R (c.columns.view_is ∙ c.tile.view_is ∙ c.self.view_is)

-- the start that is found is the ring row's
starts : (c : After-row) → c.start_side-start.result ≡ start_side c.args.self.now (suc c.loop-r.r)
starts c = (rw c.self.view_is at c.start_side-start.ensures) ∙ ap (start_side c.args.self.now) (add-one c.loop-r.r)

row_there : (c : In-loop-r) → c.loop-r.r < R c.args.self.now
row_there c = rw (← rings c) c.loop-r-test.true

pub returns-then-row-ne0 : goal.returns-then-row-ne0
returns-then-row-ne0 c =
    let t = c.args.self.now in
    let k = known (goal.at.returns-then-row-ne0 c).After-clear in
    let a = starts (goal.at.returns-then-row-ne0 c).After-row in
    let z = own_taken (after t.edg) (sides t) (start_side t) (R t) c.loop-r.marks c.clear.new.marks k.into k.starts c.loop-r.r
    (row_there (goal.at.returns-then-row-ne0 c).In-loop-r) c.loop-r.invariant.0 c.loop-r.invariant.1
    (λ e. c.if-row-ne0.true (c.row.ensures ∙ ap (entry c.loop-r.marks) a ∙ e)) in record {
      value = is_found c.loop-r.r _ z;
      marks_after = stopped_at t c.args.marks.now c.loop-r.marks c.clear.new.marks (erased (goal.at.returns-then-row-ne0 c).After-clear) c.loop-r.r
          c.loop-r.invariant.0 z;
    }

pub overflow_cast-r : goal.overflow_cast-r
overflow_cast-r c =
    omega (arith, c.loop-r-test.true, ap R c.columns.view_is, (rows_within c.tile.inside.tile.now c.tile.invariant).1)

pub paint-requires-clause-start_bound : goal.paint-requires-clause-start_bound
paint-requires-clause-start_bound c =
    rw (starts (goal.at.paint-requires-clause-start_bound c).After-row) (start_within c.args.self.now (suc c.loop-r.r))

pub loop-r-preserved : goal.loop-r-preserved
loop-r-preserved c =
    let t = c.args.self.now in
    let k = known (goal.at.loop-r-preserved c).After-clear in
    let a = starts (goal.at.loop-r-preserved c).After-row in
    let h = row_there (goal.at.loop-r-preserved c).In-loop-r in
    let z = sym (c.row.ensures ∙ ap (entry c.loop-r.marks) a) ∙ c.if-row-ne0.false in (
      own_turn (after t.edg) (sides t) (start_side t) (R t) c.loop-r.marks c.clear.new.marks k.into k.starts c.loop-r.r h c.loop-r.invariant.0
          c.loop-r.invariant.1 k.inj (after_zero t.edg) z c.paint.new.marks (rw a at c.paint.ensures),
      own_next (after t.edg) (sides t) (start_side t) (R t) c.loop-r.marks c.clear.new.marks k.into k.starts c.loop-r.r h c.loop-r.invariant.0
          c.loop-r.invariant.1 z,
    )

pub returns : goal.returns
returns c =
    let t = c.args.self.now in
    let q : c.loop-r.r ≡ R t = omega (arith, ap R (c.columns.view_is ∙ c.tile.view_is ∙ c.self.view_is)) in
    let z = lowest_ended (already_met (after t.edg) (sides t) (start_side t)) (R t) c.loop-r.r (omega arith) (omega arith) c.loop-r.invariant.1 in
    record {
      value = is_nothing _ z;
      marks_after = stopped_last t c.args.marks.now c.loop-r.marks c.clear.new.marks (erased (goal.at.returns c).After-clear)
          (rw q at c.loop-r.invariant.0) z;
    }
