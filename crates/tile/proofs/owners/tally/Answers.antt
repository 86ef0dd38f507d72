-- `tile::owners::tally` meets its contract. The loop's invariant: none of the sides passed is refused, and the marks count, up to two, how
-- often they lead to each side.
use Rattle.std.proofs.Common.{◌≡◌, refl, sym, ap, ◌∙◌, ◌+◌, ◌≤◌, ◌<◌, Ok, Err, add-one, arith}
use Rattle.laws.proofs.LowestLaws.{none_start}
use Rattle.laws.proofs.MarkLaws.{cleared, tally_turn}
use Rattle.refusal.specs.declared.Refusal.{Refusal}
use Rattle.refusal.specs.Order.{answered}
use Rattle.refusal.proofs.OrderLaws.{on_next, found, all_fine}
use Rattle.refusal.proofs.AnswerLaws.{answered-fine, answered-refused}
use Rattle.side.specs.Successor.{successor, side_of, after}
use Rattle.tile.specs.Columns.{sides}
use Rattle.tile.specs.Check.{edge_side_refusal}
use Rattle.tile.specs.Serving.Stages.{refused_at_side}
use Rattle.tile.proofs.SuccessorLaws.{side_in, side_fine, side_refused, refused-number}
use Rattle.tile.proofs.owners.tally.Goals as goal
use Rattle.tile.proofs.owners.tally.Goals.{In-Ok}

pub loop-i-init : goal.loop-i-init
loop-i-init c = (cleared (sides c.args.tile.now) c.args.marks.now c.clear.new.marks (rw (← c.sides-n.ensures) c.clear.ensures), none_start _)

-- the side that is counted
follows : (c : In-Ok) → successor c.args.tile.now.edg (c.loop-i.i + 1) ≡ Ok c.in-Ok.u
follows c = sym c.next_side.ensures ∙ c.in-Ok.is

-- and it is one of 1..2E
inside : (c : In-Ok) → (0 < c.in-Ok.u) × (c.in-Ok.u ≤ sides c.args.tile.now)
inside c = side_in c.args.tile.now.edg (c.loop-i.i + 1) c.in-Ok.u (follows c)

pub overflow_sub-mark : goal.overflow_sub-mark
overflow_sub-mark c = (inside (goal.at.overflow_sub-mark c).In-Ok).0

pub offset_bounds-marks-u : goal.offset_bounds-marks-u
offset_bounds-marks-u c = omega (arith, inside (goal.at.offset_bounds-marks-u c).In-Ok, c.requires)

pub bounds-marks-u : goal.bounds-marks-u
bounds-marks-u c = omega (arith, inside (goal.at.bounds-marks-u c).In-Ok, c.requires, c.loop-i.auto.marks, c.clear.auto.marks)

pub returns-in-Err-clause-value : goal.returns-in-Err-clause-value
returns-in-Err-clause-value c =
    let t = c.args.tile.now.edg in
    let e : successor t (c.loop-i.i + 1) ≡ Err c.in-Err.kind = sym c.next_side.ensures ∙ c.in-Err.is in
    let z : c.at.result.number ≡ 0 → ⊥ = λ n. refused-number t (c.loop-i.i + 1) c.in-Err.kind e (sym (ap (λ (r : Refusal). r.number) c.at.ensures) ∙ n) in
    sym (answered-refused c.at.result z)
    ∙ ap answered (found (edge_side_refusal t) (sides c.args.tile.now) c.loop-i.i c.at.result (omega arith) c.loop-i.invariant.1
    (c.at.ensures ∙ sym (side_refused t (c.loop-i.i + 1) c.in-Err.kind e)) z)

pub loop-i-preserved : goal.loop-i-preserved
loop-i-preserved c =
    let t = c.args.tile.now.edg in
    let k = (goal.at.loop-i-preserved c).In-Ok in (
      tally_turn (after t) (sides c.args.tile.now) c.clear.new.marks c.loop-i.marks (omega (arith, c.requires, c.clear.auto.marks))
          c.loop-i.i c.in-Ok.u c.one_more.result (inside k).0 (inside k).1 c.loop-i.invariant.0
          (sym (ap side_of (follows k)) ∙ ap (after t) (add-one c.loop-i.i)) c.one_more.ensures,
      on_next (edge_side_refusal t) c.loop-i.i _ c.loop-i.invariant.1 refl (side_fine t (c.loop-i.i + 1) c.in-Ok.u (follows k)),
    )

pub returns-clause-value : goal.returns-clause-value
returns-clause-value c =
    let t = c.args.tile.now.edg in
    sym (answered-fine (refused_at_side t) (ap (λ (r : Refusal). r.number) (sym (all_fine (edge_side_refusal t) (sides c.args.tile.now) c.loop-i.i
    (omega arith) (omega arith) c.loop-i.invariant.1))))
