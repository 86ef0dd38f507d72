-- `tile::judge_parts` meets its contract: four parts in order.
use Rattle.std.proofs.Common.{ap, ◌∙◌, Err, arith}
use Rattle.std.proofs.lemmas.Result.{err_from_is_err_and}
use Rattle.tile.specs.Columns.{F, N}
use Rattle.tile.proofs.AnswersInOrder.{at_found, none_found, refuses, passes}
use Rattle.tile.proofs.JudgeLaws.{sides-fine, in_order, beyond_sides, owners_ok}
use Rattle.tile.proofs.judge_parts.Goals as goal

pub returns-in_err-judge_edges-clause-value : goal.returns-in_err-judge_edges-clause-value
returns-in_err-judge_edges-clause-value c =
    let p = err_from_is_err_and c.from_residual.result c.from_residual.ensures.1 in
    p.1 ∙ ap Err p.2 ∙ rw in_order (refuses _ _ _ _ c.judge_edges.ensures.value c.in_err-judge_edges.was)

pub returns-in_err-at_lowest-clause-value : goal.returns-in_err-at_lowest-clause-value
returns-in_err-at_lowest-clause-value c =
    let p = err_from_is_err_and c.from_residual-in_err-at_lowest.result c.from_residual-in_err-at_lowest.ensures.1 in
    p.1 ∙ ap Err p.2
    ∙ rw in_order
    (passes _ _ _ _ c.judge_edges.ensures.value c.in_ok-judge_edges.was
    (refuses _ _ _ _ (at_found 26 _ _ _ (λ e. omega (arith, e)) c.at_lowest.ensures c.doubled.ensures) c.in_err-at_lowest.was))

pub returns-in_err-judge_rings-clause-value : goal.returns-in_err-judge_rings-clause-value
returns-in_err-judge_rings-clause-value c =
    let p = err_from_is_err_and c.from_residual-in_err-judge_rings.result c.from_residual-in_err-judge_rings.ensures.1 in
    p.1 ∙ ap Err p.2
    ∙ rw in_order
    (passes _ _ _ _ c.judge_edges.ensures.value c.in_ok-judge_edges.was
    (passes _ _ _ _ (at_found 26 _ _ _ (λ e. omega (arith, e)) c.at_lowest.ensures c.doubled.ensures) c.in_ok-at_lowest.was
    (refuses _ _ _ _ c.judge_rings.ensures c.in_err-judge_rings.was)))

pub new-requires : goal.new-requires
new-requires c = (
  sides-fine c.args.tile.now.edg (F c.args.tile.now) (N c.args.tile.now) _ c.judge_edges.ensures.value c.in_ok-judge_edges.was,
  none_found 26 _ _ _ (λ e. omega (arith, e)) c.at_lowest.ensures c.doubled.ensures c.in_ok-at_lowest.was,
)

pub returns-clause-value : goal.returns-clause-value
returns-clause-value c =
    rw in_order
    (passes _ _ _ _ c.judge_edges.ensures.value c.in_ok-judge_edges.was
    (passes _ _ _ _ (at_found 26 _ _ _ (λ e. omega (arith, e)) c.at_lowest.ensures c.doubled.ensures) c.in_ok-at_lowest.was
    (passes _ _ _ _ c.judge_rings.ensures c.in_ok-judge_rings.was (rw c.new.ensures at c.judge_owners.ensures.value))))

pub returns-clause-beyond : goal.returns-clause-beyond
returns-clause-beyond c =
    beyond_sides c.args.tile.now c.args.marks.now c.judge_edges.new.marks c.judge_owners.new.marks
    (rw c.new.ensures at c.judge_owners.ensures.marks_after) c.judge_edges.ensures.beyond

pub returns-clause-marks_after : goal.returns-clause-marks_after
returns-clause-marks_after c =
    owners_ok c.args.tile.now c.args.marks.now c.judge_edges.new.marks c.judge_owners.new.marks
    (rw c.new.ensures at c.judge_owners.ensures.marks_after) c.judge_edges.ensures.beyond c.judge_owners.result
    (rw c.new.ensures at c.judge_owners.ensures.value)
