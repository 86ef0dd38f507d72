-- `tile::starts::judge_rings` meets its contract: four tests in order; the runs are judged once every ring's face is in range.
use Rattle.std.proofs.Common.{◌≡◌, ap, ◌∙◌, Err, arith}
use Rattle.std.proofs.lemmas.Result.{err_from_is_err_and}
use Rattle.laws.specs.Lowest.{lowest}
use Rattle.refusal.specs.Order.{answered, located}
use Rattle.tile.specs.Columns.{F, R, N}
use Rattle.tile.specs.Check.{first_edge_wrong, ring_face_outside, run_wrong}
use Rattle.tile.specs.Serving.Stages.{ring_tests}
use Rattle.tile.proofs.AnswersInOrder.{at_found, refuses, passes, ends}
use Rattle.tile.proofs.starts.judge_rings.Goals as goal
use Rattle.tile.proofs.starts.judge_rings.Goals.{After-at_lowest, After-at_lowest-2, After-at_lowest-3, After-at_lowest-4}

first_edges : (c : After-at_lowest) → c.at_lowest.result ≡ answered (located 27 (lowest (first_edge_wrong c.args.tile.now) (N c.args.tile.now)))
first_edges c = at_found 27 _ _ _ (λ e. omega (arith, e)) c.at_lowest.ensures (rw (← c.tile.view_is) c.bad_node.ensures)

faces : (c : After-at_lowest-2) → c.at_lowest-2.result ≡ answered (located 28 (lowest (ring_face_outside c.args.tile.now) (R c.args.tile.now)))
faces c =
    at_found 28 _ _ _ (λ e. omega (arith, e)) c.at_lowest-2.ensures (rw (← (c.columns.view_is ∙ c.tile.view_is)) c.bad_entry.ensures)

runs : (c : After-at_lowest-3) → c.at_lowest-3.result ≡ answered (located 28 (lowest (run_wrong c.args.tile.now) (F c.args.tile.now)))
runs c = at_found 28 _ _ _ (λ e. omega (arith, e)) c.at_lowest-3.ensures (rw (← (c.columns.view_is ∙ c.tile.view_is)) c.bad_run.ensures)

pub returns-in_err-at_lowest : goal.returns-in_err-at_lowest
unfolding ring_tests
returns-in_err-at_lowest c =
    let p = err_from_is_err_and c.from_residual.result c.from_residual.ensures.1 in
    p.1 ∙ ap Err p.2 ∙ refuses _ _ _ _ (first_edges (goal.at.returns-in_err-at_lowest c).After-at_lowest) c.in_err-at_lowest.was

pub returns-in_err-at_lowest-2 : goal.returns-in_err-at_lowest-2
unfolding ring_tests
returns-in_err-at_lowest-2 c =
    let p = err_from_is_err_and c.from_residual-in_err-at_lowest-2.result c.from_residual-in_err-at_lowest-2.ensures.1 in
    p.1 ∙ ap Err p.2
    ∙ passes _ _ _ _ (first_edges (goal.at.returns-in_err-at_lowest-2 c).After-at_lowest) c.in_ok-at_lowest.was
    (refuses _ _ _ _ (faces (goal.at.returns-in_err-at_lowest-2 c).After-at_lowest-2) c.in_err-at_lowest-2.was)

pub returns-in_err-at_lowest-3 : goal.returns-in_err-at_lowest-3
unfolding ring_tests
returns-in_err-at_lowest-3 c =
    let p = err_from_is_err_and c.from_residual-in_err-at_lowest-3.result c.from_residual-in_err-at_lowest-3.ensures.1 in
    p.1 ∙ ap Err p.2
    ∙ passes _ _ _ _ (first_edges (goal.at.returns-in_err-at_lowest-3 c).After-at_lowest) c.in_ok-at_lowest.was
    (passes _ _ _ _ (faces (goal.at.returns-in_err-at_lowest-3 c).After-at_lowest-2) c.in_ok-at_lowest-2.was
    (refuses _ _ _ _ (runs (goal.at.returns-in_err-at_lowest-3 c).After-at_lowest-3) c.in_err-at_lowest-3.was))

pub returns : goal.returns
unfolding ring_tests
returns c =
    passes _ _ _ _ (first_edges (goal.at.returns c).After-at_lowest) c.in_ok-at_lowest.was
    (passes _ _ _ _ (faces (goal.at.returns c).After-at_lowest-2) c.in_ok-at_lowest-2.was
    (passes _ _ _ _ (runs (goal.at.returns c).After-at_lowest-3) c.in_ok-at_lowest-3.was
    (at_found 29 _ _ _ (λ e. omega (arith, e)) c.at_lowest-4.ensures c.bad_start.ensures ∙ ends _)))
