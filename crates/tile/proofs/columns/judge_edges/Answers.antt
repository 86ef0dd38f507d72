-- `tile::columns::judge_edges` meets its contract: four tests in order, of which the last counts.
use Rattle.std.proofs.Common.{◌≡◌, ap, ◌∙◌, Err, arith}
use Rattle.std.proofs.lemmas.Result.{err_from_is_err_and}
use Rattle.laws.specs.Lowest.{lowest}
use Rattle.refusal.specs.Order.{answered, located}
use Rattle.tile.specs.Columns.{E}
use Rattle.tile.specs.Check.{node_outside, face_outside, link_outside}
use Rattle.tile.specs.Serving.Stages.{edge_tests}
use Rattle.tile.proofs.AnswersInOrder.{at_found, refuses, passes, ends}
use Rattle.tile.proofs.columns.judge_edges.Goals as goal
use Rattle.tile.proofs.columns.judge_edges.Goals.{After-at_lowest, After-at_lowest-2, After-at_lowest-3}

nodes : (c : After-at_lowest) → c.at_lowest.result ≡ answered (located 20 (lowest (node_outside c.args.tile.now) (E c.args.tile.now)))
nodes c =
    at_found 20 _ _ _ (λ e. omega (arith, e)) c.at_lowest.ensures
    (rw (← (c.columns.view_is ∙ c.tile.view_is), ← c.edges.view_is) c.bad_row.ensures)

faces : (c : After-at_lowest-2) → c.at_lowest-2.result ≡ answered (located 21 (lowest (face_outside c.args.tile.now) (E c.args.tile.now)))
faces c =
    at_found 21 _ _ _ (λ e. omega (arith, e)) c.at_lowest-2.ensures
    (rw (← (c.columns.view_is ∙ c.tile.view_is), ← c.edges.view_is) c.bad_row-2.ensures)

links : (c : After-at_lowest-3) → c.at_lowest-3.result ≡ answered (located 22 (lowest (link_outside c.args.tile.now) (E c.args.tile.now)))
links c =
    at_found 22 _ _ _ (λ e. omega (arith, e)) c.at_lowest-3.ensures
    (rw (← (c.columns.view_is ∙ c.tile.view_is), ← c.edges.view_is) c.bad_row-3.ensures)

pub returns-in_err-at_lowest-clause-value : goal.returns-in_err-at_lowest-clause-value
unfolding edge_tests
returns-in_err-at_lowest-clause-value c =
    let p = err_from_is_err_and c.from_residual.result c.from_residual.ensures.1 in
    p.1 ∙ ap Err p.2 ∙ refuses _ _ _ _ (nodes (goal.at.returns-in_err-at_lowest-clause-value c).After-at_lowest) c.in_err-at_lowest.was

pub returns-in_err-at_lowest-2-clause-value : goal.returns-in_err-at_lowest-2-clause-value
unfolding edge_tests
returns-in_err-at_lowest-2-clause-value c =
    let p = err_from_is_err_and c.from_residual-in_err-at_lowest-2.result c.from_residual-in_err-at_lowest-2.ensures.1 in
    p.1 ∙ ap Err p.2
    ∙ passes _ _ _ _ (nodes (goal.at.returns-in_err-at_lowest-2-clause-value c).After-at_lowest) c.in_ok-at_lowest.was
    (refuses _ _ _ _ (faces (goal.at.returns-in_err-at_lowest-2-clause-value c).After-at_lowest-2) c.in_err-at_lowest-2.was)

pub returns-in_err-at_lowest-3-clause-value : goal.returns-in_err-at_lowest-3-clause-value
unfolding edge_tests
returns-in_err-at_lowest-3-clause-value c =
    let p = err_from_is_err_and c.from_residual-in_err-at_lowest-3.result c.from_residual-in_err-at_lowest-3.ensures.1 in
    p.1 ∙ ap Err p.2
    ∙ passes _ _ _ _ (nodes (goal.at.returns-in_err-at_lowest-3-clause-value c).After-at_lowest) c.in_ok-at_lowest.was
    (passes _ _ _ _ (faces (goal.at.returns-in_err-at_lowest-3-clause-value c).After-at_lowest-2) c.in_ok-at_lowest-2.was
    (refuses _ _ _ _ (links (goal.at.returns-in_err-at_lowest-3-clause-value c).After-at_lowest-3) c.in_err-at_lowest-3.was))

pub returns-clause-value : goal.returns-clause-value
unfolding edge_tests
returns-clause-value c =
    passes _ _ _ _ (nodes (goal.at.returns-clause-value c).After-at_lowest) c.in_ok-at_lowest.was
    (passes _ _ _ _ (faces (goal.at.returns-clause-value c).After-at_lowest-2) c.in_ok-at_lowest-2.was
    (passes _ _ _ _ (links (goal.at.returns-clause-value c).After-at_lowest-3) c.in_ok-at_lowest-3.was
    (c.tally.ensures.value ∙ ends _)))
