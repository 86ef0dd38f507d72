-- `tile::owners::Cycles::judge_owners` meets its contract: two tests in order; the first mark that shows none is the lowest side without ring.
use Rattle.std.proofs.Common.{refl, ap, ◌∙◌, Err, arith}
use Rattle.std.proofs.lemmas.Result.{err_from_is_err_and}
use Rattle.laws.specs.Lowest.{found}
use Rattle.laws.proofs.MarkLaws.{unmet_answer}
use Rattle.side.specs.Successor.{after}
use Rattle.tile.specs.Columns.{R, sides, start_side}
use Rattle.tile.specs.Serving.Stages.{owner_tests}
use Rattle.tile.proofs.AnswersInOrder.{at_found, none_found, refuses, passes, ends}
use Rattle.tile.proofs.OwnerLaws.{all_painted}
use Rattle.tile.proofs.owners.Cycles.judge_owners.Goals as goal

pub returns-in_err-at_lowest-clause-value : goal.returns-in_err-at_lowest-clause-value
unfolding owner_tests
returns-in_err-at_lowest-clause-value c =
    let p = err_from_is_err_and c.from_residual.result c.from_residual.ensures.1 in
    p.1 ∙ ap Err p.2
    ∙ refuses _ _ _ _ (at_found 30 _ _ _ (λ e. omega (arith, e)) c.at_lowest.ensures c.own.ensures.value) c.in_err-at_lowest.was

pub returns-clause-value : goal.returns-clause-value
unfolding owner_tests
returns-clause-value c =
    let t = c.args.self.now in
    let z = none_found 30 _ _ _ (λ e. omega (arith, e)) c.at_lowest.ensures c.own.ensures.value c.in_ok-at_lowest.was in
    passes _ _ _ _ (at_found 30 _ _ _ (λ e. omega (arith, e)) c.at_lowest.ensures c.own.ensures.value) c.in_ok-at_lowest.was
    (at_found 31 _ _ _ (λ e. omega (arith, e)) c.at_lowest-2.ensures
    (rw (c.sides.ensures, c.self.view_is) at c.find.ensures
    ∙ ap found (unmet_answer (after t.edg) (sides t) (start_side t) (R t) c.args.marks.now c.own.new.marks
    (all_painted t c.args.marks.now c.own.new.marks z c.own.ensures.marks_after) _ refl))
    ∙ ends _)
