use mathlib.Core.Path.{◌≡◌, sym, ap, ◌∙◌}
use native.Mathlib.Omega.{arith}
use Rattle.std.proofs.Common.{rules, Err}
use Rattle.refusal.specs.Order.{first, answered}
use Rattle.table.proofs.RowLaws.{such}
use Rattle.table.proofs.PlanLaws.{walk_refused, walk_passed}
use Rattle.table.specs.Serving.RowPlans.{planned_row, planned_places}
use Rattle.table.proofs.rows.Rows.judge_walked.Goals as goal

pub returns-in_err-judge_end : goal.returns-in_err-judge_end
unfolding planned_row planned_places first
returns-in_err-judge_end c =
    let s = c.args.self.now in
    let k = such s.columns s.id (sym c.no_such.ensures ∙ c.if-no_such.false) in
    let x = c.in_err-judge_end.field-0.0 in
    let r : c.from_residual.result ≡ Err x = search rules in
    let f = walk_refused s.order c.args.file.now s.plan c.args.lies.start c.args.lies.end s.columns s.id c.args.row c.args.places.now k.0 k.1
    (omega (arith, c.requires.0, c.requires.1)) _ c.walk_within-reach.ensures.value x (sym c.judge_end.ensures ∙ c.in_err-judge_end.was) in record {
      value = r ∙ simp (f, c.if-no_such.false, ← c.no_such.ensures, c.if-lies_outside.false, ← c.lies_outside.ensures);
      places_after = simp (c.if-no_such.false, ← c.no_such.ensures, c.if-lies_outside.false, ← c.lies_outside.ensures) c.walk_within-reach.ensures.places_after;
    }

pub returns : goal.returns
unfolding planned_row planned_places first
returns c =
    let s = c.args.self.now in
    let k = such s.columns s.id (sym c.no_such.ensures ∙ c.if-no_such.false) in
    let f = walk_passed s.order c.args.file.now s.plan c.args.lies.start c.args.lies.end s.columns s.id c.args.row c.args.places.now k.0 k.1
    (omega (arith, c.requires.0, c.requires.1)) _ c.walk_within-reach.ensures.value _ c.walk_within-reach.ensures.places_after
    (sym c.judge_end.ensures ∙ c.in_ok-judge_end.was) in record {
      value = c.judge_id.ensures ∙ ap answered f ∙ simp (c.if-no_such.false, ← c.no_such.ensures, c.if-lies_outside.false, ← c.lies_outside.ensures);
      places_after = simp (c.if-no_such.false, ← c.no_such.ensures, c.if-lies_outside.false, ← c.lies_outside.ensures) c.walk_within-reach.ensures.places_after;
    }
