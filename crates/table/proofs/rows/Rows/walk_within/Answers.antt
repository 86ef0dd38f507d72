use mathlib.Core.Path.{◌≡◌, sym, ◌∙◌}
use native.Mathlib.Omega.{arith}
use lib.ListN.{get_or}
use Rattle.std.proofs.Common.{rules, Err}
use Rattle.table.specs.Plans.{plan_reach}
use Rattle.table.proofs.FieldLaws.{code-within}
use Rattle.table.proofs.PlanLaws.{plan_next, plan_stopped, plan_left}
use Rattle.table.proofs.WalkLaws.{left_next}
use Rattle.table.proofs.rows.Rows.walk_within.Goals as goal

pub returns-in_err-at : goal.returns-in_err-at
returns-in_err-at c =
    let s = c.args.self.now in
    let x = c.in_err-at.field-0.0 in
    let r : c.from_residual.result ≡ Err x = search rules in
    let f = sym c.in_err-at.was ∙ c.code_end.ensures in record {
      value = r ∙ plan_stopped s.order c.args.file.now s.plan c.args.lies.start c.args.lies.end x c.loop-j.j c.args.n c.loop-j.at
          (omega arith) c.loop-j.invariant.1 f;
      places_after = plan_left s.order c.args.file.now s.plan c.args.lies.start c.args.lies.end x c.loop-j.j c.args.n c.loop-j.at
          (omega arith) c.loop-j.invariant.1 f c.args.places.now c.loop-j.places c.loop-j.invariant.2;
    }

pub loop-j-preserved : goal.loop-j-preserved
loop-j-preserved c =
    let s = c.args.self.now in
    let f = sym c.in_ok-at.was ∙ c.code_end.ensures in (
      code-within s.order c.args.file.now c.args.lies.end (get_or s.plan c.loop-j.j 0) c.loop-j.at _ (omega arith) (omega arith) (sym f),
      plan_next s.order c.args.file.now s.plan c.args.lies.start c.args.lies.end c.loop-j.j c.loop-j.at _ c.loop-j.invariant.1 f,
      left_next (plan_reach s.order c.args.file.now s.plan c.args.lies.start c.args.lies.end) c.args.places.now c.loop-j.j
          c.loop-j.at c.loop-j.places c.loop-j.invariant.1 c.loop-j.invariant.2,
    )
