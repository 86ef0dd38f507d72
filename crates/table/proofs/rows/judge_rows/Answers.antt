use mathlib.Core.Path.{◌≡◌, refl, sym, ap, ◌∙◌}
use Prim.Native.Nat.{◌+◌, min}
use native.Mathlib.Omega.{arith}
use lib.ListN.{length}
use Rattle.std.proofs.Common.{rules, Err}
use Rattle.limits.specs.Limits.{most_rows}
use Rattle.refusal.specs.Order.{answered}
use Rattle.refusal.proofs.AnswerLaws.{ok-fine, err-refuses}
use Rattle.table.specs.Rows.{rows_refusal}
use Rattle.table.specs.Serving.RowPlans.{judged_by}
use Rattle.table.proofs.PlanLaws.{NextRow, fine_first, fine_next, next_by, length_by, lowest_refused, none_refused}
use Rattle.table.proofs.rows.judge_rows.Goals as goal
use Rattle.table.proofs.rows.judge_rows.Goals.{After-judge}

-- the next row ends and is judged as the layout says
row_said : (c : After-judge) → NextRow c.args.file.now c.args.index.now c.args.table.layout c.loop-i.i c.bound-end.result
    (judged_by c.of-rows.result c.args.file.now c.loop-i.start c.bound-end.result (c.loop-i.i + 1))
row_said c =
    let q : min (c.loop-i.i + 1) most_rows ≡ c.loop-i.i + 1 = omega (arith, c.min-i-end.ensures) in
    next_by c.args.file.now c.args.index.now c.args.table.layout c.loop-i.i c.loop-i.start c.bound-end.result c.loop-i.invariant.1
    c.of-rows.result c.of-rows.ensures (c.bound-end.ensures ∙ rw q)

pub loop-i-init : goal.loop-i-init
loop-i-init c = (refl, fine_first c.args.file.now c.args.index.now c.args.table.layout)

pub judge-requires : goal.judge-requires
judge-requires c = (rw c.of-rows.ensures (omega arith), c.loop-i.invariant.0)

pub returns-in_err-judge : goal.returns-in_err-judge
unfolding rows_refusal
returns-in_err-judge c =
    let x = c.in_err-judge.field-0.0 in
    let r : c.from_residual.result ≡ Err x = search rules in
    let q = judged_by c.of-rows.result c.args.file.now c.loop-i.start c.bound-end.result (c.loop-i.i + 1) in
    let e : answered q ≡ Err x = sym c.judge.ensures.value ∙ c.in_err-judge.was in
    r ∙ sym e ∙ ap answered (lowest_refused c.args.file.now c.args.index.now c.args.table.layout c.loop-i.i c.loop-i.start _ c.loop-i.invariant.1 q
    (row_said (goal.at.returns-in_err-judge c).After-judge) (min c.args.table.rows most_rows) (omega (arith, c.min-i-end.ensures)) (err-refuses q x e))

pub loop-i-preserved : goal.loop-i-preserved
loop-i-preserved c =
    let q = judged_by c.of-rows.result c.args.file.now c.loop-i.start c.bound-end.result (c.loop-i.i + 1) in (
      ap length c.judge.ensures.places_after ∙ length_by c.args.file.now c.of-rows.result c.loop-i.start c.bound-end.result (c.loop-i.i + 1) c.loop-i.places
          ∙ c.loop-i.invariant.0,
      fine_next c.args.file.now c.args.index.now c.args.table.layout c.loop-i.i c.loop-i.start _ c.loop-i.invariant.1 q
          (row_said (goal.at.loop-i-preserved c).After-judge) (ok-fine q (sym c.judge.ensures.value ∙ c.in_ok-judge.was)),
    )

pub returns : goal.returns
unfolding rows_refusal
returns c =
    ap answered (none_refused c.args.file.now c.args.index.now c.args.table.layout (min c.args.table.rows most_rows) c.loop-i.i c.loop-i.start
    c.loop-i.invariant.1 (omega (arith, c.min-i-end.ensures)) (omega (arith, c.min-i-end.ensures)))
