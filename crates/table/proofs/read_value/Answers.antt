use mathlib.Core.Path.{◌≡◌, refl, sym, ◌∙◌}
use Prim.Native.Nat.{pred, ◌-◌}
use native.Mathlib.Omega.{arith}
use Rattle.std.proofs.Common.{rules, Err}
use Rattle.table.specs.Rows.{column_place}
use Rattle.table.specs.Values.{value_of}
use Rattle.table.proofs.PlanLaws.{row_refused, row_passed, row_fine, judged_inside, judged_place}
use Rattle.table.proofs.RowLaws.{inside, column_there}
use Rattle.table.proofs.WalkLaws.{place_within}
use Rattle.table.proofs.read_value.Goals as goal
use Rattle.table.proofs.read_value.Goals.{After-place-place}

pub returns-in_err-judge_row : goal.returns-in_err-judge_row
unfolding value_of
returns-in_err-judge_row c =
    let x = c.in_err-judge_row.field-0.0 in
    let r : c.from_residual.result ≡ Err x = search rules in
    let f = row_refused c.args.file.now c.args.index.now c.args.table c.args.row _ refl
    (sym c.no_such_row.ensures ∙ c.if-no_such_row.false) _ _ c.lies-lies.ensures.start c.lies-lies.ensures.end x
    (sym c.judge_row.ensures.value ∙ c.in_err-judge_row.was) in
    r ∙ simp (f, c.if-lacks_column.false, ← c.lacks_column.ensures, c.if-no_such_row.false, ← c.no_such_row.ensures)

-- the judgement has found where the column starts
placed : (c : After-place-place) → c.place-place.result
    ≡ column_place c.args.file.now c.args.table.layout c.lies-lies.result.start c.lies-lies.result.end c.args.column
placed c =
    let there = sym c.lacks_column.ensures ∙ c.if-lacks_column.false in
    let z = column_there c.args.table.layout c.args.column there in
    let q : pred c.args.column ≡ c.args.column - 1 = omega (arith, z.0) in
    c.place-place.ensures ∙ rw c.judge_row.ensures.places_after
    (judged_place c.args.file.now c.args.table.layout c.lies-lies.result.start c.lies-lies.result.end c.args.row
    (row_fine c.args.file.now c.args.index.now c.args.table c.args.row _ refl
    (sym c.no_such_row.ensures ∙ c.if-no_such_row.false) _ _ c.lies-lies.ensures.start c.lies-lies.ensures.end
    (sym c.judge_row.ensures.value ∙ c.in_ok-judge_row.was)) c.args.column _ _ there refl (rw q))

pub show-requires : goal.show-requires
show-requires c =
    let start = c.lies-lies.result.start in
    let end = c.lies-lies.result.end in
    let w = inside c.args.file.now start end (judged_inside c.args.file.now c.args.table.layout start end c.args.row
    (row_fine c.args.file.now c.args.index.now c.args.table c.args.row _ refl
    (sym c.no_such_row.ensures ∙ c.if-no_such_row.false) _ _ c.lies-lies.ensures.start c.lies-lies.ensures.end
    (sym c.judge_row.ensures.value ∙ c.in_ok-judge_row.was))) in
    (rw (placed (goal.at.show-requires c).After-place-place) (place_within c.args.file.now c.args.table.layout start end c.args.column w.0 w.1), w.1)

pub returns : goal.returns
unfolding value_of
returns c =
    let f = row_passed c.args.file.now c.args.index.now c.args.table c.args.row _ refl
    (sym c.no_such_row.ensures ∙ c.if-no_such_row.false) _ _ c.lies-lies.ensures.start c.lies-lies.ensures.end
    (sym c.judge_row.ensures.value ∙ c.in_ok-judge_row.was) in
    let z = column_there c.args.table.layout c.args.column (sym c.lacks_column.ensures ∙ c.if-lacks_column.false) in
    let q : pred c.args.column ≡ c.args.column - 1 = omega (arith, z.0) in
    c.show.ensures ∙ simp (
      f,
      c.if-lacks_column.false,
      ← c.lacks_column.ensures,
      c.if-no_such_row.false,
      ← c.no_such_row.ensures,
      placed (goal.at.returns c).After-place-place,
      q,
    )
