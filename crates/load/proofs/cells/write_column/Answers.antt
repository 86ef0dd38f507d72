use mathlib.Core.Path.{◌≡◌, refl, ap, ◌∙◌}
use Prim.Native.Nat.{ℕ, pred, ◌-◌}
use native.Mathlib.Omega.{arith}
use Rattle.table.proofs.RowLaws.{column_there}
use Rattle.table.proofs.PlanLaws.{bound_first}
use Rattle.taken.specs.Numbers.{number_by}
use Rattle.load.specs.Cells.{cell_of}
use Rattle.load.proofs.CellLaws.{plan_there, places_by_layout, ready, written_next, written_all, turn}
use Rattle.load.proofs.cells.write_column.Goals as goal

pub offset_bounds-layout-column : goal.offset_bounds-layout-column
offset_bounds-layout-column c =
    let d = column_there c.args.table.now.layout c.args.column c.requires.column_value in omega arith

pub bounds-layout-column : goal.bounds-layout-column
bounds-layout-column c =
    let d = column_there c.args.table.now.layout c.args.column c.requires.column_value in omega arith

pub loop-i-init : goal.loop-i-init
loop-i-init c =
    (bound_first c.args.index.now c.args.table.now.layout, ready c.args.table.now.layout _ c.offsets_of-places.ensures, (refl, refl))

pub overflow_sub-column : goal.overflow_sub-column
overflow_sub-column c =
    let d = column_there c.args.table.now.layout c.args.column c.requires.column_value in omega arith

pub offset_bounds-places-column : goal.offset_bounds-places-column
offset_bounds-places-column c =
    let d = column_there c.args.table.now.layout c.args.column c.requires.column_value in omega arith

pub bounds-places-column : goal.bounds-places-column
bounds-places-column c =
    let d = column_there c.args.table.now.layout c.args.column c.requires.column_value in
    let t = turn c.args.file.now c.args.index.now c.args.table.now.layout c.args.table.now.rows c.requires.rows_judged c.requires.rows_le_most_rows c.loop-i.i c.loop-i.start
    c.bound-end.result c.loop-i-test.true c.loop-i.invariant.0 (rw c.of-rows.ensures at c.bound-end.ensures) c.of-rows.result.plan
    (plan_there c.args.table.now.layout c.of-rows.result c.of-rows.ensures) c.args.column c.walk_row-origin.result
    c.loop-i.places _ c.loop-i.invariant.1 (rw c.of-rows.ensures at c.walk_row-origin.ensures.value)
    (places_by_layout c.args.table.now.layout c.of-rows.result c.of-rows.ensures c.args.file.now c.args.column c.loop-i.start
    c.bound-end.result c.loop-i.places _ c.walk_row-origin.ensures.places_after) in
    omega (arith, d.0, d.1, t.still.0)

pub loop-i-preserved : goal.loop-i-preserved
loop-i-preserved c =
    let d = column_there c.args.table.now.layout c.args.column c.requires.column_value in
    let q : pred c.args.column ≡ c.args.column - 1 = omega arith in
    let t = turn c.args.file.now c.args.index.now c.args.table.now.layout c.args.table.now.rows c.requires.rows_judged c.requires.rows_le_most_rows c.loop-i.i c.loop-i.start
    c.bound-end.result c.loop-i-test.true c.loop-i.invariant.0 (rw c.of-rows.ensures at c.bound-end.ensures) c.of-rows.result.plan
    (plan_there c.args.table.now.layout c.of-rows.result c.of-rows.ensures) c.args.column c.walk_row-origin.result
    c.loop-i.places _ c.loop-i.invariant.1 (rw c.of-rows.ensures at c.walk_row-origin.ensures.value)
    (places_by_layout c.args.table.now.layout c.of-rows.result c.of-rows.ensures c.args.file.now c.args.column c.loop-i.start
    c.bound-end.result c.loop-i.places _ c.walk_row-origin.ensures.places_after) in
    let v = c.number_by-cell.ensures
    ∙ ap (λ (p : ℕ). number_by c.args.table.now.layout.order c.args.file.now c.letter-letter.result p c.bound-end.result)
    c.place_within.ensures in (
      t.ends,
      t.still,
      written_next (cell_of c.args.file.now c.args.index.now c.args.table.now.layout c.args.column) c.loop-i.i _ c.args.out.now c.loop-i.out _ c.loop-i.invariant.2 c.put.ensures
          (t.cell c.args.column c.requires.column_value (omega arith) c.letter-letter.result _ (rw q c.letter-letter.ensures) v)
          (omega (arith, c.loop-i-test.true, c.requires.rows_in_bounds)),
    )

pub returns : goal.returns
returns c =
    let all : c.loop-i.i ≡ c.args.table.now.rows = omega (arith, c.loop-i-test.false, c.loop-i.auto) in
    written_all (cell_of c.args.file.now c.args.index.now c.args.table.now.layout c.args.column) c.loop-i.i c.args.table.now.rows
    c.args.out.now c.loop-i.out c.loop-i.invariant.2 all
