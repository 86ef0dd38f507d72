use mathlib.Core.Path.{◌≡◌, sym, ap, ◌∙◌}
use mathlib.Core.Bool.{true}
use Prim.Native.Nat.{pred, ◌-◌}
use native.Mathlib.Omega.{arith}
use Rattle.std.proofs.Common.{rules, Err}
use Rattle.table.specs.Rows.{column_at}
use Rattle.table.proofs.RowLaws.{column_there}
use Rattle.rectangle.specs.Rectangles.{answer, is_coordinates}
use Rattle.rectangle.proofs.RectangleLaws.{refused_rectangle, found_rectangle}
use Rattle.rectangle.proofs.find_rectangle.Goals as goal
use Rattle.rectangle.proofs.find_rectangle.Goals.{Else-not-has_coordinates}

-- the column has coordinates
drawable : (c : Else-not-has_coordinates) → is_coordinates (column_at c.args.table.layout c.args.column).kind ≡ true
drawable c =
    let z = column_there c.args.table.layout c.args.column (sym c.no_such_column.ensures ∙ c.if-no_such_column.false) in
    let q : pred c.args.column ≡ c.args.column - 1 = omega (arith, z.0) in
    rw q (search rules)

pub returns-in_err-value : goal.returns-in_err-value
returns-in_err-value c =
    let x = c.in_err-value.field-0.0 in
    let r : c.from_residual.result ≡ Err x = search rules in
    ap answer r ∙ sym (refused_rectangle c.args.file.now c.args.index.now c.args.table c.args.row c.args.column
    (sym c.no_such_row.ensures ∙ c.if-no_such_row.false) (sym c.no_such_column.ensures ∙ c.if-no_such_column.false)
    (drawable (goal.at.returns-in_err-value c).Else-not-has_coordinates) x (sym c.read_value.ensures ∙ c.in_err-value.was))

pub returns : goal.returns
returns c =
    let z = column_there c.args.table.layout c.args.column (sym c.no_such_column.ensures ∙ c.if-no_such_column.false) in
    let q : c.args.column - 1 ≡ pred c.args.column = omega (arith, z.0) in
    c.in_part.ensures ∙ rw (q, c.part_of.ensures) (found_rectangle c.args.file.now c.args.index.now c.args.table c.args.row c.args.column
    (sym c.no_such_row.ensures ∙ c.if-no_such_row.false) (sym c.no_such_column.ensures ∙ c.if-no_such_column.false)
    (drawable (goal.at.returns c).Else-not-has_coordinates) c.in_ok-value.value (sym c.read_value.ensures ∙ c.in_ok-value.was))
