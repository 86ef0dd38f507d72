-- `load::cells::put` meets its contract: beyond the column's end nothing is set.
use mathlib.Core.Path.{sym}
use native.Mathlib.Omega.{arith}
use lib.Seq.{set_out}
use Rattle.load.proofs.cells.put.Goals as goal

pub returns-else-i-column : goal.returns-else-i-column
returns-else-i-column c =
    sym (set_out c.args.column.now c.args.i c.args.v (omega (arith, c.if-i-column.false)))
