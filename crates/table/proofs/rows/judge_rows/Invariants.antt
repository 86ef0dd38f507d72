use mathlib.Core.Path.{◌≡◌}
use lib.ListN.{length}
use Rattle.limits.specs.Limits.{most_columns}
use Rattle.table.proofs.PlanLaws.{FineTo}
use Rattle.table.proofs.rows.judge_rows.Given as goal

abbrev pub invariant-loop-i : goal.invariant-loop-i
invariant-loop-i l = (length l.places ≡ most_columns) × FineTo l.fn.file l.fn.index l.fn.table.layout l.i l.start
