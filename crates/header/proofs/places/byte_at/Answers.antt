use lib.ListN.{get_or-eq_default}
use native.Mathlib.Omega.{arith}
use mathlib.Core.Path.{sym}
use Rattle.header.proofs.places.byte_at.Goals as goal

pub returns-else-p-head : goal.returns-else-p-head
returns-else-p-head c =
    sym (get_or-eq_default c.args.head.now 0 {n = c.args.p} (omega arith))
