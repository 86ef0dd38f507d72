use Rattle.std.proofs.Common.{◌≡◌}
use Rattle.laws.specs.Lowest.{None}
use Rattle.opening.specs.Opening.{end_at, entry_wrong}
use Rattle.opening.proofs.wrong_entry.Given as goal

abbrev pub invariant-loop-i : goal.invariant-loop-i
invariant-loop-i l = record { end_here : l.end ≡ end_at l.layout l.index l.i; none : None (entry_wrong l.layout l.index) l.i }
