use Rattle.header.specs.Names.{same_text}
use lib.ListN.{length, drop}
use mathlib.Core.Path.{◌≡◌}
use Rattle.header.proofs.naming.same_text.Given as goal

abbrev pub invariant-loop-i : goal.invariant-loop-i
invariant-loop-i l = (length l.a ≡ length l.b) × (same_text (drop l.i l.a) (drop l.i l.b) ≡ same_text l.a l.b)
