use Rattle.std.proofs.Common.{◌≡◌}
use Rattle.header.specs.Places.{seek}
use Rattle.header.proofs.places.seek_byte.Given as goal

abbrev pub invariant-loop-i : goal.invariant-loop-i
invariant-loop-i l = seek l.head l.i l.byte ≡ seek l.head l.p l.byte
