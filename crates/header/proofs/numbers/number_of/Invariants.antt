use Rattle.std.proofs.Common.{◌≡◌, ◌%◌, length, drop}
use Rattle.header.specs.Serving.Numbers.{with_letters}
use Rattle.header.proofs.numbers.number_of.Given as goal

abbrev pub invariant-loop-letter : goal.invariant-loop-letter
invariant-loop-letter l = with_letters l.number (drop l.letter-index l.name) ≡ with_letters (length l.name % 32) l.name
