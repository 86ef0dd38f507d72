use native.Mathlib.Omega.{arith}
use Rattle.std.proofs.lemmas.Bool.Decides.{nat_tests}
use Rattle.grammar.specs.Scan.{move}
use Rattle.grammar.proofs.step.Goals as goal

pub returns-then-takes_byte : goal.returns-then-takes_byte
unfolding move
returns-then-takes_byte c = grind (arith, nat_tests)

pub returns-else-takes_byte : goal.returns-else-takes_byte
unfolding move
returns-else-takes_byte c = grind (arith, nat_tests)
