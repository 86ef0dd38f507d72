use Rattle.std.proofs.Common.{arith}
use Rattle.header.specs.Judge.{key_listed}
use Rattle.header.proofs.layouts.key_listed.Goals as goal

pub returns-in-80 : goal.returns-in-80
unfolding key_listed
returns-in-80 c = grind arith

pub returns-in_default : goal.returns-in_default
unfolding key_listed
returns-in_default c = grind arith
