use mathlib.Core.Path.{◌∙◌}
use native.Mathlib.Omega.{arith}
use mir.Syntax.{w64}
use Rattle.std.proofs.Common.{rules}
use Rattle.number.specs.declared.Order.TheVariants.{Least, Most}
use Rattle.number.proofs.NumberLaws.{from_least, from_most}
use Rattle.number.proofs.U64Unsigned.read_at.Goals as goal

pub returns-in-Least : goal.returns-in-Least
returns-in-Least c =
    c.from_le_bytes.ensures ∙ from_least w64 c.bytes_at.result (omega arith) (search rules) ∙ rw c.in-Least.is (c.bytes_at.ensures Least)

pub returns-in-Most : goal.returns-in-Most
returns-in-Most c =
    c.from_be_bytes.ensures ∙ from_most w64 c.bytes_at-in-Most.result (omega arith) (search rules) ∙ rw c.in-Most.is (c.bytes_at-in-Most.ensures Most)
