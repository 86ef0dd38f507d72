use mathlib.Core.Path.{refl, ap, ◌∙◌}
use native.Mathlib.Omega.{arith}
use Prim.Native.Nat.{◌+◌, ◌-◌}
use lib.ListN.{take, drop}
use Rattle.std.proofs.Common.{rules}
use Rattle.number.specs.Bytes.{least_first, in_order}
use Rattle.number.proofs.NumberLaws.{number_part, zeros_outside}
use Rattle.number.proofs.bytes_at.Goals as goal

pub returns-then-saturating_sub : goal.returns-then-saturating_sub
returns-then-saturating_sub g c o =
    zeros_outside o c.args.s.now c.args.at g.row.N (omega (arith, c.saturating_sub.ensures, c.if-saturating_sub.true))

pub returns-in-Some : goal.returns-in-Some
returns-in-Some g c o =
    let part = take (c.args.at + g.row.N - c.args.at) (drop c.args.at c.args.s.now) in
    ap (λ l. least_first (in_order o l)) (search rules)
    ∙ number_part o c.args.s.now c.args.at g.row.N {part = part}
    (omega (arith, c.saturating_sub.ensures, c.if-saturating_sub.false, c.requires)) refl
