use lib.Seq.{take_all}
use lib.ListN.{take}
use Prim.Native.Nat.{ℕ}
use native.Mathlib.Nat.{sub-zero}
use mathlib.Core.Path.{sym, ap}
use Rattle.directory.proofs.front_of.Goals as goal

pub returns-then-column-n : goal.returns-then-column-n
returns-then-column-n c = sym (take_all c.args.n c.args.column.now c.if-column-n.true)

pub returns : goal.returns
returns c = ap (λ (n : ℕ). take n c.args.column.now) (sub-zero c.args.n)
