use native.Mathlib.Omega.{arith}
use Prim.Native.Nat.{pred, ◌-◌}
use mathlib.Core.Path.{◌≡◌}
use Rattle.load.proofs.fitting.column_kind.Goals as goal

pub returns : goal.returns
returns c =
    let q : pred c.args.column ≡ c.args.column - 1 = omega arith in
    rw q
