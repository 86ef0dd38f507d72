use Rattle.std.specs.Prelude.{◌≡◌, drop}
use Rattle.laws.specs.Machine.{run}
use Rattle.wave.specs.Height.{Roomy, machine, start}
use Rattle.wave.proofs.thousandths.Given as goal

-- the state is as small as its digits say, and what is left to read gives the answer of the whole
abbrev pub invariant-loop-i : goal.invariant-loop-i
invariant-loop-i l = record { roomy : Roomy l.st; rest : run machine (drop l.i l.text) l.st l.i ≡ run machine l.text start 0 }
