use Prim.Native.Nat.{◌≤◌, ◌+◌, ◌*◌}
use mathlib.Core.Path.{◌≡◌}
use lib.ListN.{length}
use lib.Seq.{sets}
use Rattle.directory.specs.Columns.{held}
use Rattle.tile.specs.Walk.{all_steps}
use Rattle.limits.specs.Limits.{program_sides}
use Rattle.teller.specs.Text.{ring_lines}
use Rattle.teller.proofs.tell_rings.Given as goal

abbrev pub invariant-loop-i : goal.invariant-loop-i
invariant-loop-i l =
    let t = held l.counts l.columns in
    (length l.sides ≡ program_sides) × (l.all ≡ all_steps t program_sides l.i) × (l.all ≤ program_sides * l.i)
    × (l.at ≡ l.initial.at + length (ring_lines t l.i))
    × (l.text ≡ sets l.initial.text l.initial.at (ring_lines t l.i))
