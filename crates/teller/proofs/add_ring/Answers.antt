-- `teller::add_ring` meets its contract: the line is told into the part of the text that starts at the place.
use Rattle.report.specs.Lines.{ring_line}
use Rattle.report.proofs.LineFits.{ring_fits}
use Rattle.teller.proofs.TextLaws.{told_bytes, told_part}
use Prim.Native.Nat.{ℕ, ◌+◌}
use mathlib.Core.Path.{ap}
use native.Mathlib.Omega.{arith}
use Rattle.teller.proofs.add_ring.Goals as goal

pub overflow_add-result : goal.overflow_add-result
overflow_add-result c =
    omega (
      arith,
      told_bytes (ring_line c.args.row c.args.face c.args.steps) c.args.text.now c.args.at (ring_fits c.args.row c.args.face c.args.steps)
          c.requires _ c.ring_line.ensures.value,
      ring_fits c.args.row c.args.face c.args.steps,
      c.requires,
    )

pub returns : goal.returns
returns c =
    let line = ring_line c.args.row c.args.face c.args.steps in record {
      value = ap (λ (n : ℕ). c.args.at + n) (told_bytes line c.args.text.now c.args.at (ring_fits c.args.row c.args.face c.args.steps)
          c.requires _ c.ring_line.ensures.value);
      text_after = told_part line c.args.text.now c.args.at (ring_fits c.args.row c.args.face c.args.steps) c.requires _ c.ring_line.ensures.out_after;
    }
