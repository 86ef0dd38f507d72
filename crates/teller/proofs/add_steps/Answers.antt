-- `teller::add_steps` meets its contract: the line is told into the part of the text that starts at the place.
use Rattle.report.specs.Lines.{steps_line}
use Rattle.report.proofs.LineFits.{steps_fits}
use Rattle.teller.proofs.TextLaws.{told_bytes, told_part}
use Prim.Native.Nat.{ℕ, ◌+◌}
use mathlib.Core.Path.{ap}
use native.Mathlib.Omega.{arith}
use Rattle.teller.proofs.add_steps.Goals as goal

pub overflow_add-result : goal.overflow_add-result
overflow_add-result c =
    omega (
      arith,
      told_bytes (steps_line c.args.all) c.args.text.now c.args.at (steps_fits c.args.all) c.requires _
          c.steps_line.ensures.value,
      steps_fits c.args.all,
      c.requires,
    )

pub returns : goal.returns
returns c =
    let line = steps_line c.args.all in record {
      value = ap (λ (n : ℕ). c.args.at + n) (told_bytes line c.args.text.now c.args.at (steps_fits c.args.all) c.requires _
          c.steps_line.ensures.value);
      text_after = told_part line c.args.text.now c.args.at (steps_fits c.args.all) c.requires _ c.steps_line.ensures.out_after;
    }
