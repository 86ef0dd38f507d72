-- `report::steps_line` meets its contract: two pieces, one behind the other, are the line, and it fits.
use mathlib.Core.List.{[], ◌∷◌, append_assoc}
use mathlib.Core.Path.{refl}
use borrow.Author.Tests.{lt-ltb}
use Rattle.laws.proofs.PieceLaws.{begun_none, begun_more}
use Rattle.report.specs.Text.{decimal, line_end}
use Rattle.report.specs.Lines.{steps_line, steps_text}
use Rattle.report.proofs.LineFits.{steps_fits, begun_named, line_written}
use Rattle.report.proofs.steps_line.Goals as goal

pub returns-then-out-lt-LINE_ROOM : goal.returns-then-out-lt-LINE_ROOM
returns-then-out-lt-LINE_ROOM c =
    rw (lt-ltb _ _ c.if-out-lt-LINE_ROOM.true) record { value = refl; out_after = refl }

pub returns : goal.returns
unfolding steps_line
returns c =
    let b = begun_named steps_text (decimal c.args.n) (begun_none c.args.out.now) c.put_named-at.ensures.value.0
    c.put_named-at.ensures.out_after in
    let b₁ = begun_more (line_end ∷ []) b c.put_byte.ensures.value c.put_byte.ensures.out_after in
    record {
      value = (line_written (steps_line c.args.n) b₁ (simp append_assoc) (steps_fits c.args.n) c.if-out-lt-LINE_ROOM.false).0;
      out_after = (line_written (steps_line c.args.n) b₁ (simp append_assoc) (steps_fits c.args.n) c.if-out-lt-LINE_ROOM.false).1;
    }
