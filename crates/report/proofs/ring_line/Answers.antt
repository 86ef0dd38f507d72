-- `report::ring_line` meets its contract: four pieces, one behind the other, are the line, and it fits.
use mathlib.Core.List.{[], ◌∷◌, append_assoc}
use mathlib.Core.Path.{refl}
use borrow.Author.Tests.{lt-ltb}
use Rattle.laws.proofs.PieceLaws.{begun_none, begun_more}
use Rattle.report.specs.Text.{decimal, space, line_end}
use Rattle.report.specs.Lines.{ring_line, ring_text, face_text, steps_text}
use Rattle.report.proofs.LineFits.{ring_fits, begun_named, line_written}
use Rattle.report.proofs.ring_line.Goals as goal

pub returns-then-out-lt-LINE_ROOM : goal.returns-then-out-lt-LINE_ROOM
returns-then-out-lt-LINE_ROOM c =
    rw (lt-ltb _ _ c.if-out-lt-LINE_ROOM.true) record { value = refl; out_after = refl }

pub returns : goal.returns
unfolding ring_line
returns c =
    let b = begun_named ring_text (decimal c.args.row) (begun_none c.args.out.now) c.put_named-at.ensures.value.0
    c.put_named-at.ensures.out_after in
    let b₁ = begun_named face_text (decimal c.args.face) b c.put_named-at-2.ensures.value.0 c.put_named-at-2.ensures.out_after in
    let b₂ = begun_named (space ∷ steps_text) (decimal c.args.steps) b₁ c.put_named-at-3.ensures.value.0
    c.put_named-at-3.ensures.out_after in
    let b₃ = begun_more (line_end ∷ []) b₂ c.put_byte.ensures.value c.put_byte.ensures.out_after in
    record {
      value = (line_written (ring_line c.args.row c.args.face c.args.steps) b₃ (simp append_assoc) (ring_fits c.args.row c.args.face c.args.steps) c.if-out-lt-LINE_ROOM.false).0;
      out_after = (line_written (ring_line c.args.row c.args.face c.args.steps) b₃ (simp append_assoc) (ring_fits c.args.row c.args.face c.args.steps) c.if-out-lt-LINE_ROOM.false).1;
    }
