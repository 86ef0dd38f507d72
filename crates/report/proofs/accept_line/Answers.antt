-- `report::accept_line` meets its contract: five pieces, one behind the other, are the line, and it fits.
use mathlib.Core.List.{[], ◌∷◌, append_assoc}
use mathlib.Core.Path.{refl}
use borrow.Author.Tests.{lt-ltb}
use Rattle.laws.proofs.PieceLaws.{begun_none, begun_more}
use Rattle.report.specs.Text.{decimal, line_end}
use Rattle.report.specs.Lines.{accept_line, accept_text, edges_text, faces_text, rings_text}
use Rattle.report.proofs.LineFits.{accept_fits, begun_named, line_written}
use Rattle.report.proofs.accept_line.Goals as goal

pub returns-then-out-lt-LINE_ROOM : goal.returns-then-out-lt-LINE_ROOM
returns-then-out-lt-LINE_ROOM c =
    rw (lt-ltb _ _ c.if-out-lt-LINE_ROOM.true) record { value = refl; out_after = refl }

pub returns : goal.returns
unfolding accept_line
returns c =
    let b = begun_named accept_text (decimal c.args.counts.nodes) (begun_none c.args.out.now)
    c.put_named-at.ensures.value.0 c.put_named-at.ensures.out_after in
    let b₁ = begun_named edges_text (decimal c.args.counts.edges) b c.put_named-at-2.ensures.value.0
    c.put_named-at-2.ensures.out_after in
    let b₂ = begun_named faces_text (decimal c.args.counts.faces) b₁ c.put_named-at-3.ensures.value.0
    c.put_named-at-3.ensures.out_after in
    let b₃ = begun_named rings_text (decimal c.args.counts.rings) b₂ c.put_named-at-4.ensures.value.0
    c.put_named-at-4.ensures.out_after in
    let b₄ = begun_more (line_end ∷ []) b₃ c.put_byte.ensures.value c.put_byte.ensures.out_after in
    record {
      value = (line_written (accept_line c.args.counts) b₄ (simp append_assoc) (accept_fits c.args.counts) c.if-out-lt-LINE_ROOM.false).0;
      out_after = (line_written (accept_line c.args.counts) b₄ (simp append_assoc) (accept_fits c.args.counts) c.if-out-lt-LINE_ROOM.false).1;
    }
