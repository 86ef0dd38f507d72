-- `report::refuse_line` meets its contract: five pieces, one behind the other, are the line, and it fits.
use mathlib.Core.List.{[], ◌∷◌, append_assoc}
use mathlib.Core.Path.{refl}
use borrow.Author.Tests.{lt-ltb}
use Rattle.laws.proofs.PieceLaws.{begun_none, begun_more}
use Rattle.report.specs.Text.{decimal, space, line_end}
use Rattle.report.specs.Lines.{file_text, refuse_text, refuse_line}
use Rattle.report.proofs.LineFits.{refuse_fits, begun_named, line_written}
use Rattle.report.proofs.refuse_line.Goals as goal

pub returns-then-out-lt-LINE_ROOM : goal.returns-then-out-lt-LINE_ROOM
returns-then-out-lt-LINE_ROOM c =
    rw (lt-ltb _ _ c.if-out-lt-LINE_ROOM.true) record { value = refl; out_after = refl }

pub returns : goal.returns
unfolding refuse_line
returns c =
    let b = begun_more refuse_text (begun_none c.args.out.now) c.put_text-at.ensures.value c.put_text-at.ensures.out_after in
    let b₁ = begun_more (file_text c.args.file) b (rw c.name_of-name.ensures at c.put_text-at-2.ensures.value)
    (rw c.name_of-name.ensures at c.put_text-at-2.ensures.out_after) in
    let b₂ = begun_named (space ∷ []) (decimal c.args.refused.number) b₁ c.put_named-at.ensures.value.0
    c.put_named-at.ensures.out_after in
    let b₃ = begun_named (space ∷ []) (decimal c.args.refused.place) b₂ c.put_named-at-2.ensures.value.0
    c.put_named-at-2.ensures.out_after in
    let b₄ = begun_more (line_end ∷ []) b₃ c.put_byte.ensures.value c.put_byte.ensures.out_after in
    record {
      value = (line_written (refuse_line c.args.file c.args.refused) b₄ (simp append_assoc) (refuse_fits c.args.file c.args.refused) c.if-out-lt-LINE_ROOM.false).0;
      out_after = (line_written (refuse_line c.args.file c.args.refused) b₄ (simp append_assoc) (refuse_fits c.args.file c.args.refused) c.if-out-lt-LINE_ROOM.false).1;
    }
