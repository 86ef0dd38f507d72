-- `teller::tell_loaded` meets its contract: the lines of a tile that the check accepts, or its refusal.
use mathlib.Core.Path.{sym, ◌∙◌}
use native.Mathlib.Omega.{arith}
use Rattle.teller.proofs.TextLaws.{columns_long, told_checked, checked_lines, checked_refusal}
use Rattle.teller.proofs.tell_loaded.Goals as goal

pub tell_rings-requires : goal.tell_rings-requires
tell_rings-requires c =
    let l = c.args.columns.now in
    let e = told_checked c.args.counts _ l _ c.check_loaded.ensures.value c.in-Ok.is in
    let long = columns_long c.args.counts l e in record {
      text_space_in_bounds = (
        c.requires.text_space,
        omega (arith, long.0, c.requires.own_columns.0),
        omega (arith, long.1, c.requires.own_columns.1),
      );
      program_sides_value = e;
    }

pub returns-in-Ok : goal.returns-in-Ok
returns-in-Ok c =
    let l = c.args.columns.now in
    let p = checked_lines c.args.counts l c.args.text.now (told_checked c.args.counts _ l _ c.check_loaded.ensures.value
    c.in-Ok.is) _ _ c.tell_rings.ensures.value c.tell_rings.ensures.text_after in record {
      value = p.0;
      text_after = p.1;
    }

pub returns-in-Err : goal.returns-in-Err
returns-in-Err c =
    let p = checked_refusal c.args.counts c.args.columns.now c.args.text.now c.requires.text_space _ (sym c.check_loaded.ensures.value ∙ c.in-Err.is) _ _
    c.refuse_line.ensures.value c.refuse_line.ensures.out_after in record {
      value = p.0;
      text_after = p.1;
    }
