-- `teller::tell_tile` meets its contract: what is told of the tile in its own columns is the directory's text.
use native.Mathlib.Omega.{arith}
use mathlib.Core.Path.{sym, ◌∙◌}
use borrow.Author.Rules.{rules}
use Rattle.load.specs.Lent.{contents}
use Rattle.teller.proofs.TextLaws.{own_lines, directory-refusal}
use Rattle.teller.proofs.tell_tile.Goals as goal

pub tell_loaded-requires : goal.tell_loaded-requires
tell_loaded-requires c = record { text_space = omega arith; own_columns = (search rules, search rules) }

pub returns-in-Ok : goal.returns-in-Ok
returns-in-Ok c =
    let all = own_lines c.args.sizes c.args.lent.now _ _ (contents c.load_files.new.columns) (sym c.load_files.ensures.value ∙ c.in-Ok.is) _ c.in-Ok.is
    c.load_files.ensures.columns_after c.args.text.now _ _ c.tell_loaded.ensures.value c.tell_loaded.ensures.text_after (search rules) in
    record { value = all.0; text_after = all.1 }

pub returns-in-Err : goal.returns-in-Err
returns-in-Err c =
    let all = directory-refusal c.args.sizes c.args.lent.now _ (sym c.load_files.ensures.value ∙ c.in-Err.is) c.args.text.now
    (omega arith) _ _ c.refuse_line.ensures.value c.refuse_line.ensures.out_after in
    record { value = all.0; text_after = all.1 }
