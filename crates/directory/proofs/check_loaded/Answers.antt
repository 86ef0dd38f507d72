-- `directory::check_loaded` meets its contract: counts that the columns cannot have, or else the check of their front.
use mathlib.Core.Path.{ap, ◌∙◌}
use Rattle.std.proofs.Common.{Err}
use Rattle.tile.specs.Columns.{Tile}
use Rattle.directory.specs.Outcome.{checked_from}
use Rattle.directory.proofs.OutcomeLaws.{not_some, counts_refused, counts_fit}
use Rattle.directory.proofs.check_loaded.Goals as goal

pub returns-in-Some : goal.returns-in-Some
returns-in-Some c =
    let p = counts_refused c.args.counts c.args.columns.now _ c.short_table.ensures _ c.in-Some.is _ (ap Err c.over_limit.ensures) c.args.marks.now in record {
      value = p.0;
      marks_after = p.1;
    }

pub returns : goal.returns
returns c =
    let told = c.checked_by.ensures ∙ ap (λ (t : Tile). checked_from c.args.counts t c.check-verdict.result) c.tile.view_is in
    let p = counts_fit c.args.counts c.args.columns.now _ c.short_table.ensures (not_some _ c.in_default.not-Some) _ c.held-tile.ensures
    c.args.marks.now _ _ c.check-verdict.ensures.value c.check-verdict.ensures.marks_after _ told in record {
      value = p.0;
      marks_after = p.1;
    }
