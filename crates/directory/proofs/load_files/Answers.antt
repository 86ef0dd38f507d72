-- `directory::load_files` meets its contract: a file too large, a load that is accepted, or one that is refused.
use mathlib.Core.Path.{refl, ap, ◌∙◌}
use Rattle.std.proofs.Common.{Err}
use Rattle.load.specs.Lent.{contents}
use Rattle.directory.specs.Files.{directory, cnx_read, files_read}
use Rattle.directory.proofs.OutcomeLaws.{not_some, files_read_lem, size_refused, load-answered}
use Rattle.directory.proofs.load_files.Goals as goal

pub returns-in-Some : goal.returns-in-Some
returns-in-Some c =
    let p = size_refused c.args.sizes c.args.lent.now _ c.take_sizes.ensures _ (c.shows_triplet-cnx_read.ensures ∙ ap cnx_read c.lent.view_is) _
    c.too_large.ensures _ c.in-Some.is (contents c.args.columns.now) _ (ap Err c.over_limit.ensures) in record {
      value = p.0;
      columns_after = p.1;
      same_columns = (refl, refl, refl, refl, refl, refl, refl, refl, refl, refl);
    }

pub returns : goal.returns
returns c =
    let s = c.lent.inside in
    let read = files_read_lem (directory s.edg.now s.edx.now s.fac.now s.rng.now s.cnd.now s.cnx.now) _ _ c.shows_triplet-cnx_read.ensures c.lent_index.ensures in
    let p = load-answered c.args.sizes c.args.lent.now _ c.take_sizes.ensures _ (c.shows_triplet-cnx_read.ensures ∙ ap cnx_read c.lent.view_is) _ c.too_large.ensures
    (not_some _ c.in_default.not-Some) _ (read ∙ ap files_read c.lent.view_is) (contents c.args.columns.now) _ _
    c.load.ensures.value c.load.ensures.columns_after _ c.loaded_as.ensures in record {
      value = p.0;
      columns_after = p.1;
      same_columns = c.load.ensures.same_columns;
    }
