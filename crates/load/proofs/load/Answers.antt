-- `load::load` meets its contract: what was found is the answer; where nothing was, all that the writing needs holds, and each column is
-- written as the definition has it.
use Rattle.std.proofs.Common.{Ok, length}
use Rattle.std.proofs.lemmas.Result.{err_from_is_err_and}
use mathlib.Core.Path.{◌≡◌, refl, sym, ap, ◌∙◌}
use native.Mathlib.Omega.{arith}
use Rattle.load.proofs.TopLaws.{load_refused, load_tile, Writable, writable, edge_columns, written, written_over}
use Rattle.load.specs.Columns.{Columns, columns, lengths}
use Rattle.load.specs.Lent.{contents}
use Rattle.load.specs.Load.{counts, load_of, columns_left}
use Rattle.load.specs.Sources.{Files, files, table_at}
use Rattle.load.specs.Serving.Named.{tables_among}
use Rattle.load.specs.Serving.Stages.{judged_of}
use Rattle.load.specs.declared.TableName.TheVariants.{Edg, Fac, Rng, Cnd}
use Rattle.load.proofs.load.Goals as goal
use Rattle.load.proofs.load.Goals.{After-judge, After-write_edges}

-- what was judged
said : (c : After-judge) → judged_of c.args.sources.now c.args.most (lengths (contents c.args.columns.now)) ≡ c.judge.result
said c = rw (← c.lengths.ensures) (sym c.judge.ensures)

pub returns-in_err-judged : goal.returns-in_err-judged
returns-in_err-judged c =
    let p = err_from_is_err_and c.from_residual.result c.from_residual.ensures.1 in
    rw (p.1, p.2) record {
      value = load_refused _ _ _ _ (said (goal.at.returns-in_err-judged c).After-judge ∙ c.in_err-judged.was);
      columns_after = refl;
      same_columns = (refl, refl, refl, refl, refl, refl, refl, refl, refl, refl);
    }

pub write_edges-requires : goal.write_edges-requires
unfolding table_at
write_edges-requires c =
    let s = c.sources.inside in
    let f = files s.edg.now s.edx.now s.fac.now s.fax.now s.rng.now s.rnx.now s.cnd.now s.cnx.now in
    let p : judged_of f c.args.most (lengths (contents c.args.columns.now)) ≡ Ok c.in_ok-judged.judged =
    rw c.sources.view_is (said (goal.at.write_edges-requires c).After-judge ∙ c.in_ok-judged.was) in
    let w = writable f c.args.most _ _ p in record {
      rows_le_most_rows = w.few Edg;
      rows_judged = w.judged Edg;
      edge_columns = edge_columns _ _ _ w;
      rows_in_bounds = (
        w.room 1 (omega arith, omega arith),
        w.room 2 (omega arith, omega arith),
        w.room 3 (omega arith, omega arith),
        w.room 4 (omega arith, omega arith),
        w.room 5 (omega arith, omega arith),
        w.room 6 (omega arith, omega arith),
      );
    }

-- the same after the six columns of edges are written, whose four neighbours are as they were
may_write : (c : After-write_edges) → let s = c.sources.inside in
    Writable (files s.edg.now s.edx.now s.fac.now s.fax.now s.rng.now s.rnx.now s.cnd.now s.cnx.now) (lengths (contents c.args.columns.now)) c.in_ok-judged.judged
may_write c =
    writable _ c.args.most _ _ (rw c.sources.view_is (said (goal.at.After-write_edges c).After-judge ∙ c.in_ok-judged.was))

pub write_column-requires : goal.write_column-requires
unfolding table_at
write_column-requires c =
    let w = may_write (goal.at.write_column-requires c).After-write_edges in record {
      rows_le_most_rows = w.few Fac;
      rows_judged = w.judged Fac;
      column_value = w.there 7 (omega arith, omega arith);
      rows_in_bounds = omega (arith, w.room 7 (omega arith, omega arith), ap (λ (d : Columns). length d.ring_ptr) c.write_edges.ensures.columns_after);
    }

pub write_column-requires-2 : goal.write_column-requires-2
unfolding table_at
write_column-requires-2 c =
    let w = may_write (goal.at.write_column-requires-2 c).After-write_edges in record {
      rows_le_most_rows = w.few Rng;
      rows_judged = w.judged Rng;
      column_value = w.there 8 (omega arith, omega arith);
      rows_in_bounds = omega (arith, w.room 8 (omega arith, omega arith), ap (λ (d : Columns). length d.fac_id) c.write_edges.ensures.columns_after);
    }

pub write_column-requires-3 : goal.write_column-requires-3
unfolding table_at
write_column-requires-3 c =
    let w = may_write (goal.at.write_column-requires-3 c).After-write_edges in record {
      rows_le_most_rows = w.few Rng;
      rows_judged = w.judged Rng;
      column_value = w.there 9 (omega arith, omega arith);
      rows_in_bounds = omega (arith, w.room 9 (omega arith, omega arith), ap (λ (d : Columns). length d.start_edge) c.write_edges.ensures.columns_after);
    }

pub write_column-requires-4 : goal.write_column-requires-4
unfolding table_at
write_column-requires-4 c =
    let w = may_write (goal.at.write_column-requires-4 c).After-write_edges in record {
      rows_le_most_rows = w.few Cnd;
      rows_judged = w.judged Cnd;
      column_value = w.there 10 (omega arith, omega arith);
      rows_in_bounds = omega (arith, w.room 10 (omega arith, omega arith), ap (λ (d : Columns). length d.first_edge) c.write_edges.ensures.columns_after);
    }

pub returns : goal.returns
returns c =
    let s = c.sources.inside in
    let f = files s.edg.now s.edx.now s.fac.now s.fax.now s.rng.now s.rnx.now s.cnd.now s.cnx.now in
    let d = contents c.args.columns.now in
    let p : judged_of f c.args.most (lengths d) ≡ Ok c.in_ok-judged.judged = rw c.sources.view_is (said (goal.at.returns c).After-judge ∙ c.in_ok-judged.was) in
    let left = written f c.args.most (lengths d) _ p in
    let over = written_over f c.args.most (lengths d) _ p in
    let six = c.write_edges.ensures.columns_after in
    let all : columns _ _ _ _ _ _ _ _ _ _ ≡ columns_left (Ok (counts (tables_among c.in_ok-judged.judged.opened))) f c.args.most d =
    λ i. columns (left Edg 1 d.start_node _ (ap (λ (d : Columns). d.start_node) six) i) (left Edg 2 d.end_node _ (ap (λ (d : Columns). d.end_node) six) i)
    (left Edg 3 d.right_face _ (ap (λ (d : Columns). d.right_face) six) i) (left Edg 4 d.left_face _ (ap (λ (d : Columns). d.left_face) six) i)
    (left Edg 5 d.right_edge _ (ap (λ (d : Columns). d.right_edge) six) i) (left Edg 6 d.left_edge _ (ap (λ (d : Columns). d.left_edge) six) i)
    (over Fac 7 d.ring_ptr _ _ (ap (λ (d : Columns). d.ring_ptr) six) c.write_column.ensures i)
    (over Rng 8 d.fac_id _ _ (ap (λ (d : Columns). d.fac_id) six) c.write_column-2.ensures i)
    (over Rng 9 d.start_edge _ _ (ap (λ (d : Columns). d.start_edge) six) c.write_column-3.ensures i)
    (over Cnd 10 d.first_edge _ _ (ap (λ (d : Columns). d.first_edge) six) c.write_column-4.ensures i) in record {
      value = load_tile f c.args.most (lengths d) _ p ∙ ap (λ (f : Files). load_of f c.args.most (lengths d)) c.sources.view_is;
      columns_after =
          all ∙ ap (λ (f : Files). columns_left (Ok (counts (tables_among c.in_ok-judged.judged.opened))) f c.args.most d) c.sources.view_is;
      same_columns = c.write_edges.ensures.same_columns;
    }
