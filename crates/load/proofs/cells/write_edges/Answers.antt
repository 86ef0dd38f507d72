use mathlib.Core.Path.{◌≡◌, refl}
use Prim.Native.Nat.{ℕ}
use native.Mathlib.Omega.{arith}
use Rattle.table.proofs.PlanLaws.{bound_first}
use Rattle.load.specs.Sources.{number_at_place}
use Rattle.load.specs.Cells.{cell_of}
use Rattle.load.proofs.CellLaws.{plan_there, places_by_layout, six_there, ready, edges_all, turn, cells_read, written_cell}
use Rattle.load.proofs.cells.write_edges.Goals as goal

pub edge_letters-letters-requires : goal.edge_letters-letters-requires
edge_letters-letters-requires c =
    six_there c.args.table.now.layout c.args.columns.now c.requires.edge_columns

pub loop-i-init : goal.loop-i-init
loop-i-init c = (
  bound_first c.args.index.now c.args.table.now.layout,
  ready c.args.table.now.layout _ c.offsets_of-places.ensures,
  ((refl, refl), (refl, refl), (refl, refl), (refl, refl), (refl, refl), (refl, refl), refl, refl, refl, refl, (refl, refl, refl, refl, refl, refl, refl, refl, refl, refl)),
)

pub edge_cells-cells-requires : goal.edge_cells-cells-requires
edge_cells-cells-requires c =
    six_there c.args.table.now.layout c.args.columns.now c.requires.edge_columns

pub loop-i-preserved : goal.loop-i-preserved
loop-i-preserved c =
    let g : ℕ → ℕ → ℕ = λ k. cell_of c.args.file.now c.args.index.now c.args.table.now.layout (number_at_place c.args.columns.now k) in
    let t = turn c.args.file.now c.args.index.now c.args.table.now.layout c.args.table.now.rows c.requires.rows_judged c.requires.rows_le_most_rows c.loop-i.i c.loop-i.start
    c.bound-end.result c.loop-i-test.true c.loop-i.invariant.0 (rw c.of-rows.ensures at c.bound-end.ensures) c.of-rows.result.plan
    (plan_there c.args.table.now.layout c.of-rows.result c.of-rows.ensures) c.args.table.now.layout.columns
    c.walk_row-origin.result c.loop-i.places _ c.loop-i.invariant.1 (rw c.of-rows.ensures at c.walk_row-origin.ensures.value)
    (places_by_layout c.args.table.now.layout c.of-rows.result c.of-rows.ensures c.args.file.now c.args.table.now.layout.columns
    c.loop-i.start c.bound-end.result c.loop-i.places _ c.walk_row-origin.ensures.places_after) in
    let v = cells_read c.args.file.now c.args.index.now c.args.table.now.layout c.loop-i.i c.args.table.now.layout.columns _ _ _ c.args.columns.now c.edge_letters-letters.result
    c.edge_cells-cells.result t c.requires.edge_columns (omega arith) c.edge_letters-letters.ensures
    c.edge_cells-cells.ensures in
    let w = written_cell g c.loop-i.i c.args.table.now.rows c.edge_cells-cells.result c.loop-i-test.true v in
    let x = c.loop-i.invariant.2 in
    let m = c.requires.rows_in_bounds in (
      t.ends,
      t.still,
      (
        w 0 (omega arith) _ _ _ x.0 c.put.ensures m.0,
        w 1 (omega arith) _ _ _ x.1 c.put-in-loop-i.ensures m.1,
        w 2 (omega arith) _ _ _ x.2 c.put-in-loop-i-2.ensures m.2,
        w 3 (omega arith) _ _ _ x.3 c.put-in-loop-i-3.ensures m.3,
        w 4 (omega arith) _ _ _ x.4 c.put-in-loop-i-4.ensures m.4,
        w 5 (omega arith) _ _ _ x.5 c.put-in-loop-i-5.ensures m.5,
        x.6,
        x.7,
        x.8,
        x.9,
        x.10,
      ),
    )

pub returns : goal.returns
returns c =
    let all : c.loop-i.i ≡ c.args.table.now.rows = omega (arith, c.loop-i-test.false, c.loop-i.auto) in record {
      columns_after = edges_all c.args.file.now c.args.index.now c.args.table.now c.args.columns.now c.loop-i.i c.args.out.now c.loop-i.out c.loop-i.invariant.2 all;
      same_columns = c.loop-i.invariant.2.10;
    }
