use mathlib.Core.Path.{◌≡◌, ap, ◌∙◌}
use Prim.Native.Nat.{ℕ, suc}
use native.Mathlib.Omega.{arith}
use lib.ListN.{get_or, replicate}
use Rattle.laws.specs.Buffer.{front}
use Rattle.laws.proofs.BufferLaws.{front_next}
use Rattle.taken.specs.Numbers.{number_by}
use Rattle.load.specs.Serving.CellPlans.{cell_at, cells_at}
use Rattle.load.proofs.cells.edge_cells.Goals as goal

pub overflow_sub-column : goal.overflow_sub-column
overflow_sub-column c =
    let d = c.requires (suc c.loop-k.k) (omega arith) (omega arith) in omega (arith, d.0)

pub offset_bounds-places-column : goal.offset_bounds-places-column
offset_bounds-places-column c =
    let d = c.requires (suc c.loop-k.k) (omega arith) (omega arith) in omega (arith, d.0, d.1)

pub bounds-places-column : goal.bounds-places-column
bounds-places-column c =
    let d = c.requires (suc c.loop-k.k) (omega arith) (omega arith) in omega (arith, d.0, d.1)

pub loop-k-preserved : goal.loop-k-preserved
loop-k-preserved c =
    let q = c.number_by.ensures ∙ ap (λ (p : ℕ). number_by c.args.order c.args.file.now (get_or c.args.letters.now c.loop-k.k 0) p c.args.end)
    c.place_within.ensures in
    front_next (λ k. cell_at c.args.order c.args.file.now (get_or c.args.letters.now k 0) (get_or c.args.columns.now k 0) c.args.places.now c.args.origin
    c.args.end) c.loop-k.k _ c.loop-k.cells (replicate 6 0) c.loop-k.invariant q (omega arith)

pub returns : goal.returns
unfolding cells_at
returns c =
    let q : c.loop-k.k ≡ 6 = omega (arith, c.loop-k-test.false, c.loop-k.auto) in
    c.loop-k.invariant ∙ ap (λ (n : ℕ). front (λ k. cell_at c.args.order c.args.file.now (get_or c.args.letters.now k 0) (get_or c.args.columns.now k 0)
    c.args.places.now c.args.origin c.args.end) n (replicate 6 0)) q
