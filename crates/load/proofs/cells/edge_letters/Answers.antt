use mathlib.Core.Path.{◌≡◌, ap, ◌∙◌}
use Prim.Native.Nat.{ℕ, suc, pred, ◌-◌}
use native.Mathlib.Omega.{arith}
use lib.ListN.{get_or, replicate}
use Rattle.laws.specs.Buffer.{front}
use Rattle.laws.proofs.BufferLaws.{front_next}
use Rattle.field.specs.Fields.{letter_of}
use Rattle.table.specs.Rows.{column_at}
use Rattle.load.specs.Serving.CellPlans.{letters_of}
use Rattle.load.proofs.cells.edge_letters.Goals as goal

pub overflow_sub-columns : goal.overflow_sub-columns
overflow_sub-columns c = omega (arith, (c.requires (suc c.loop-k.k) (omega arith) (omega arith)).0)

pub offset_bounds-layout-columns : goal.offset_bounds-layout-columns
offset_bounds-layout-columns c = omega (arith, (c.requires (suc c.loop-k.k) (omega arith) (omega arith)).1)

pub bounds-layout-columns : goal.bounds-layout-columns
bounds-layout-columns c =
    omega (
      arith,
      (c.requires (suc c.loop-k.k) (omega arith) (omega arith)).0,
      (c.requires (suc c.loop-k.k) (omega arith) (omega arith)).1,
    )

pub loop-k-preserved : goal.loop-k-preserved
loop-k-preserved c =
    let q : pred (get_or c.args.columns.now c.loop-k.k 0) ≡ get_or c.args.columns.now c.loop-k.k 0 - 1 = omega arith in
    front_next (λ k. letter_of (column_at c.args.layout.now (get_or c.args.columns.now k 0)).kind) c.loop-k.k _ c.loop-k.letters (replicate 6 0)
    c.loop-k.invariant (rw q c.letter.ensures) (omega arith)

pub returns : goal.returns
unfolding letters_of
returns c =
    let q : c.loop-k.k ≡ 6 = omega (arith, c.loop-k-test.false, c.loop-k.auto) in
    c.loop-k.invariant ∙ ap (λ (n : ℕ). front (λ k. letter_of (column_at c.args.layout.now (get_or c.args.columns.now k 0)).kind) n (replicate 6 0)) q
