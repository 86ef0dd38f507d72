-- 15: the test of the sizes passes exactly where the slices of one table are equal, no table has too many rows, and faces and rings are there.
use mathlib.Core.Path.{◌≡◌}
use mathlib.Core.Logic.{◌↔◌}
use mathlib.Core.Bool.{false}
use Prim.Native.Nat.{◌*◌, ◌≤◌, ◌<◌}
use lib.ListN.{length}
use Rattle.laws.proofs.TestLaws.{or_false, not_unequal, nonzero, not_above}
use native.Mathlib.Omega.{arith}
use Rattle.limits.specs.Limits.{most_rows}
use Rattle.tile.specs.Columns.{Tile, E, F, R, N, sides}
use Rattle.tile.specs.Check.{slices_unequal, too_many_rows, sizes_wrong}

module _ (t : Tile) where
  abbrev pub SlicesEqual : Type 0
  SlicesEqual =
      (length t.edg.end_node ≡ E t) × ((length t.edg.right_face ≡ E t) × ((length t.edg.left_face ≡ E t)
      × ((length t.edg.right_edge ≡ E t) × ((length t.edg.left_edge ≡ E t) × (length t.start_edge ≡ R t)))))

  abbrev pub RowsWithin : Type 0
  RowsWithin = (E t ≤ most_rows) × ((F t ≤ most_rows) × ((R t ≤ most_rows) × (N t ≤ most_rows)))

  slices_right : (slices_unequal t ≡ false) ↔ SlicesEqual
  unfolding slices_unequal
  slices_right =
      or_false _ _ (not_unequal _ _)
      (or_false _ _ (not_unequal _ _)
      (or_false _ _ (not_unequal _ _) (or_false _ _ (not_unequal _ _) (or_false _ _ (not_unequal _ _) (not_unequal _ _)))))

  rows_right : (too_many_rows t ≡ false) ↔ RowsWithin
  unfolding too_many_rows
  rows_right = or_false _ _ (not_above _ _) (or_false _ _ (not_above _ _) (or_false _ _ (not_above _ _) (not_above _ _)))

  pub sizes_right : (sizes_wrong t ≡ false) ↔ (SlicesEqual × (RowsWithin × ((0 < F t) × (0 < R t))))
  unfolding sizes_wrong
  sizes_right =
      or_false (slices_unequal t) _ slices_right
      (or_false (too_many_rows t) _ rows_right (or_false _ _ (nonzero (F t)) (nonzero (R t))))

  -- no table is too long
  pub rows_within : sizes_wrong t ≡ false → (E t ≤ most_rows) × (R t ≤ most_rows)
  rows_within e = let h = (sizes_right.0 e).1.0 in (h.0, h.1.1.0)

-- the number of a side is small
pub sides_within : (u v : Tile) → u ≡ v → sizes_wrong u ≡ false → sides v ≤ 2 * most_rows
sides_within u v q w = rw (← q) (omega (arith, (rows_within u w).0))
