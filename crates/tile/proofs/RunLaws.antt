-- The runs of the faces, judged without scratch.
use mathlib.Core.Path.{◌≡◌, sym, ap, ◌∙◌}
use mathlib.Core.Bool.{cond, ◌&&◌}
use mathlib.Core.List.{List}
use Prim.Native.Nat.{ℕ, zero, suc, ◌+◌, ◌<◌}
use mathlib.Core.Logic.{by_cases}
use mathlib.Core.Path.{refl}
use native.Mathlib.Omega.{arith}
use native.Mathlib.Decide.{dec_lt}
use Rattle.std.specs.Prelude.{Option, Some}
use native.Mathlib.Numerals.{add-one}
use lib.Dec.{eqb, ltb}
use lib.ListN.{length}
use borrow.Author.Tests.{ne_eqb, lt-ltb, le-ltb}
use Rattle.laws.specs.Orbit.{entry}
use Rattle.laws.specs.Sums.{Into}
use Rattle.laws.specs.Lowest.{found, lowest, lesser, least}
use Rattle.laws.proofs.LowestLaws.{lowest-zero, lowest_ext}
use Rattle.laws.proofs.LeastLaws.{least_is, lowest_either}
use Rattle.side.proofs.SideLaws.{not-outside}
use Rattle.tile.specs.Check.{entry_outside, run_broken}
use Rattle.tile.specs.Serving.Stages.{begins_elsewhere, points_away, run_not_at_pointer, lesser_of}
use Rattle.tile.proofs.RunsExactly.{not_at_pointer_broken}

-- the smaller of two that are found
pub found-lesser : (a b : ℕ) → found (lesser a b) ≡ lesser_of (found a) (found b)
unfolding lesser
found-lesser zero b = refl
found-lesser (suc a) zero = rw (ne_eqb (suc a) 0 (λ e. omega (arith, e)))
found-lesser (suc a) (suc b) = by_cases (dec_lt (suc a) (suc b))
    (λ c. rw (ne_eqb (suc a) 0 (λ e. omega (arith, e)), ne_eqb (suc b) 0 (λ e. omega (arith, e)), lt-ltb (suc a) (suc b) c) (ap Some (omega arith)))
    (λ c. rw (ne_eqb (suc a) 0 (λ e. omega (arith, e)), ne_eqb (suc b) 0 (λ e. omega (arith, e)), le-ltb (suc a) (suc b) (omega arith)) (ap Some (omega arith)))

module _ (ring_ptr fac_id : List ℕ) where
  faces_in : lowest (entry_outside (length ring_ptr) fac_id) (length fac_id) ≡ 0 → Into (entry fac_id) (length fac_id) (length ring_ptr)
  faces_in e k a b = not-outside (length ring_ptr) (entry fac_id k)
      ((lowest-zero (entry_outside (length ring_ptr) fac_id) (length fac_id) e).fails k a b)

  -- THE LOWEST FACE with a wrong run: the lower of the two that one pass over the rings and one over the faces find
  pub runs_judged : lowest (entry_outside (length ring_ptr) fac_id) (length fac_id) ≡ 0
      → lesser (lowest (points_away ring_ptr fac_id) (length ring_ptr)) (least (begins_elsewhere ring_ptr fac_id) (entry fac_id) (length fac_id))
      ≡ lowest (run_broken ring_ptr fac_id) (length ring_ptr)
  runs_judged e =
      ap (lesser (lowest (points_away ring_ptr fac_id) (length ring_ptr)))
      (least_is (begins_elsewhere ring_ptr fac_id) (entry fac_id) (length fac_id) (length ring_ptr) (faces_in e))
      ∙ lowest_either (points_away ring_ptr fac_id)
      (λ f. ltb 0 (lowest (λ r. eqb (entry fac_id r) f && begins_elsewhere ring_ptr fac_id r) (length fac_id))) (length ring_ptr)
      ∙ lowest_ext (run_not_at_pointer ring_ptr fac_id) (run_broken ring_ptr fac_id) (length ring_ptr) (λ f a b. not_at_pointer_broken ring_ptr fac_id f a)

  -- a ring's face is there
  pub face_there : lowest (entry_outside (length ring_ptr) fac_id) (length fac_id) ≡ 0 → (i : ℕ) → i < length fac_id → 0 < entry fac_id (i + 1)
  face_there e i h = rw add-one (faces_in e (suc i) (omega arith) h).0

  -- one more ring row, as the loop has it
  pub least_more : (i : ℕ) (low next : Option ℕ) → low ≡ found (least (begins_elsewhere ring_ptr fac_id) (entry fac_id) i)
      → next ≡ found (cond (begins_elsewhere ring_ptr fac_id (i + 1)) (entry fac_id (i + 1)) 0)
      → lesser_of low next ≡ found (least (begins_elsewhere ring_ptr fac_id) (entry fac_id) (i + 1))
  least_more i low next p q = rw (p, q, add-one) (sym (found-lesser _ _))
