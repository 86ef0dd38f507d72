-- What each part of the tests leaves to the next, and the parts joined.
use Rattle.std.proofs.Common.{◌≡◌, refl, sym, ap, ◌∙◌, true, false, cond, ℕ, ◌≤◌, ◌<◌, List, ◌∷◌, length, arith, Result, Ok, Err, OnOk}
use Rattle.std.specs.Result.{is_err}
use lib.Dec.{eqb, ltb}
use borrow.Author.Tests.{le-ltb, lt-ltb, eqb-false}
use Rattle.laws.specs.Buffer.{front}
use Rattle.laws.specs.Marks.{zeros}
use Rattle.laws.proofs.LowestLaws.{bool_cases}
use Rattle.refusal.specs.declared.Refusal.{Refusal}
use Rattle.refusal.specs.Order.{Answer, answered, refusal, fine, refused_if, located, first, first_of, lowest_of}
use Rattle.refusal.proofs.OrderLaws.{passed_all, located_passes, lowest-fine, first_append, Numbered, first_numbered, located_numbered, lowest_numbered}
use Rattle.refusal.proofs.AnswerLaws.{ok-fine}
use Rattle.side.specs.Edges.{Edges, side_count}
use Rattle.side.specs.Successor.{Successor, successor}
use Rattle.side.proofs.SideLaws.{Sound, successor_sound}
use Rattle.tile.specs.Columns.{Tile, F, N, sides}
use Rattle.tile.specs.Check.{sizes_wrong, refused_side, edge_side_refusal, tests, verdict, verdict_of, marks_left, marks_after}
use Rattle.tile.specs.Serving.Stages.{edge_tests, ring_tests, owner_tests, doubled_side, taken_ring, owners_painted, later_tests, owners_left, marks_judged}
use Rattle.laws.proofs.BufferLaws.{front_over}
use Rattle.tile.proofs.OwnerLaws.{all_painted, painted_over}

-- ---- the edges' tests passed: every side has a successor
pub sides-fine : (t : Edges) (faces nodes : ℕ) (x : Answer) → x ≡ answered (first_of (edge_tests t faces nodes)) → x ≡ Ok tt
    → lowest_of (edge_side_refusal t) (side_count t) ≡ fine
unfolding edge_tests
sides-fine t faces nodes x e h =
    lowest-fine (edge_side_refusal t) (side_count t) (passed_all (edge_tests t faces nodes) (ok-fine _ (sym e ∙ h))).1.1.1.0

-- ---- 20 to 31 in order, part by part
pub in_order : (t : Tile) → first_of (later_tests t)
    ≡ first (first_of (edge_tests t.edg (F t) (N t))) (first (located 26 (doubled_side t.edg)) (first (first_of (ring_tests t)) (first_of (owner_tests t))))
unfolding later_tests
in_order t =
    first_append (edge_tests t.edg (F t) (N t)) _
    ∙ ap (λ (r : Refusal). first (first_of (edge_tests t.edg (F t) (N t))) (first (located 26 (doubled_side t.edg)) r)) (first_append (ring_tests t) (owner_tests t))

-- ---- the marks: zeros where a part refuses, the owners where none does
module _ (t : Tile) (q : Refusal) (x : Answer) (e : x ≡ answered q) (d m : List ℕ) where
  pub zeros_left : is_err x ≡ true → front zeros (sides t) m ≡ front zeros (sides t) d
      → (z : List ℕ) → z ≡ front zeros (sides t) m → z ≡ marks_judged t q d
  unfolding marks_judged
  zeros_left h b z u =
      bool_cases (eqb q.number 0)
      (λ i. absurd (grind (arith, e, h, i)))
      (λ i. rw i (u ∙ b))

  pub owners_kept : is_err x ≡ false → OnOk x (m ≡ owners_left t d) → m ≡ marks_judged t q d
  unfolding marks_judged
  owners_kept h o =
      bool_cases (eqb q.number 0)
      (λ i. rw i (rw (e, i) at o))
      (λ i. absurd (grind (arith, e, h, i)))

-- the rings' cycles painted over marks that agree with the lent ones beyond the sides
module _ (t : Tile) (d e m : List ℕ) (u : m ≡ owners_painted t e) (b : front zeros (sides t) e ≡ front zeros (sides t) d) where
  pub beyond_sides : front zeros (sides t) m ≡ front zeros (sides t) d
  beyond_sides = painted_over t e m u ∙ b

  over : (g : ℕ → ℕ) → front g (sides t) e ≡ front g (sides t) d
  over g = sym (front_over g zeros (sides t) e) ∙ ap (front g (sides t)) b ∙ front_over g zeros (sides t) d

  no_taken : (first_of (owner_tests t)).number ≡ 0 → taken_ring t ≡ 0
  unfolding owner_tests
  no_taken z = located_passes 30 _ (λ n. omega (arith, n)) (passed_all (owner_tests t) z).0

  pub owners_ok : (x : Answer) → x ≡ answered (first_of (owner_tests t)) → OnOk x (m ≡ owners_left t d)
  owners_ok (Ok _) q = all_painted t e m (no_taken (ok-fine _ (sym q))) u ∙ over _
  owners_ok (Err _) q = tt

-- ---- the check: the sizes and the owner space, then 20 to 31
parts_joined : (t : Tile) (space : ℕ) → tests t space ≡ refused_if (sizes_wrong t) 15 0
    ∷ (refused_if (ltb space (sides t)) 14 (sides t) ∷ later_tests t)
unfolding later_tests edge_tests ring_tests owner_tests
parts_joined t space = refl

side_numbered : (s n : ℕ) (c : Successor) → Sound n c → Numbered 20 (refused_side s c)
side_numbered s n (Ok u) h z = absurd (z refl)
side_numbered s n (Err k) h z = omega (arith, h.0)

later_numbered : (t : Tile) → Numbered 20 (first_of (later_tests t))
unfolding later_tests edge_tests ring_tests owner_tests
later_numbered t =
    first_numbered 20 (later_tests t) (
      located_numbered 20 20 _ (omega arith),
      (
        located_numbered 20 21 _ (omega arith),
        (
          located_numbered 20 22 _ (omega arith),
          (
            lowest_numbered 20 (edge_side_refusal t.edg) (sides t)
                (λ s. side_numbered s (sides t) (successor t.edg s) (successor_sound t.edg s)),
            (
              located_numbered 20 26 _ (omega arith),
              (
                located_numbered 20 27 _ (omega arith),
                (
                  located_numbered 20 28 _ (omega arith),
                  (
                    located_numbered 20 28 _ (omega arith),
                    (
                      located_numbered 20 29 _ (omega arith),
                      (
                        located_numbered 20 30 _ (omega arith),
                        (
                          located_numbered 20 31 _ (omega arith),
                          tt,
                        ),
                      ),
                    ),
                  ),
                ),
              ),
            ),
          ),
        ),
      ),
    )

-- the tile is sized, or it is refused
module _ (t : Tile) (x : Result Tile Refusal) (e : x ≡ cond (sizes_wrong t) (Err (refusal 15 0)) (Ok t)) where
  pub not_sized : (r : Refusal) → x ≡ Err r → (sizes_wrong t ≡ true) × (r ≡ refusal 15 0)
  not_sized r h =
      bool_cases (sizes_wrong t)
      (λ w. (w, grind (arith, h, rw w at e)))
      (λ w. absurd (grind (arith, h, rw w at e)))

  pub is_sized : (u : Tile) → x ≡ Ok u → (sizes_wrong t ≡ false) × (u ≡ t)
  is_sized u h =
      bool_cases (sizes_wrong t)
      (λ w. absurd (grind (arith, h, rw w at e)))
      (λ w. (w, cc (h, rw w at e)))

module _ (t : Tile) (d : List ℕ) where
  pub wrong_sizes : (q : Refusal) → q ≡ refusal 15 0 → sizes_wrong t ≡ true → (Err q ≡ verdict_of t (length d)) × (d ≡ marks_after t d)
  unfolding verdict marks_left first
  wrong_sizes q e w = (rw (e, w), rw w)

  module _ (w : sizes_wrong t ≡ false) where
    pub no_space : (q : Refusal) → q ≡ refusal 14 (sides t) → length d < sides t → (Err q ≡ verdict_of t (length d)) × (d ≡ marks_after t d)
    unfolding verdict marks_left first
    no_space q e h = (rw (e, w, lt-ltb (length d) (sides t) h), rw (w, lt-ltb (length d) (sides t) h))

    module _ (h : sides t ≤ length d) where
      is_verdict : first_of (later_tests t) ≡ verdict t (length d)
      unfolding verdict first
      is_verdict = sym (ap first_of (parts_joined t (length d)) ∙ rw (w, le-ltb (length d) (sides t) h) refl)

      pub judged : (x : Answer) → x ≡ answered (first_of (later_tests t)) → x ≡ verdict_of t (length d)
      judged x e = e ∙ ap answered is_verdict

      pub marks_are : (m : List ℕ) → m ≡ marks_judged t (first_of (later_tests t)) d → m ≡ marks_after t d
      unfolding marks_judged marks_left
      marks_are m u =
          bool_cases (eqb (first_of (later_tests t)).number 0)
          (λ z. rw (← is_verdict, z) (rw z at u))
          (λ z.
          let n = eqb-false (first_of (later_tests t)).number 0 z in
          rw (← is_verdict, z, le-ltb (first_of (later_tests t)).number 20 (later_numbered t n)) (rw z at u))
