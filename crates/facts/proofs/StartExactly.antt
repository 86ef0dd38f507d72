-- "The start side is the one with the ring's face; if both have it, the right one.": where a side of a ring row's start edge has
-- its face, the start side that the definition works out is that of these words, and no other is. And where start 0 is right.
use mathlib.Core.Path.{◌≡◌, refl, sym, ap, ◌∙◌}
use mathlib.Core.Logic.{◌↔◌, inl, inr, ⊎_elim}
use mathlib.Core.Bool.{false}
use Prim.Native.Nat.{ℕ}
use native.Mathlib.Omega.{arith}
use borrow.Author.Tests.{eq-eqb, eqb-true, eqb-false}
use lib.Dec.{eqb}
use Rattle.laws.specs.Orbit.{entry}
use Rattle.laws.proofs.LowestLaws.{bool_cases}
use Rattle.side.specs.Edges.{right, left, face}
use Rattle.side.proofs.SuccessorExactly.{not-outside, right_or_left, edge_of-right, edge_of-left, face_of_right, face_of_left}
use Rattle.tile.specs.Columns.{Tile, E, start_side}
use Rattle.tile.specs.Check.{start_wrong}
use Rattle.facts.specs.Facts.{StartsOnSide, StartSideIs}
use Rattle.facts.proofs.TestsInWords.{start_exactly}

module _ (t : Tile) (r : ℕ) where
  -- the words hold of at most one side, that of the definition
  pub start_side_of : (s : ℕ) → StartSideIs t r s → start_side t r ≡ s
  unfolding start_side
  start_side_of s h =
      let e = entry t.start_edge r in
      let f = entry t.fac_id r in
      let pos = h.within.0 in
      let on_right = face_of_right e pos t.edg in
      rw ((not-outside (E t) e).1 h.within)
      (bool_cases (eqb (entry t.edg.right_face e) f)
      (λ c. rw c (sym (h.right_one (on_right ∙ eqb-true _ f c))))
      (λ c.
      ⊎_elim
      (λ q. absurd (eqb-false _ f c (sym on_right ∙ ap (face t.edg) (sym q) ∙ h.bears)))
      (λ q.
      let b : entry t.edg.left_face e ≡ f = sym (face_of_left e pos t.edg) ∙ ap (face t.edg) (sym q) ∙ h.bears in
      rw (c, eq-eqb (entry t.edg.left_face e) f b) (sym q))
      (right_or_left e pos s h.of_edge)))

  pub starts_on : (s : ℕ) → StartSideIs t r s → StartsOnSide t r
  starts_on s h = record {
    within = h.within;
    bears =
        ⊎_elim (λ q. inl (ap (face t.edg) (sym q) ∙ h.bears)) (λ q. inr (ap (face t.edg) (sym q) ∙ h.bears))
        (right_or_left (entry t.start_edge r) h.within.0 s h.of_edge);
  }

  -- they hold of the definition's
  pub start_side_is : StartsOnSide t r → StartSideIs t r (start_side t r)
  unfolding start_side
  start_side_is h =
      let e = entry t.start_edge r in
      let f = entry t.fac_id r in
      let pos = h.within.0 in
      let on_right = face_of_right e pos t.edg in
      let on_left = face_of_left e pos t.edg in
      rw ((not-outside (E t) e).1 h.within)
      (bool_cases (eqb (entry t.edg.right_face e) f)
      (λ c.
      rw c (record { within = h.within; of_edge = edge_of-right e pos; bears = on_right ∙ eqb-true _ f c; right_one = λ q. refl }))
      (λ c.
      let no_right : face t.edg (right e) ≡ f → ⊥ = λ q. eqb-false _ f c (sym on_right ∙ q) in
      let b : face t.edg (left e) ≡ f = ⊎_elim (λ q. absurd (no_right q)) (λ q. q) h.bears in
      rw (c, eq-eqb (entry t.edg.left_face e) f (sym on_left ∙ b))
      (record { within = h.within; of_edge = edge_of-left e pos; bears = b; right_one = λ q. absurd (no_right q) })))

  -- THE START SIDE, exactly
  pub start_side_exactly : StartsOnSide t r → (s : ℕ) → StartSideIs t r s ↔ (start_side t r ≡ s)
  start_side_exactly h s = (start_side_of s, λ e. rw e at (start_side_is h))

  -- A START OF 0 IS RIGHT exactly in ring row 1 when its face is 1
  pub start_zero_exactly : entry t.start_edge r ≡ 0 → (start_wrong t r ≡ false) ↔ ((r ≡ 1) × (entry t.fac_id r ≡ 1))
  start_zero_exactly z =
      let w = start_exactly t r in (
        λ e. ⊎_elim (λ h. (h.row_one, h.face_one)) (λ h. absurd (omega (arith, h.within))) (w.0 e),
        λ h. w.1 (inl (record { no_start = z; row_one = h.0; face_one = h.1 })),
      )
