-- WHAT THE BOUNDS ARE, once over the width: accepted exactly when there is a coordinate and every x and y is finite; then
-- the rectangle and no other; refused with 12 at the lowest coordinate with x or y not finite, or at 0 for none; and with
-- nothing else.
use mathlib.Core.Path.{◌≡◌, refl, sym, ap, subst, ◌∙◌}
use mathlib.Core.Logic.{◌↔◌, ◌⊎◌, inl, inr, ⊎_elim}
use Rattle.std.specs.Prelude.{Ok, Err}
use mathlib.Core.Bool.{Bool, true, false, not, ◌&&◌, true≢false}
use Prim.Native.Nat.{ℕ, ◌<◌}
use native.Mathlib.Omega.{arith}
use native.Mathlib.Nat.{eq-zero-or-pos}
use lib.Ieee.Scale.{finite}
use borrow.Author.Tests.{eq-eqb, ne_eqb}
use Rattle.laws.specs.Lowest.{None, At, lowest}
use Rattle.laws.proofs.LowestLaws.{lowest_cases, lowest_is, lowest_nothing}
use Rattle.laws.proofs.ForemostLaws.{reversed_ordered, foremost_earliest, one_earliest}
use Rattle.refusal.specs.declared.Refusal.{Refusal}
use Rattle.refusal.specs.Order.{refusal}
use Rattle.bounds.specs.Bounds.{Rectangle, Bounds, Coordinates, count, xOf, yOf, unfit, rectangle_of, not_finite_or_none, bounds_of}
use Rattle.bounds.specs.Words.{Accepted, RectangleOf}
use Rattle.bounds.proofs.FloatOrder.{ordered}

-- ---- the three ways to an answer
module _ (c : Coordinates) where
  at_none : count c ≡ 0 → bounds_of c ≡ Err (refusal not_finite_or_none 0)
  unfolding bounds_of
  at_none e = rw (eq-eqb (count c) 0 e)

  at_unfit : (i : ℕ) → At (unfit c) (count c) i → bounds_of c ≡ Err (refusal not_finite_or_none i)
  unfolding bounds_of
  at_unfit i h =
      rw (
        ne_eqb (count c) 0 (λ z. omega (arith, h.pos, h.within)),
        lowest_is (unfit c) (count c) i h.pos h.within h.passes h.below,
        ne_eqb i 0 (λ z. omega (arith, h.pos)),
      )

  at_end : 0 < count c → None (unfit c) (count c) → bounds_of c ≡ Ok (rectangle_of c (count c))
  unfolding bounds_of
  at_end p h = rw (ne_eqb (count c) 0 (λ z. omega arith), lowest_nothing (unfit c) (count c) h)

  -- ---- fit is finite, of x and of y
  both_finite : (a b : Bool) → not (a && b) ≡ false → (a ≡ true) × (b ≡ true)
  both_finite true true e = (refl, refl)
  both_finite true false e = absurd (true≢false e)
  both_finite false b e = absurd (true≢false e)

  accepted : 0 < count c → None (unfit c) (count c) → Accepted c
  unfolding unfit
  accepted p h =
      record {
        some = p;
        x_finite = λ i a l. (both_finite (finite (xOf c i)) (finite (yOf c i)) (h.fails i a l)).0;
        y_finite = λ i a l. (both_finite (finite (xOf c i)) (finite (yOf c i)) (h.fails i a l)).1;
      }

  all_fit : Accepted c → None (unfit c) (count c)
  unfolding unfit
  all_fit h = record { fails = λ i a l. rw (h.x_finite i a l, h.y_finite i a l) }

  -- what an answer means
  abbrev Means : Bounds → Type 0
  Means (Ok r) = Accepted c × (r ≡ rectangle_of c (count c))
  Means (Err q) = ((count c ≡ 0) × (q ≡ refusal not_finite_or_none 0)) ⊎ ((i : ℕ) × At (unfit c) (count c) i × (q ≡ refusal not_finite_or_none i))

  meant : Means (bounds_of c)
  meant = by (eq-zero-or-pos (count c)) (lowest_cases (unfit c) (count c))
    where
      by : (count c ≡ 0) ⊎ (0 < count c) → ((lowest (unfit c) (count c) ≡ 0) × None (unfit c) (count c)) ⊎ At (unfit c)
          (count c) (lowest (unfit c) (count c)) → Means (bounds_of c)
      by (inl z) h = rw (at_none z) (inl (z, refl))
      by (inr p) (inl h) = rw (at_end p h.1) (accepted p h.1, refl)
      by (inr p) (inr h) = rw (at_unfit (lowest (unfit c) (count c)) h) (inr (lowest (unfit c) (count c), h, refl))

  -- ---- the rectangle of an accepted edge
  found : Accepted c → RectangleOf c (rectangle_of c (count c))
  unfolding rectangle_of
  found h =
      record {
        least_x = foremost_earliest ordered (xOf c) (count c) h.some h.x_finite;
        least_y = foremost_earliest ordered (yOf c) (count c) h.some h.y_finite;
        greatest_x = foremost_earliest (reversed_ordered ordered) (xOf c) (count c) h.some h.x_finite;
        greatest_y = foremost_earliest (reversed_ordered ordered) (yOf c) (count c) h.some h.y_finite;
      }

  no_second : (r q : Rectangle) → RectangleOf c r → RectangleOf c q → r ≡ q
  no_second r q h k =
      let a : r.least_x ≡ q.least_x = one_earliest h.least_x k.least_x in
      let b : r.least_y ≡ q.least_y = one_earliest h.least_y k.least_y in
      let d : r.greatest_x ≡ q.greatest_x = one_earliest h.greatest_x k.greatest_x in
      let e : r.greatest_y ≡ q.greatest_y = one_earliest h.greatest_y k.greatest_y in
      λ i. record { least_x = a i; least_y = b i; greatest_x = d i; greatest_y = e i }

  -- ---- the theorems

  -- a rectangle is the answer exactly when the edge is accepted
  pub accepted_exactly : ((r : Rectangle) × (bounds_of c ≡ Ok r)) ↔ Accepted c
  accepted_exactly = (λ h. (subst Means h.1 meant).0, λ h. (rectangle_of c (count c), at_end h.some (all_fit h)))

  -- r is the answer exactly when the edge is accepted and r is its rectangle
  pub rectangle_exactly : (r : Rectangle) → (bounds_of c ≡ Ok r) ↔ (Accepted c × RectangleOf c r)
  rectangle_exactly r = (
    λ e. let m = subst Means e meant in (m.0, subst (RectangleOf c) (sym m.1) (found m.0)),
    λ h. at_end h.0.some (all_fit h.0) ∙ ap Ok (no_second (rectangle_of c (count c)) r (found h.0) h.1),
  )

  -- 12 at i exactly when i is the lowest coordinate with x or y not finite
  pub refused-exactly : (i : ℕ) → 0 < i → (bounds_of c ≡ Err (refusal not_finite_or_none i)) ↔ At (unfit c) (count c) i
  refused-exactly i p = (
    λ e.
        ⊎_elim
        (λ h. let z : i ≡ 0 = ap (λ (q : Refusal). q.place) h.1 in absurd (omega arith))
        (λ h. let z : i ≡ h.0 = ap (λ (q : Refusal). q.place) h.2 in rw z h.1)
        (subst Means e meant),
    at_unfit i,
  )

  -- 12 at 0 exactly when there are no coordinates
  pub none_exactly : (bounds_of c ≡ Err (refusal not_finite_or_none 0)) ↔ (count c ≡ 0)
  none_exactly = (
    λ e.
        ⊎_elim
        (λ h. h.0)
        (λ h. let z : 0 ≡ h.0 = ap (λ (q : Refusal). q.place) h.2 in absurd (omega (arith, h.1.pos)))
        (subst Means e meant),
    at_none,
  )

  -- no other number is given
  pub refused-number : (q : Refusal) → bounds_of c ≡ Err q → q.number ≡ not_finite_or_none
  refused-number q e = ⊎_elim (λ h. ap (λ (r : Refusal). r.number) h.1) (λ h. ap (λ (r : Refusal). r.number) h.2) (subst Means e meant)
