-- The steps of the successor's code: four rows read and the side chosen of them; the right and the left side followed.
use mathlib.Core.Path.{◌≡◌, refl, ◌∙◌}
use mathlib.Core.Bool.{Bool, true, false, ◌&&◌, ◌||◌, true≢false}
use mathlib.Core.List.{◌++◌}
use Prim.Native.Nat.{ℕ, ◌*◌, ◌%◌, ◌≤◌, ◌<◌}
use native.Mathlib.Omega.{arith}
use lib.Dec.{eqb, ltb}
use borrow.Author.Tests.{eq-eqb, ne_eqb, eqb-false, ltb-false}
use Rattle.laws.specs.Orbit.{entry}
use Rattle.laws.proofs.LowestLaws.{bool_cases}
use Rattle.side.specs.Edges.{Edges, edge_count, side_count, edge_of, outside, right, left, link, runs_to, face}
use Rattle.side.specs.Successor.{side_if, the_one, leaving, leaving_edge, Successor, successor, side_of, after}
use Rattle.std.specs.Prelude.{Ok, Err}
use Rattle.refusal.specs.Kinds.{number_of}
use Rattle.refusal.specs.declared.Kind.TheVariants.{EdgeOutOfRange}

or_false : (a b : Bool) → (a || b) ≡ false → (a ≡ false) × (b ≡ false)
or_false true b e = absurd (true≢false e)
or_false false b e = (refl, e)

-- a number that is not outside is one of 1..most
pub not-outside : (most x : ℕ) → outside most x ≡ false → (0 < x) × (x ≤ most)
not-outside most x e =
    let h = or_false (eqb x 0) (ltb most x) e in
    let z = eqb-false x 0 h.0 in
    (omega arith, ltb-false most x h.1)

module _ (t : Edges) where
  pub link_outside : (k v f : ℕ) → outside (edge_count t) k ≡ true → Err EdgeOutOfRange ≡ leaving_edge t k v f
  unfolding leaving_edge
  link_outside k v f o = rw o

module _ (t : Edges) (r : Successor) where
  pub link_inside : (k v f sn en rf lf : ℕ) → outside (edge_count t) k ≡ false
      → sn ≡ entry t.start_node k → en ≡ entry t.end_node k → rf ≡ entry t.right_face k → lf ≡ entry t.left_face k
      → r ≡ leaving sn en rf lf k v f → r ≡ leaving_edge t k v f
  unfolding leaving_edge
  link_inside k v f sn en rf lf o p q x y e = rw o (e ∙ (λ i. leaving (p i) (q i) (x i) (y i) k v f))

  pub right_follows : (s k v f : ℕ) → s % 2 ≡ 1 → k ≡ entry t.right_edge (edge_of s)
      → v ≡ entry t.end_node (edge_of s) → f ≡ entry t.right_face (edge_of s)
      → r ≡ leaving_edge t k v f → r ≡ successor t s
  unfolding successor
  right_follows s k v f h p q x e = rw (eq-eqb (s % 2) 1 h) (e ∙ (λ i. leaving_edge t (p i) (q i) (x i)))

  pub left_follows : (s k v f : ℕ) → (s % 2 ≡ 1 → ⊥) → k ≡ entry t.left_edge (edge_of s)
      → v ≡ entry t.start_node (edge_of s) → f ≡ entry t.left_face (edge_of s)
      → r ≡ leaving_edge t k v f → r ≡ successor t s
  unfolding successor
  left_follows s k v f h p q x e = rw (ne_eqb (s % 2) 1 h) (e ∙ (λ i. leaving_edge t (p i) (q i) (x i)))

-- ---- every answer is a side of the tile, or one of the four numbers
abbrev pub Sound : ℕ → Successor → Type 0
Sound n (Ok u) = (0 < u) × (u ≤ n)
Sound n (Err k) = (22 ≤ number_of k) × (number_of k ≤ 25)

-- p, q: the edge's start, its end is the node; x, y: its right, its left face is the face
leaving_sound : (k m : ℕ) (p q x y : Bool) → 0 < k → k ≤ m
    → Sound (2 * m) (the_one (side_if p (right k) ++ side_if q (left k)) (side_if (p && x) (right k) ++ side_if (q && y) (left k)))
leaving_sound k m true true true true a b = (omega arith, omega arith)
leaving_sound k m true true true false a b = (omega arith, omega arith)
leaving_sound k m true true false true a b = (omega arith, omega arith)
leaving_sound k m true true false false a b = (omega arith, omega arith)
leaving_sound k m true false true y a b = (omega arith, omega arith)
leaving_sound k m true false false y a b = (omega arith, omega arith)
leaving_sound k m false true x true a b = (omega arith, omega arith)
leaving_sound k m false true x false a b = (omega arith, omega arith)
leaving_sound k m false false x y a b = (omega arith, omega arith)

pub successor_sound : (t : Edges) (s : ℕ) → Sound (side_count t) (successor t s)
unfolding successor leaving_edge
successor_sound t s =
    bool_cases (outside (edge_count t) (link t s))
    (λ e. rw e (omega arith, omega arith))
    (λ e.
    let k = link t s in
    let w = not-outside (edge_count t) k e in
    rw e
    (leaving_sound k (edge_count t) (eqb (entry t.start_node k) (runs_to t s)) (eqb (entry t.end_node k) (runs_to t s))
    (eqb (entry t.right_face k) (face t s)) (eqb (entry t.left_face k) (face t s)) w.0 w.1))

-- the successor as a function leads to a side or to 0
sound_le : (n : ℕ) (c : Successor) → Sound n c → side_of c ≤ n
sound_le n (Ok u) h = h.1
sound_le n (Err k) h = omega arith

pub after-at_most : (t : Edges) (s : ℕ) → after t s ≤ side_count t
after-at_most t s = sound_le (side_count t) (successor t s) (successor_sound t s)

pub after_zero : (t : Edges) → after t 0 ≡ 0
unfolding successor leaving_edge
after_zero t = refl
