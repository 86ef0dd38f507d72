-- The successor, or the number of what is wrong at a side, is exactly what document 01 says in words: each answer where its words
-- hold, and no two answers' words hold at one side. Nothing is asked of the columns or of the side number (side 0 has no link).
use mathlib.Core.Path.{◌≡◌, refl, sym, ap, ◌∙◌}
use mathlib.Core.Logic.{◌↔◌, by_cases, ◌⊎◌, inl, inr, ⊎_elim}
use mathlib.Core.Bool.{false, true≢false}
use Prim.Native.Nat.{ℕ, ◌*◌, ◌-◌, ◌%◌, ◌≤◌, ◌<◌}
use native.Mathlib.Decide.{ℕ_discrete}
use native.Mathlib.Omega.{arith}
use borrow.Author.Tests.{eq-eqb, ne_eqb, eqb-true, eqb-false}
use lib.Dec.{eqb, ltb}
use Rattle.laws.specs.Orbit.{entry}
use Rattle.laws.proofs.LowestLaws.{bool_cases}
use Rattle.laws.proofs.TestLaws.{or_false, nonzero, not_above}
use Rattle.side.specs.Edges.{Edges, edge_count, side_count, outside, right, left, edge_of, by_side, face, runs_to, link, leaves_from}
use Rattle.side.specs.Successor.{leaving, leaving_edge, Successor, successor, side_of, after, LinkIn, Leaves, Follows, Fault, no_touch, other_face, both_sides}
use Rattle.std.specs.Prelude.{Ok, Err}
use Rattle.refusal.specs.Kinds.{number_of}
use Rattle.refusal.specs.declared.Kind.{Kind}
use Rattle.refusal.specs.declared.Kind.TheVariants.{EdgeOutOfRange, NotTouching, FaceDiffers, LoopOfOneFace}
use Rattle.side.proofs.KindLaws.{same_kind}

-- the test `outside` says that a number is none of 1..most
pub not-outside : (most x : ℕ) → (outside most x ≡ false) ↔ ((0 < x) × (x ≤ most))
not-outside most x = or_false (eqb x 0) (ltb most x) (nonzero x) (not_above most x)

-- ---- the two sides of the edge k
module _ (k : ℕ) (pos : 0 < k) where
  pub edge_of-right : edge_of (right k) ≡ k
  edge_of-right = omega arith

  pub edge_of-left : edge_of (left k) ≡ k
  edge_of-left = omega arith

  pub right_or_left : (u : ℕ) → edge_of u ≡ k → (u ≡ right k) ⊎ (u ≡ left k)
  right_or_left u e = by_cases (ℕ_discrete (u % 2) 1) (λ o. inl (omega arith)) (λ o. inr (omega arith))

  at_right : (r l : ℕ) → by_side (right k) r l ≡ r
  at_right r l = rw (eq-eqb ((2 * k - 1) % 2) 1 (omega arith))

  at_left : (r l : ℕ) → by_side (left k) r l ≡ l
  at_left r l = rw (ne_eqb (2 * k % 2) 1 (λ e. omega arith))

  module _ (t : Edges) where
    pub face_of_right : face t (right k) ≡ entry t.right_face k
    face_of_right = at_right _ _ ∙ ap (entry t.right_face) edge_of-right

    pub face_of_left : face t (left k) ≡ entry t.left_face k
    face_of_left = at_left _ _ ∙ ap (entry t.left_face) edge_of-left

    from_of_right : leaves_from t (right k) ≡ entry t.start_node k
    from_of_right = at_right _ _ ∙ ap (entry t.start_node) edge_of-right

    from_of_left : leaves_from t (left k) ≡ entry t.end_node k
    from_of_left = at_left _ _ ∙ ap (entry t.end_node) edge_of-left

    module _ (v f : ℕ) where
      leaves_right : entry t.start_node k ≡ v → entry t.right_face k ≡ f → Leaves t k v f (right k)
      leaves_right a b = record { linked = edge_of-right; from = from_of_right ∙ a; bears = face_of_right ∙ b }

      leaves_left : entry t.end_node k ≡ v → entry t.left_face k ≡ f → Leaves t k v f (left k)
      leaves_left a b = record { linked = edge_of-left; from = from_of_left ∙ a; bears = face_of_left ∙ b }

      touches : (u : ℕ) → edge_of u ≡ k → leaves_from t u ≡ v
          → ((u ≡ right k) × (entry t.start_node k ≡ v)) ⊎ ((u ≡ left k) × (entry t.end_node k ≡ v))
      touches u e l =
          ⊎_elim
          (λ q. inl (q, sym from_of_right ∙ ap (leaves_from t) (sym q) ∙ l))
          (λ q. inr (q, sym from_of_left ∙ ap (leaves_from t) (sym q) ∙ l))
          (right_or_left u e)

      leaves : (u : ℕ) → Leaves t k v f u
          → ((u ≡ right k) × (entry t.start_node k ≡ v) × (entry t.right_face k ≡ f)) ⊎
          ((u ≡ left k) × (entry t.end_node k ≡ v) × (entry t.left_face k ≡ f))
      leaves u h =
          ⊎_elim
          (λ q. inl (q.0, q.1, sym face_of_right ∙ ap (face t) (sym q.0) ∙ h.bears))
          (λ q. inr (q.0, q.1, sym face_of_left ∙ ap (face t) (sym q.0) ∙ h.bears))
          (touches u h.linked h.from)

-- ---- the five ways in which the edge k is left from the node v with the face f
data Departs (sn en rf lf k v f : ℕ) : Successor → Type 0 where
  by_right : sn ≡ v → rf ≡ f → (en ≡ v → lf ≡ f → ⊥) → Departs sn en rf lf k v f (Ok (right k))
  by_left : en ≡ v → lf ≡ f → (sn ≡ v → rf ≡ f → ⊥) → Departs sn en rf lf k v f (Ok (left k))
  by_neither : (sn ≡ v → ⊥) → (en ≡ v → ⊥) → Departs sn en rf lf k v f (Err NotTouching)
  with_other_face : (sn ≡ v) ⊎ (en ≡ v) → (sn ≡ v → rf ≡ f → ⊥) → (en ≡ v → lf ≡ f → ⊥) → Departs sn en rf lf k v f (Err FaceDiffers)
  by_both : sn ≡ v → rf ≡ f → en ≡ v → lf ≡ f → Departs sn en rf lf k v f (Err LoopOfOneFace)

departs : (sn en rf lf k v f : ℕ) → Departs sn en rf lf k v f (leaving sn en rf lf k v f)
departs sn en rf lf k v f =
    let starts = eqb-true sn v in
    let ends = eqb-true en v in
    let no_start = eqb-false sn v in
    let no_end = eqb-false en v in
    let on_right = eqb-true rf f in
    let on_left = eqb-true lf f in
    let not_right = eqb-false rf f in
    let not_left = eqb-false lf f in
    bool_cases (eqb sn v)
    (λ p.
    bool_cases (eqb en v)
    (λ q.
    bool_cases (eqb rf f)
    (λ x.
    bool_cases (eqb lf f)
    (λ y. rw (p, q, x, y) (by_both (starts p) (on_right x) (ends q) (on_left y)))
    (λ y. rw (p, q, x, y) (by_right (starts p) (on_right x) (λ a b. not_left y b))))
    (λ x.
    bool_cases (eqb lf f)
    (λ y. rw (p, q, x, y) (by_left (ends q) (on_left y) (λ a b. not_right x b)))
    (λ y. rw (p, q, x, y) (with_other_face (inl (starts p)) (λ a b. not_right x b) (λ a b. not_left y b)))))
    (λ q.
    bool_cases (eqb rf f)
    (λ x. rw (p, q, x) (by_right (starts p) (on_right x) (λ a b. no_end q a)))
    (λ x. rw (p, q, x) (with_other_face (inl (starts p)) (λ a b. not_right x b) (λ a b. no_end q a)))))
    (λ p.
    bool_cases (eqb en v)
    (λ q.
    bool_cases (eqb lf f)
    (λ y. rw (p, q, y) (by_left (ends q) (on_left y) (λ a b. no_start p a)))
    (λ y. rw (p, q, y) (with_other_face (inr (ends q)) (λ a b. no_start p a) (λ a b. not_left y b))))
    (λ q. rw (p, q) (by_neither (no_start p) (no_end q))))

-- each answer in words
abbrev pub Says : Edges → ℕ → Successor → Type 0
Says t s (Ok u) = Follows t s u
Says t s (Err k) = ((number_of k ≡ 22) × (LinkIn t s → ⊥)) ⊎ (LinkIn t s × Fault t s (number_of k))

-- a side with a successor has no fault, and no side has two
module _ (t : Edges) (s : ℕ) (pos : 0 < link t s) where
  no_fault : (u n : ℕ) → Follows t s u → Fault t s n → ⊥
  no_fault u n h (no_touch none) = none u h.leaves.linked h.leaves.from
  no_fault u n h (other_face w a b none) = none u h.leaves
  no_fault u n h (both_sides r l) = omega (arith, h.only (right (link t s)) r, h.only (left (link t s)) l)

  pub one_fault : (n m : ℕ) → Fault t s n → Fault t s m → n ≡ m
  one_fault n m (no_touch none) (no_touch also) = refl
  one_fault n m (no_touch none) (other_face w a b also) = absurd (none w a b)
  one_fault n m (no_touch none) (both_sides r l) = absurd (none _ r.linked r.from)
  one_fault n m (other_face w a b none) (no_touch also) = absurd (also w a b)
  one_fault n m (other_face w a b none) (other_face x c d also) = refl
  one_fault n m (other_face w a b none) (both_sides r l) = absurd (none _ r)
  one_fault n m (both_sides r l) (no_touch also) = absurd (also _ r.linked r.from)
  one_fault n m (both_sides r l) (other_face w a b also) = absurd (also _ r)
  one_fault n m (both_sides r l) (both_sides x y) = refl

-- THE WORDS OF AT MOST ONE ANSWER hold
pub one_answer : (t : Edges) (s : ℕ) (c d : Successor) → Says t s c → Says t s d → c ≡ d
one_answer t s (Ok u) (Ok w) a b = ap Ok (b.only u a.leaves)
one_answer t s (Ok u) (Err k) a (inl b) = absurd (b.1 a.edge)
one_answer t s (Ok u) (Err k) a (inr b) = absurd (no_fault t s b.0.0 u (number_of k) a b.1)
one_answer t s (Err k) (Ok u) (inl a) b = absurd (a.1 b.edge)
one_answer t s (Err k) (Ok u) (inr a) b = absurd (no_fault t s a.0.0 u (number_of k) b a.1)
one_answer t s (Err k) (Err m) (inl a) (inl b) = ap Err (same_kind k m (a.0 ∙ sym b.0))
one_answer t s (Err k) (Err m) (inl a) (inr b) = absurd (a.1 b.0)
one_answer t s (Err k) (Err m) (inr a) (inl b) = absurd (b.1 a.0)
one_answer t s (Err k) (Err m) (inr a) (inr b) = ap Err (same_kind k m (one_fault t s a.0.0 (number_of k) (number_of m) a.1 b.1))

-- THE WORDS OF THE SUCCESSOR'S ANSWER hold
module _ (t : Edges) (s : ℕ) where
  in_words : (l : LinkIn t s) (c : Successor)
      → Departs (entry t.start_node (link t s)) (entry t.end_node (link t s)) (entry t.right_face (link t s))
      (entry t.left_face (link t s)) (link t s) (runs_to t s) (face t s) c
      → Says t s c
  in_words l c (by_right a b none) = record {
    edge = l;
    leaves = leaves_right (link t s) l.0 t (runs_to t s) (face t s) a b;
    only = λ w h. ⊎_elim (λ q. q.0) (λ q. absurd (none q.1 q.2)) (leaves (link t s) l.0 t (runs_to t s) (face t s) w h);
  }
  in_words l c (by_left a b none) = record {
    edge = l;
    leaves = leaves_left (link t s) l.0 t (runs_to t s) (face t s) a b;
    only = λ w h. ⊎_elim (λ q. absurd (none q.1 q.2)) (λ q. q.0) (leaves (link t s) l.0 t (runs_to t s) (face t s) w h);
  }
  in_words l c (by_neither a b) =
      inr (l, no_touch (λ w e h. ⊎_elim (λ q. a q.1) (λ q. b q.1) (touches (link t s) l.0 t (runs_to t s) (face t s) w e h)))
  in_words l c (with_other_face e a b) =
      let none : (w : ℕ) → Leaves t (link t s) (runs_to t s) (face t s) w → ⊥ =
      λ w h. ⊎_elim (λ q. a q.1 q.2) (λ q. b q.1 q.2) (leaves (link t s) l.0 t (runs_to t s) (face t s) w h) in
      ⊎_elim
      (λ q. inr (l, other_face (right (link t s)) (edge_of-right (link t s) l.0) (from_of_right (link t s) l.0 t ∙ q) none))
      (λ q. inr (l, other_face (left (link t s)) (edge_of-left (link t s) l.0) (from_of_left (link t s) l.0 t ∙ q) none))
      e
  in_words l c (by_both a b d e) =
      inr (
        l,
        both_sides (leaves_right (link t s) l.0 t (runs_to t s) (face t s) a b)
            (leaves_left (link t s) l.0 t (runs_to t s) (face t s) d e),
      )

  pub says : Says t s (successor t s)
  unfolding successor leaving_edge
  says =
      bool_cases (outside (edge_count t) (link t s))
      (λ o. rw o (inl (refl, λ l. true≢false (sym o ∙ (not-outside (edge_count t) (link t s)).1 l))))
      (λ o. rw o (in_words ((not-outside (edge_count t) (link t s)).0 o) _ (departs _ _ _ _ _ _ _)))

-- ---- "The successor is the side of the linked edge that leaves from that node", exactly
pub successor_follows : (t : Edges) (s u : ℕ) → successor t s ≡ Ok u → Follows t s u
successor_follows t s u e = rw e at (says t s)

pub follows_successor : (t : Edges) (s u : ℕ) → Follows t s u → successor t s ≡ Ok u
follows_successor t s u h = one_answer t s (successor t s) (Ok u) (says t s) h

-- "link does not touch; face differs; loop with the face on both sides" (23, 24, 25), the link being in 1..E, exactly
pub wrong_fault : (t : Edges) (s : ℕ) (k : Kind) → LinkIn t s → successor t s ≡ Err k → Fault t s (number_of k)
wrong_fault t s k l e = ⊎_elim (λ h. absurd (h.1 l)) (λ h. h.1) (rw e at (says t s))

pub fault_wrong : (t : Edges) (s : ℕ) (k : Kind) → LinkIn t s → Fault t s (number_of k) → successor t s ≡ Err k
fault_wrong t s k l h = one_answer t s (successor t s) (Err k) (says t s) (inr (l, h))

-- each fault is answered by its kind
fault_kind : (t : Edges) (s n : ℕ) → Fault t s n → (k : Kind) × (number_of k ≡ n)
fault_kind t s n (no_touch none) = (NotTouching, refl)
fault_kind t s n (other_face w a b none) = (FaceDiffers, refl)
fault_kind t s n (both_sides r l) = (LoopOfOneFace, refl)

pub fault_answer : (t : Edges) (s n : ℕ) → LinkIn t s → Fault t s n → (k : Kind) × (number_of k ≡ n) × (successor t s ≡ Err k)
fault_answer t s n l h =
    let w = fault_kind t s n h in
    (w.0, w.1, fault_wrong t s w.0 l (rw w.1 h))

-- 23, 24 and 25 are all the numbers of faults
pub fault_number : (t : Edges) (s n : ℕ) → Fault t s n → (23 ≤ n) × (n ≤ 25)
fault_number t s n (no_touch none) = (omega arith, omega arith)
fault_number t s n (other_face w a b none) = (omega arith, omega arith)
fault_number t s n (both_sides r l) = (omega arith, omega arith)

-- 22 exactly where the link is none of 1..E
pub wrong_link : (t : Edges) (s : ℕ) → successor t s ≡ Err EdgeOutOfRange → LinkIn t s → ⊥
wrong_link t s e l = omega (arith, fault_number t s 22 (wrong_fault t s EdgeOutOfRange l e))

pub link_wrong : (t : Edges) (s : ℕ) → (LinkIn t s → ⊥) → successor t s ≡ Err EdgeOutOfRange
link_wrong t s h = one_answer t s (successor t s) (Err EdgeOutOfRange) (says t s) (inl (refl, h))

-- so each wrong answer has one of the numbers 22 to 25
pub wrong_number : (t : Edges) (s : ℕ) (k : Kind) → successor t s ≡ Err k → (22 ≤ number_of k) × (number_of k ≤ 25)
wrong_number t s k e =
    ⊎_elim (λ h. (omega arith, omega arith)) (λ h. let b = fault_number t s (number_of k) h.1 in (omega arith, omega arith)) (rw e at (says t s))

-- ---- A SUCCESSOR IS ONE OF THE SIDES 1..2E and "must have that face"
pub record InStep (t : Edges) (s u : ℕ) : Type 0 where
  pub pos : 0 < u
  pub within : u ≤ side_count t
  pub same_face : face t u ≡ face t s

pub successor_side : (t : Edges) (s u : ℕ) → successor t s ≡ Ok u → InStep t s u
successor_side t s u e =
    let h = successor_follows t s u e in
    let q = h.leaves.linked in
    let l = h.edge in
    record { pos = omega arith; within = omega arith; same_face = h.leaves.bears }

-- the successor as a function on sides: 0 where there is none, so that a walk that breaks stays at 0
after_is : (t : Edges) (s : ℕ) (c : Successor) → successor t s ≡ c → 0 < side_of c → successor t s ≡ Ok (side_of c)
after_is t s (Ok u) e h = e
after_is t s (Err k) e h = absurd (omega arith)

pub after_side : (t : Edges) (s : ℕ) → 0 < after t s → successor t s ≡ Ok (after t s)
after_side t s h = after_is t s (successor t s) refl h

pub side_after_lem : (t : Edges) (s u : ℕ) → successor t s ≡ Ok u → after t s ≡ u
side_after_lem t s u e = rw e

pub after_zero : (t : Edges) → after t 0 ≡ 0
after_zero t = ap side_of (link_wrong t 0 (λ l. omega arith))

at_most_go : (t : Edges) (s : ℕ) (c : Successor) → successor t s ≡ c → side_of c ≤ side_count t
at_most_go t s (Ok u) e = (successor_side t s u e).within
at_most_go t s (Err k) e = omega arith

pub after-at_most : (t : Edges) (s : ℕ) → after t s ≤ side_count t
after-at_most t s = at_most_go t s (successor t s) refl
