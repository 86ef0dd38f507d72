-- Each test of the check in document 01's words: it refuses nothing exactly where the words hold at every row or side, and else
-- its number at the lowest row or side where they fail.
use mathlib.Core.Path.{◌≡◌, refl, sym, ◌∙◌}
use mathlib.Core.Logic.{◌↔◌, ◌⊎◌, inl, inr, ⊎_elim}
use mathlib.Core.Bool.{Bool, true, false, true≢false}
use mathlib.Core.List.{List}
use Prim.Native.Nat.{ℕ, pred, ◌%◌, ◌≤◌, ◌<◌}
use native.Mathlib.Omega.{arith}
use borrow.Author.Tests.{ne_eqb, eqb-true, eqb-false, le-ltb, ltb-true, ltb-false}
use lib.Dec.{eqb, ltb}
use Rattle.laws.specs.Lowest.{lowest, In, Each, LowestFailing}
use Rattle.laws.specs.Sums.{hits, Inj, Into}
use Rattle.laws.specs.Orbit.{entry, row_meets, owner, first_doubled, first_taken, first_unmet}
use Rattle.laws.proofs.TestLaws.{or_false, and_false, and_true, denied, refuted, equal, not_unequal, nonzero}
use Rattle.laws.proofs.LowestLaws.{bool_cases, lowest_some, lowest-pos}
use Rattle.laws.proofs.SumLaws.{sum_most, hits_single, hits_some, hits_one, inj_of}
use Rattle.laws.proofs.OrbitLaws.{row_meets_lem, meets_of, of_meets}
use Rattle.refusal.specs.Order.{refusal, refused_if, located, lowest_of}
use Rattle.refusal.proofs.JudgedLaws.{Judged, judged_lowest, none_found, judged_lowest_of, judged_once}
use Rattle.std.specs.Prelude.{Ok, Err}
use Rattle.refusal.specs.Kinds.{number_of}
use Rattle.refusal.specs.declared.Kind.{Kind}
use Rattle.side.specs.Edges.{outside, edge_of, face}
use Rattle.side.specs.Successor.{Successor, successor, after, LinkIn, Fault}
use Rattle.side.proofs.SuccessorExactly.{not-outside, face_of_right, face_of_left, successor_follows, follows_successor, wrong_fault}
use Rattle.side.proofs.SuccessorExactly.{wrong_number, successor_side, side_after_lem}
use Rattle.tile.specs.Columns.{Tile, E, F, R, N, sides, start_side, empty_start}
use Rattle.tile.specs.Check.{sizes_wrong, row_outside, node_outside, face_outside, link_outside}
use Rattle.tile.specs.Check.{refused_side, side_refusal, first_edge_wrong, ring_face_outside, run_wrong, start_wrong}
use Rattle.tile.proofs.OwnerLaws.{side_with_within}
use Rattle.tile.proofs.RunsExactly.{broken_exactly}
use Rattle.tile.proofs.SizeLaws.{sizes_right}
use Rattle.facts.specs.Facts.{Sizes, NodesIn, FacesIn, LinksIn, Succeeded, OnePredecessor, NoTwoPredecessors, FirstEdgeTouches}
use Rattle.facts.specs.Facts.{RingFaceIn, OneRun, EmptyRing, StartsOnSide, StartRight, HasStart, Reaches, NotNamedBefore, OnARing}

module _ (t : Tile) where
  -- ---- 15
  pub sizes_exactly : (sizes_wrong t ≡ false) ↔ Sizes t
  sizes_exactly =
      let w = sizes_right t in (
        λ e.
            let h = w.0 e in
            let l = h.0 in
            let m = h.1.0 in
            let z = h.1.1 in
            record {
              end_node = l.0;
              right-face = l.1.0;
              left-face = l.1.1.0;
              right_edge = l.1.1.1.0;
              left_edge = l.1.1.1.1.0;
              start_edge = l.1.1.1.1.1;
              edge_rows = m.0;
              face_rows = (z.0, m.1.0);
              ring_rows = (z.1, m.1.1.0);
              node_rows = m.1.1.1;
            },
        λ s.
            w.1 (
              (s.end_node, (s.right-face, (s.left-face, (s.right_edge, (s.left_edge, s.start_edge))))),
              ((s.edge_rows, (s.face_rows.1, (s.ring_rows.1, s.node_rows))), (s.face_rows.0, s.ring_rows.0)),
            ),
      )

  pub judged_sizes : Judged (refused_if (sizes_wrong t) 15 0) (Sizes t) (λ n p. (n ≡ 15) × (p ≡ 0) × (Sizes t → ⊥))
  judged_sizes = judged_once (sizes_wrong t) 15 0 (Sizes t) (Sizes t → ⊥) (λ e. omega arith) sizes_exactly.0
      (λ e s. true≢false (sym e ∙ sizes_exactly.1 s))

  -- ---- 14
  pub judged_space : (space : ℕ) → Judged (refused_if (ltb space (sides t)) 14 (sides t)) (sides t ≤ space)
      (λ n p. (n ≡ 14) × (p ≡ sides t) × (space < sides t))
  judged_space space = judged_once (ltb space (sides t)) 14 (sides t) (sides t ≤ space) (space < sides t)
      (λ e. omega arith) (ltb-false space (sides t)) (ltb-true space (sides t))

  -- ---- 20, 21, 22: both numbers of a row in 1..most
  row_exactly : (most : ℕ) (a b : List ℕ) (e : ℕ) → (row_outside most a b e ≡ false) ↔ (In most (entry a e) × In most (entry b e))
  row_exactly most a b e = or_false _ _ (not-outside most (entry a e)) (not-outside most (entry b e))

  pub judged_nodes : Judged (located 20 (lowest (node_outside t) (E t))) (Each (E t) (NodesIn t))
      (λ n p. (n ≡ 20) × LowestFailing (E t) (NodesIn t) p)
  judged_nodes = judged_lowest (NodesIn t) (E t) 20 (λ e. omega arith) (node_outside t)
      (λ k i. row_exactly (N t) t.edg.start_node t.edg.end_node k)

  pub judged_faces : Judged (located 21 (lowest (face_outside t) (E t))) (Each (E t) (FacesIn t))
      (λ n p. (n ≡ 21) × LowestFailing (E t) (FacesIn t) p)
  judged_faces = judged_lowest (FacesIn t) (E t) 21 (λ e. omega arith) (face_outside t)
      (λ k i. row_exactly (F t) t.edg.right_face t.edg.left_face k)

  pub judged_links : Judged (located 22 (lowest (link_outside t) (E t))) (Each (E t) (LinksIn t))
      (λ n p. (n ≡ 22) × LowestFailing (E t) (LinksIn t) p)
  judged_links = judged_lowest (LinksIn t) (E t) 22 (λ e. omega arith) (link_outside t)
      (λ k i. row_exactly (E t) t.edg.right_edge t.edg.left_edge k)

  -- ---- 23, 24, 25
  -- the links of all rows are the links of all sides
  pub link_in : Each (E t) (LinksIn t) → (s : ℕ) → In (sides t) s → LinkIn t.edg s
  link_in h s i =
      let l = h (edge_of s) (omega arith, omega arith) in
      bool_cases (eqb (s % 2) 1) (λ c. rw c l.0) (λ c. rw c l.1)

  succeeded : (s u : ℕ) → successor t.edg s ≡ Ok u → Succeeded t s
  succeeded s u e = (u, successor_follows t.edg s u e)

  -- the refusal of one side
  side_view : (s : ℕ) (c : Successor) → successor t.edg s ≡ c
      → (((refused_side s c).number ≡ 0) × Succeeded t s) ⊎ ((k : Kind) × (successor t.edg s ≡ Err k) × (refused_side s c ≡ refusal (number_of k) s))
  side_view s (Ok u) e = inl (refl, succeeded s u e)
  side_view s (Err k) e = inr (k, e, refl)

  judged_side : (s : ℕ) → LinkIn t.edg s
      → Judged (side_refusal t s) (Succeeded t s) (λ n p. (p ≡ s) × Fault t.edg s n × (Succeeded t s → ⊥))
  judged_side s l =
      ⊎_elim inl
      (λ h.
      rw h.2
      (inr (
        λ z. omega (arith, wrong_number t.edg s h.0 h.1),
        (
          refl,
          wrong_fault t.edg s h.0 l h.1,
          λ w.
              let z : ◌≡◌ {A = ℕ} 0 1 = cc (follows_successor t.edg s w.0 w.1, h.1) in omega arith,
        ),
      )))
      (side_view s (successor t.edg s) refl)

  pub judged_successors : Each (E t) (LinksIn t)
      → Judged (lowest_of (side_refusal t) (sides t)) (Each (sides t) (Succeeded t))
      (λ n p. Fault t.edg p n × LowestFailing (sides t) (Succeeded t) p)
  judged_successors l = judged_lowest_of (Succeeded t) (sides t) (λ s n. Fault t.edg s n) (side_refusal t)
      (λ s i. judged_side s (link_in l s i))

  -- ---- 26: where every side has a successor, the successor is a function on 1..2E
  pub goes : Each (sides t) (Succeeded t) → Into (after t.edg) (sides t) (sides t)
  goes h s a b =
      let w = h s (a, b) in
      let e = follows_successor t.edg s w.0 w.1 in
      let q = successor_side t.edg s w.0 e in
      rw (side_after_lem t.edg s w.0 e) (q.pos, q.within)

  at_most_one : (s : ℕ) → (ltb 1 (hits (after t.edg) (sides t) s) ≡ false) ↔ NoTwoPredecessors t s
  at_most_one s = (
    λ e p q a b u v. hits_single (after t.edg) (sides t) s (ltb-false 1 _ e) p q a.0 a.1 b.0 b.1 u v,
    λ h.
        le-ltb 1 _
        (sum_most (λ j. eqb s (after t.edg j)) (sides t)
        (λ i j a b c d u v. h i j (a, b) (c, d) (sym (eqb-true s _ u)) (sym (eqb-true s _ v)))),
  )

  -- no side with two predecessors: each has exactly one, by counting
  pub one_predecessor : Each (sides t) (Succeeded t) → Each (sides t) (NoTwoPredecessors t) → Each (sides t) (OnePredecessor t)
  one_predecessor w h s i =
      let f = after t.edg in
      let g = inj_of f (sides t) (sides t) (goes w) (λ s a b. ltb-false 1 _ ((at_most_one s).1 (h s (a, b)))) in
      let p = hits_some f (sides t) s (omega (arith, hits_one f (sides t) (goes w) g s i.0 i.1)) in
      record { predecessor = p.0; within = (p.1, p.2); precedes = p.3; only = λ q j e. h s i q p.0 j (p.1, p.2) e p.3 }

  pub not_two : (s : ℕ) → OnePredecessor t s → NoTwoPredecessors t s
  not_two s h p q a b u v = h.only p a u ∙ sym (h.only q b v)

  pub judged_predecessors : Each (sides t) (Succeeded t)
      → Judged (located 26 (first_doubled (after t.edg) (sides t))) (Each (sides t) (OnePredecessor t))
      (λ n p. (n ≡ 26) × LowestFailing (sides t) (NoTwoPredecessors t) p)
  judged_predecessors w =
      ⊎_elim (λ h. inl (h.0, one_predecessor w h.1)) inr
      (judged_lowest (NoTwoPredecessors t) (sides t) 26 (λ e. omega arith)
      (λ s. ltb 1 (hits (after t.edg) (sides t) s)) (λ s i. at_most_one s))

  -- ---- 27
  first_edge_exactly : (n : ℕ) → (first_edge_wrong t n ≡ false) ↔ FirstEdgeTouches t n
  first_edge_exactly n =
      let e = entry t.first_edge n in
      let w = or_false _ _ (not-outside (E t) e)
      (and_false _ _ (not_unequal (entry t.edg.start_node e) n) (not_unequal (entry t.edg.end_node e) n)) in
      (λ e. let h = w.0 e in record { within = h.0; touches = h.1 }, λ h. w.1 (h.within, h.touches))

  pub judged_first_edges : Judged (located 27 (lowest (first_edge_wrong t) (N t))) (Each (N t) (FirstEdgeTouches t))
      (λ n p. (n ≡ 27) × LowestFailing (N t) (FirstEdgeTouches t) p)
  judged_first_edges = judged_lowest (FirstEdgeTouches t) (N t) 27 (λ e. omega arith) (first_edge_wrong t) (λ n i. first_edge_exactly n)

  -- ---- 28
  pub judged_ring_faces : Judged (located 28 (lowest (ring_face_outside t) (R t))) (Each (R t) (RingFaceIn t))
      (λ n p. (n ≡ 28) × LowestFailing (R t) (RingFaceIn t) p)
  judged_ring_faces = judged_lowest (RingFaceIn t) (R t) 28 (λ e. omega arith) (ring_face_outside t)
      (λ r i. not-outside (F t) (entry t.fac_id r))

  run_exactly : (f : ℕ) → In (F t) f → (run_wrong t f ≡ false) ↔ OneRun t f
  run_exactly f i = broken_exactly t.fac_id f (entry t.ring_ptr f) i.0

  pub judged_runs : Judged (located 28 (lowest (run_wrong t) (F t))) (Each (F t) (OneRun t)) (λ n p. (n ≡ 28) × LowestFailing (F t) (OneRun t) p)
  judged_runs = judged_lowest (OneRun t) (F t) 28 (λ e. omega arith) (run_wrong t) run_exactly

  -- ---- 29
  pub empty_exactly : (r : ℕ) → (empty_start t r ≡ true) ↔ EmptyRing t r
  unfolding empty_start
  empty_exactly r =
      let w = and_true _ _ (equal (entry t.start_edge r) 0) (and_true _ _ (equal r 1) (equal (entry t.fac_id r) 1)) in
      (λ e. let h = w.0 e in record { no_start = h.0; row_one = h.1.0; face_one = h.1.1 }, λ h. w.1 (h.no_start, (h.row_one, h.face_one)))

  -- the start side is one of the tile, and "the one with the ring's face"
  pub record Placed (r s : ℕ) : Type 0 where
    pub pos : 0 < s
    pub within : s ≤ sides t
    pub bears : face t.edg s ≡ entry t.fac_id r

  pub start_side_lem : (r : ℕ) → ((start_side t r ≡ 0) × (StartsOnSide t r → ⊥)) ⊎ (StartsOnSide t r × Placed r (start_side t r))
  unfolding start_side
  start_side_lem r =
      let e = entry t.start_edge r in
      let f = entry t.fac_id r in
      bool_cases (outside (E t) e)
      (λ o. rw o (inl (refl, λ h. true≢false (sym o ∙ (not-outside (E t) e).1 h.within))))
      (λ o.
      let i = (not-outside (E t) e).0 o in
      let on_right = face_of_right e i.0 t.edg in
      let on_left = face_of_left e i.0 t.edg in
      bool_cases (eqb (entry t.edg.right_face e) f)
      (λ a.
      let q = on_right ∙ eqb-true (entry t.edg.right_face e) f a in
      rw (o, a) (inr (record { within = i; bears = inl q }, record { pos = omega arith; within = omega arith; bears = q })))
      (λ a.
      bool_cases (eqb (entry t.edg.left_face e) f)
      (λ b.
      let q = on_left ∙ eqb-true (entry t.edg.left_face e) f b in
      rw (o, a, b) (inr (record { within = i; bears = inr q }, record { pos = omega arith; within = omega arith; bears = q })))
      (λ b.
      rw (o, a, b)
      (inl (
        refl,
        λ h.
            ⊎_elim
            (λ q. eqb-false (entry t.edg.right_face e) f a (sym on_right ∙ q))
            (λ q. eqb-false (entry t.edg.left_face e) f b (sym on_left ∙ q))
            h.bears,
      )))))

  pub placed : (r : ℕ) → StartsOnSide t r → Placed r (start_side t r)
  placed r h = ⊎_elim (λ w. absurd (w.1 h)) (λ w. w.1) (start_side_lem r)

  pub start_exactly : (r : ℕ) → (start_wrong t r ≡ false) ↔ StartRight t r
  start_exactly r =
      and_false _ _ (denied (empty_start t r) (empty_exactly r)) (
        λ e. let z = eqb-false (start_side t r) 0 e in ⊎_elim (λ w. absurd (z w.0)) (λ w. w.0) (start_side_lem r),
        λ h. let q = placed r h in ne_eqb (start_side t r) 0 (λ e. omega (arith, q.pos)),
      )

  pub judged_starts : Judged (located 29 (lowest (start_wrong t) (R t))) (Each (R t) (StartRight t))
      (λ n p. (n ≡ 29) × LowestFailing (R t) (StartRight t) p)
  judged_starts = judged_lowest (StartRight t) (R t) 29 (λ e. omega arith) (start_wrong t) (λ r i. start_exactly r)

  -- the ring rows without a start edge have no start side, those with one have it where every start is right, and none lies past 2E
  pub no_start_side : (r : ℕ) → entry t.start_edge r ≡ 0 → start_side t r ≡ 0
  no_start_side r e = ⊎_elim (λ w. w.0) (λ w. absurd (omega (arith, w.0.within))) (start_side_lem r)

  pub has_start : (r : ℕ) → 0 < start_side t r → HasStart t r
  has_start r p = ⊎_elim (λ w. absurd (omega (arith, w.0))) (λ w. w.0.within.0) (start_side_lem r)

  pub start_placed : Each (R t) (StartRight t) → (r : ℕ) → In (R t) r → HasStart t r → Placed r (start_side t r)
  start_placed h r i some = ⊎_elim (λ w. absurd (omega (arith, w.no_start))) (placed r) (h r i)

  pub start_within : (r : ℕ) → start_side t r ≤ sides t
  unfolding start_side
  start_within r = side_with_within (E t) t.edg.right_face t.edg.left_face (entry t.fac_id r) (entry t.start_edge r)

  -- ---- 30, 31: where each side has exactly one predecessor, the walks are cycles, and a side is met within 2E moves or never
  pub single : Each (sides t) (Succeeded t) → Each (sides t) (OnePredecessor t) → Inj (after t.edg) (sides t)
  single w h i j a b c d e = let g = goes w j c d in not_two (after t.edg j) (h (after t.edg j) g) i j (a, b) (c, d) e refl

  module _ (w : Each (sides t) (Succeeded t)) (o : Each (sides t) (OnePredecessor t)) (st : Each (R t) (StartRight t)) where
    pub meets_exactly : (q s : ℕ) → In (R t) q → (row_meets (after t.edg) (sides t) (start_side t) s q ≡ true) ↔ Reaches t q s
    meets_exactly q s j =
        let f = after t.edg in
        let rows = row_meets_lem f (sides t) (start_side t) s q in (
          λ e.
              let m = rows.0 e in
              let k = of_meets f (sides t) (goes w) (single w o) (start_side t q) m.0 (start_within q) s m.1 in
              record { has_start = has_start q m.0; moves = k.0; comes_to = k.1 },
          λ h.
              let p = start_placed st q j h.has_start in
              rows.1 (p.pos, meets_of f (sides t) (goes w) (single w o) (start_side t q) p.pos p.within h.moves s h.comes_to),
        )

    pub named_exactly : (r : ℕ) → In (R t) r
        → (ltb 0 (owner (after t.edg) (sides t) (start_side t) (pred r) (start_side t r)) ≡ false) ↔ NotNamedBefore t r
    named_exactly r i =
        let w =
        none_found (λ q. Reaches t q (start_side t r) → ⊥) (pred r) (row_meets (after t.edg) (sides t) (start_side t) (start_side t r))
        (λ q j. refuted _ (meets_exactly q (start_side t r) (j.0, omega arith))) in
        (λ e q a b. w.0 e q (a, omega arith), λ h. w.1 (λ q j. h q j.0 (omega arith)))

    pub judged_named : Judged (located 30 (first_taken (after t.edg) (sides t) (start_side t) (R t)))
        (Each (R t) (NotNamedBefore t)) (λ n p. (n ≡ 30) × LowestFailing (R t) (NotNamedBefore t) p)
    judged_named = judged_lowest (NotNamedBefore t) (R t) 30 (λ e. omega arith)
        (λ r. ltb 0 (owner (after t.edg) (sides t) (start_side t) (pred r) (start_side t r))) named_exactly

    pub covered_exactly : (s : ℕ) → In (sides t) s → (eqb (owner (after t.edg) (sides t) (start_side t) (R t) s) 0 ≡ false) ↔ OnARing t s
    covered_exactly s i =
        let on : ℕ → Bool = row_meets (after t.edg) (sides t) (start_side t) s in (
          λ e. let h = lowest-pos on (R t) ((nonzero _).0 e) in
              (lowest on (R t), (h.pos, h.within), (meets_exactly (lowest on (R t)) s (h.pos, h.within)).0 h.passes),
          λ h. (nonzero _).1 (lowest_some on (R t) h.0 h.1.0 h.1.1 ((meets_exactly h.0 s h.1).1 h.2)),
        )

    pub judged_covered : Judged (located 31 (first_unmet (after t.edg) (sides t) (start_side t) (R t)))
        (Each (sides t) (OnARing t)) (λ n p. (n ≡ 31) × LowestFailing (sides t) (OnARing t) p)
    judged_covered = judged_lowest (OnARing t) (sides t) 31 (λ e. omega arith)
        (λ s. eqb (owner (after t.edg) (sides t) (start_side t) (R t) s) 0) covered_exactly
