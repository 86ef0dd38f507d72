-- DEMAND 3, of every accepted tile.
--
-- The plan. By the facts the successor takes the sides 1..2E into themselves (`into`) and no two to one (`once`). So it permutes them, and
-- what crate `laws` knows of such a map holds (OrbitLaws): from each side it comes back within 2E moves and meets none twice on the way.
-- The walk counts that first return (`counts_return`), so the list of a ring with a start edge is closed and has no side twice (`closed`),
-- and a side is met exactly where it stands on the list (`stands`, `stands_met`). Some ring meets each side, by 31's fact, and no two do, by
-- 30's: that ring is the owner which the marks hold, and its face is the side's, for the face stays along a walk (`owned`, `face_stays`). A
-- ring without a start edge has no list (`no_steps`) and owns nothing (`without_start`). So the lists partition the sides and their lengths
-- add up to 2E (`lists_add_up`); none is longer than that, so with room for 2E each walk answers, and the answers add up (`adds_up`). Without
-- edges no ring has a start edge, and only row 1 may lack one (`empty`).
use mathlib.Core.Path.{◌≡◌, refl, sym, ap, ◌∙◌}
use mathlib.Core.Logic.{by_cases, ⊎_elim}
use mathlib.Core.Bool.{true}
use mathlib.Core.List.{List}
use Prim.Native.Nat.{ℕ, zero, suc, pred, ◌≤◌, ◌<◌}
use native.Mathlib.Nat.{le_refl}
use native.Mathlib.Decide.{dec_lt}
use native.Mathlib.Omega.{arith}
use borrow.Author.Tests.{eq-eqb, ne_eqb, le-ltb}
use lib.Dec.{eqb}
use lib.ListN.{length}
use Rattle.laws.specs.Lowest.{In, Each}
use Rattle.laws.specs.Sums.{sum, Inj, Into}
use Rattle.laws.specs.Orbit.{entry, iterate, first_return, Starts, row_meets, owner, first_taken, first_unmet}
use Rattle.laws.specs.Buffer.{listed}
use Rattle.laws.proofs.LowestLaws.{bool_cases, lowest_none, lowest-pos}
use Rattle.laws.proofs.SumLaws.{sum_ext, sum_part}
use Rattle.laws.proofs.BufferLaws.{length-listed, entry_listed}
use Rattle.laws.proofs.MarkLaws.{entry-front}
use Rattle.laws.proofs.OrbitLaws.{iterate_in, closes, returns_to, no_repeat, reduce, row_meets_lem, meets_of, owner_is, sum_law}
use Rattle.laws.proofs.TestLaws.{nonzero}
use Rattle.side.specs.Edges.{face}
use Rattle.side.specs.Successor.{successor, after}
use Rattle.std.specs.Prelude.{Ok}
use Rattle.side.proofs.SuccessorExactly.{not-outside, after_side, successor_side}
use Rattle.tile.specs.Columns.{Tile, E, R, sides, start_side}
use Rattle.tile.specs.Check.{verdict, verdict_of, marks_left, marks_after}
use Rattle.tile.specs.Walk.{came_back, moves, walk_of, side_after, steps_of, all_steps, ring_steps, ring_sides}
use Rattle.facts.specs.Facts.{Facts, EmptyRing, HasStart}
use Rattle.facts.specs.Demand.{Closed, Walks, Stands, OneRing, NoStart, OneEmptyRing, Demand3}
use Rattle.facts.proofs.TestsInWords.{sizes_exactly, goes, single, Placed, start_exactly, no_start_side, has_start, start_placed}
use Rattle.facts.proofs.TestsInWords.{start_within, meets_exactly, named_exactly, covered_exactly}
use Rattle.facts.proofs.AcceptedExactly.{accepted}
use Rattle.refusal.proofs.AnswerLaws.{ok-fine}
use Rattle.facts.proofs.WalkExactly.{counts_the_return, first_return_lowest}

module _ (t : Tile) (space : ℕ) (h : Facts t space) where
  -- the successor permutes the sides
  into : Into (after t.edg) (sides t) (sides t)
  into = goes t h.successors

  once : Inj (after t.edg) (sides t)
  once = single t h.successors h.predecessors

  -- the walk counts its moves until the start side returns
  pub counts_return : (a : ℕ) → In (sides t) a → moves t.edg a ≡ came_back (first_return (after t.edg) (sides t) a)
  counts_return a i =
      let k = first_return (after t.edg) (sides t) a in
      counts_the_return t.edg a k ((first_return_lowest t.edg a i.0 k).1
      ((closes (after t.edg) (sides t) into once a i.0 i.1).pos, refl))

  -- along a walk the face stays
  face_stays : (k s : ℕ) → In (sides t) s → face t.edg (iterate (after t.edg) k s) ≡ face t.edg s
  face_stays zero s i = refl
  face_stays (suc k) s i =
      let w = iterate_in (after t.edg) (sides t) into k s i.0 i.1 in
      let x = iterate (after t.edg) k s in
      (successor_side t.edg x (after t.edg x) (after_side t.edg x (into x w.0 w.1).0)).same_face ∙ face_stays k s i

  -- ---- no cycle is named by two rings, and each side is on one
  starts : Starts (sides t) (start_side t) (R t)
  starts r a b = start_within t r

  never_twice : first_taken (after t.edg) (sides t) (start_side t) (R t) ≡ 0
  never_twice = lowest_none _ (R t) (λ r a b.
      (named_exactly t h.successors h.predecessors h.starts r (a, b)).1 (h.not_named_twice r (a, b)))

  all_met : first_unmet (after t.edg) (sides t) (start_side t) (R t) ≡ 0
  all_met = lowest_none _ (sides t) (λ s a b.
      (covered_exactly t h.successors h.predecessors h.starts s (a, b)).1 (h.covered s (a, b)))

  -- ---- a ring without a start edge has no steps
  no_steps : (r : ℕ) → entry t.start_edge r ≡ 0 → ring_steps t r ≡ 0
  no_steps r z = rw (eq-eqb (start_side t r) 0 (no_start_side t r z))

  -- so one on whose list a side stands has one
  stands-starts : (r s : ℕ) → Stands t r s → HasStart t r
  stands-starts r s w =
      by_cases (dec_lt 0 (entry t.start_edge r)) (λ l. l)
      (λ l. absurd (omega (arith, w.1, length-listed (side_after t r) (ring_steps t r), no_steps r (omega arith))))

  -- ---- one with a start edge starts on a side
  place : (r : ℕ) → In (R t) r → HasStart t r → Placed t r (start_side t r)
  place = start_placed t h.starts

  steps : (r : ℕ) → In (R t) r → HasStart t r → ring_steps t r ≡ first_return (after t.edg) (sides t) (start_side t r)
  steps r i some = rw (ne_eqb (start_side t r) 0 (λ e. omega (arith, (place r i some).pos)))

  module _ (r : ℕ) (i : In (R t) r) (some : HasStart t r) where
    in_place : (k : ℕ) → In (sides t) (iterate (after t.edg) k (start_side t r))
    in_place k = let S = place r i some in iterate_in (after t.edg) (sides t) into k (start_side t r) S.pos S.within

    steps_in : In (sides t) (ring_steps t r)
    steps_in = let S = place r i some in let C = closes (after t.edg) (sides t) into once (start_side t r) S.pos
        S.within in rw (steps r i some) (C.pos, C.within)

    comes_back : iterate (after t.edg) (ring_steps t r) (start_side t r) ≡ start_side t r
    comes_back = let S = place r i some in rw (steps r i some) (returns_to (after t.edg) (sides t) into once (start_side t r) S.pos S.within)

    apart : (j k : ℕ) → j < k → k < ring_steps t r → iterate (after t.edg) j (start_side t r) ≡ iterate (after t.edg) k (start_side t r) → ⊥
    apart j k l m e = let S = place r i some in let q = steps r i some in no_repeat (after t.edg) (sides t) into once
        (start_side t r) S.pos S.within j k l (omega arith) e

    moves_on : (k : ℕ) → successor t.edg (iterate (after t.edg) k (start_side t r)) ≡ Ok
        (iterate (after t.edg) (suc k) (start_side t r))
    moves_on k = after_side t.edg _ (in_place (suc k)).0

    written : (j : ℕ) → In (ring_steps t r) j → entry (ring_sides t r) j ≡ iterate (after t.edg) (pred j) (start_side t r)
    written j b = entry_listed (side_after t r) (ring_steps t r) j b.0 b.1

    -- THE WALK COMES BACK to its first side and meets no side twice
    follows : (j : ℕ) → In (ring_steps t r) j → (u : ℕ) → iterate (after t.edg) j (start_side t r) ≡ u
        → successor t.edg (entry (ring_sides t r) j) ≡ Ok u
    follows j b u v =
        let q : suc (pred j) ≡ j = omega arith in
        ap (successor t.edg) (written j b) ∙ moves_on (pred j) ∙ ap Ok (ap (λ (m : ℕ). iterate (after t.edg) m (start_side t r)) q ∙ v)

    closed : Closed t r (ring_sides t r)
    closed =
        let n = ring_steps t r in
        let len = length-listed (side_after t r) n in
        let b = steps_in in
        let first = written 1 (omega arith, b.0) in
        record {
          some = omega arith;
          at_most = omega arith;
          first = first;
          next = λ j a c. follows j (a, omega arith) (entry (ring_sides t r) (suc j)) (sym (written (suc j) (omega arith, omega arith)));
          back = rw len (follows n (b.0, omega arith) (entry (ring_sides t r) 1) (comes_back ∙ sym first));
          once = λ j k a c e.
              let v = sym (written j (a.0, omega arith)) ∙ e ∙ written k (c.0, omega arith) in
              by_cases (dec_lt j k) (λ l. absurd (apart (pred j) (pred k) (omega arith) (omega arith) v))
              (λ l. by_cases (dec_lt k j) (λ m. absurd (apart (pred k) (pred j) (omega arith) (omega arith) (sym v))) (λ m. omega arith));
        }

    -- a side that is met stands on the list, and one that stands there is met
    stands : (k s : ℕ) → iterate (after t.edg) k (start_side t r) ≡ s → Stands t r s
    stands k s e =
        let S = place r i some in
        let q = steps r i some in
        let len = length-listed (side_after t r) (ring_steps t r) in
        let w = reduce (after t.edg) (sides t) into once (start_side t r) S.pos S.within k in
        by_cases (dec_lt w.0 (ring_steps t r))
        (λ c. (suc w.0, (omega arith, omega arith), written (suc w.0) (omega arith, c) ∙ w.3 ∙ e))
        (λ c.
        let z : w.0 ≡ ring_steps t r = omega (arith, w.2) in (
          1,
          (omega arith, omega (arith, steps_in.0)),
          written 1 (omega arith, steps_in.0) ∙ sym comes_back
              ∙ ap (λ (m : ℕ). iterate (after t.edg) m (start_side t r)) (sym z) ∙ w.3 ∙ e,
        ))

    stands_met : (s : ℕ) → Stands t r s → row_meets (after t.edg) (sides t) (start_side t) s r ≡ true
    stands_met s w =
        let S = place r i some in
        (row_meets_lem (after t.edg) (sides t) (start_side t) s r).1 (
          S.pos,
          meets_of (after t.edg) (sides t) into once (start_side t r) S.pos S.within (pred w.0) s
              (sym (written w.0 (rw (length-listed (side_after t r) (ring_steps t r)) at w.1)) ∙ w.2),
        )

  -- EVERY SIDE LIES ON EXACTLY ONE RING'S WALK, and that ring bears its face
  owned : (s : ℕ) → In (sides t) s → (marks : List ℕ) → (verdict t (length marks)).number ≡ 0 → OneRing t marks s
  unfolding marks_left
  owned s j marks z =
      let f = after t.edg in
      let q = owner f (sides t) (start_side t) (R t) s in
      let A = lowest-pos (row_meets f (sides t) (start_side t) s) (R t)
      ((nonzero q).0 ((covered_exactly t h.successors h.predecessors h.starts s j).1 (h.covered s j))) in
      let i : In (R t) q = (A.pos, A.within) in
      let m = (meets_exactly t h.successors h.predecessors h.starts q s i).0 A.passes in
      let S = place q i m.has_start in
      record {
        ring = q;
        within = i;
        has_start = m.has_start;
        stands = stands q i m.has_start m.moves s m.comes_to;
        only = λ r k w.
            sym (owner_is f (sides t) into once (start_side t) (R t) starts never_twice r s k.0 k.1
            (stands_met r k (stands-starts r s w) s w));
        bears = sym S.bears ∙ sym (face_stays m.moves (start_side t q) (S.pos, S.within)) ∙ ap (face t.edg) m.comes_to;
        marked = entry-front (owner f (sides t) (start_side t) (R t)) (sides t) marks (marks_after t marks) (rw (eq-eqb _ 0 z)) s j.0 j.1;
      }

  -- THE LISTS OF ALL RINGS ADD UP to 2E
  lists_add_up : sum (ring_steps t) (R t) ≡ sides t
  lists_add_up = sum_law (after t.edg) (sides t) into once (start_side t) (R t) starts never_twice all_met

  -- what `walk` answers from a ring row
  answers : (r : ℕ) → In (R t) r → (room : ℕ) → ring_steps t r ≤ room → walk_of t r room ≡ Ok (ring_steps t r)
  unfolding walk_of
  answers r i room fits =
      rw ((sizes_exactly t).1 h.sizes, (not-outside (R t) r).1 i, (start_exactly t r).1 (h.starts r i))
      (bool_cases (eqb (start_side t r) 0)
      (λ c. rw c)
      (λ c.
      let S : In (sides t) (start_side t r) = ((nonzero (start_side t r)).0 c, start_within t r) in
      let k = steps r i (has_start t r S.0) in
      rw (c, counts_return (start_side t r) S, le-ltb room _ (rw k at fits))))

  walks : Each (R t) (Walks t)
  walks r i = record {
    given_room = λ out fits.
        let len : length (ring_sides t r) ≡ ring_steps t r = length-listed (side_after t r) (ring_steps t r) in
        rw (len, answers r i (length out) (omega arith)) (refl, refl);
    closed = closed r i;
  }

  -- A RING WITHOUT A START EDGE is row 1, for face 1; it has 0 steps and owns no side
  startless : (r : ℕ) → In (R t) r → (In (E t) (entry t.start_edge r) → ⊥) → EmptyRing t r
  startless r i no_edge = ⊎_elim (λ w. w) (λ w. absurd (no_edge w.within)) (h.starts r i)

  without_start : (marks : List ℕ) → (verdict t (length marks)).number ≡ 0 → (r : ℕ) → In (R t) r → entry t.start_edge r ≡ 0 → NoStart t marks r
  without_start marks v r i z =
      let none = no_steps r z in
      let w = startless r i (λ j. omega (arith, z)) in
      record {
        row_one = w.row_one;
        face_one = w.face_one;
        no_steps = λ space. answers r i space (omega arith) ∙ ap Ok none;
        no_sides = ap (listed (side_after t r)) none;
        owns_none = λ s j e.
            let o = owned s j marks v in
            let q : o.ring ≡ r = sym o.marked ∙ e in
            omega (arith, z, rw q at o.has_start);
      }

  -- THE REPORTED STEPS OF ALL RINGS ADD UP to 2E, given room: they are the lists' lengths, and none of these is more than all
  adds_up : (room : ℕ) → sides t ≤ room → all_steps t room (R t) ≡ sides t
  adds_up room l =
      sum_ext (λ r. steps_of (walk_of t r room)) (ring_steps t) (R t)
      (λ r a b. ap steps_of (answers r (a, b) room (omega (arith, sum_part (ring_steps t) (R t) r a b, lists_add_up))))
      ∙ lists_add_up

  -- without edges no ring has a start edge: the last ring row is the first
  empty : E t ≡ 0 → OneEmptyRing t
  empty q =
      let some = h.sizes.ring_rows.0 in
      let first = (startless 1 (omega arith, some) (λ j. omega (arith, j))).no_start in
      record {
        one_ring = (startless (R t) (some, le_refl (R t)) (λ j. omega (arith, j))).row_one;
        no_start = first;
        no_sides = ap (listed (side_after t 1)) (no_steps 1 first);
        sum_zero = λ room. adds_up room (omega arith) ∙ omega arith;
      }

-- ---- of an accepted tile: the walk counts the first return
pub counts_first_return : (t : Tile) (space : ℕ) → verdict_of t space ≡ Ok tt → (a : ℕ) → In (sides t) a
    → moves t.edg a ≡ came_back (first_return (after t.edg) (sides t) a)
counts_first_return t space e a i = counts_return t space (accepted t space e) a i

-- DEMAND 3
pub demand3 : (t : Tile) (marks : List ℕ) → verdict_of t (length marks) ≡ Ok tt → Demand3 t marks
demand3 t marks e =
    let h = accepted t (length marks) e in
    let z = ok-fine (verdict t (length marks)) e in
    record {
      walks = walks t (length marks) h;
      without_start = without_start t (length marks) h marks z;
      sides_owned = λ s i. owned t (length marks) h s i marks z;
      adds_up = adds_up t (length marks) h;
      lists_add_up = lists_add_up t (length marks) h;
      empty = empty t (length marks) h;
    }
