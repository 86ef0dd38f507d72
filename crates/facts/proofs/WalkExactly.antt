-- THE WALK IN WORDS, of any tile and any ring row: it answers with k steps, and is refused with n at p, exactly when document 01's words
-- say so; the steps are the first return of the start side, and the sides written are those of the path to it.
--
-- The plan. What the counting of moves comes to (`MovesSay`: back, open, or stuck) is said in words by induction on the moves left: the
-- sides passed are a path (`moves_say`). The other way, along any path the counting goes on (`goes_along`), so that what is at its end
-- decides: `counts_the_return`, `stays_away`, `gets_stuck`. With the tests 15, 13 and 29 before it, each answer's words hold where it is
-- given (`walk_in_words`), and where the words of an answer hold it is given (`words_refused`, `words_answered`). So the two theorems
-- `..-exactly`. There is one first return, since the counting has one answer; it is the lowest number of moves after which the successor as
-- a function is back (`first_return_lowest`): where that function has come to 0 it stays there, so on the way to a return no move failed.
-- Every path passes the sides of that function (`along`), which are those that are written (`walk_writes`).
use mathlib.Core.Path.{◌≡◌, refl, sym, ap, ◌∙◌}
use mathlib.Core.Logic.{◌↔◌, by_cases, inl, inr, ⊎_elim}
use mathlib.Core.Bool.{true≢false}
use mathlib.Core.List.{List}
use Prim.Native.Nat.{ℕ, zero, suc, ◌+◌, ◌-◌, ◌≤◌, ◌<◌}
use native.Mathlib.Numerals.{add-one}
use native.Mathlib.Nat.{zero-add}
use native.Mathlib.Decide.{dec_lt, ℕ_discrete}
use native.Mathlib.Omega.{arith}
use borrow.Author.Tests.{eq-eqb, ne_eqb, eqb-true, eqb-false, lt-ltb, le-ltb, ltb-true, ltb-false}
use lib.Dec.{eqb, ltb}
use lib.ListN.{length}
use Rattle.laws.specs.Lowest.{In}
use Rattle.laws.specs.Orbit.{iterate, first_return}
use Rattle.laws.proofs.LowestLaws.{bool_cases, lowest_is, lowest-pos}
use Rattle.laws.proofs.BufferLaws.{length_front, front_low, front_high}
use Rattle.refusal.specs.declared.Refusal.{Refusal}
use Rattle.refusal.specs.Order.{refusal}
use Rattle.side.specs.Edges.{Edges, side_count, outside, edge_of}
use Rattle.side.specs.Successor.{Successor, successor, after, LinkIn, Follows, Fault}
use Rattle.std.specs.Prelude.{Ok, Err}
use Rattle.refusal.specs.Kinds.{number_of}
use Rattle.refusal.specs.declared.Kind.{Kind}
use Rattle.refusal.specs.declared.Kind.TheVariants.{EdgeOutOfRange}
use Rattle.side.proofs.SuccessorExactly.{not-outside, Says, says, successor_follows, follows_successor}
use Rattle.side.proofs.SuccessorExactly.{after_side, side_after_lem, after_zero, fault_answer, fault_number, link_wrong}
use Rattle.tile.specs.Columns.{Tile, R, start_side}
use Rattle.tile.specs.Check.{sizes_wrong, start_wrong}
use Rattle.facts.specs.Facts.{Sizes, StartsOnSide}
use Rattle.tile.specs.Walk.{Walked, Moves, came_back, still_open, stuck, stuck_at, moves_from, moves, walked, walk_of, side_after, sides_written}
use Rattle.facts.specs.WalkWords.{Path, FirstReturn, Reached, NoReturn, Begins}
use Rattle.facts.specs.WalkWords.{WalkRefused, wrong_sizes, no_such_ring, wrong_start, outside_link, no_successor, does_not_close, short_output}
use Rattle.facts.specs.WalkWords.{WalkAnswered, empty_ring, returned, Writes}
use Rattle.facts.proofs.TestsInWords.{sizes_exactly, start_side_lem, no_start_side, placed, start_exactly}
use Rattle.facts.proofs.StartExactly.{start_side_of, starts_on, start_side_is}
use Rattle.tile.proofs.WalkLaws.{cannot_move, back_home, moves_on, stays_open}

-- ---- what the moves come to, in words
data NoMove (t : Edges) (a : ℕ) : Refusal → Type 0 where
  by_link : (k s : ℕ) → Reached t a k s → (LinkIn t s → ⊥) → NoMove t a (refusal 22 (edge_of s))
  by_fault : (k s n : ℕ) → Reached t a k s → LinkIn t s → Fault t s n → NoMove t a (refusal n s)

abbrev MovesSay : Edges → ℕ → Moves → Type 0
MovesSay t a (came_back k) = FirstReturn t a k
MovesSay t a still_open = NoReturn t a
MovesSay t a (stuck q) = NoMove t a q

-- ---- each answer's words hold where it is given: the path is that of the successor as a function
module _ (t : Edges) (a : ℕ) where
  abbrev pub way : ℕ → ℕ
  way i = iterate (after t) i a

  abbrev Away : ℕ → Type 0
  Away k = (i : ℕ) → 0 < i → i ≤ k → way i ≡ a → ⊥

  longer : (k : ℕ) → Path t a k way → Away k → Follows t (way k) (way (suc k)) → Path t a (suc k) way
  longer k p o f = record {
    starts = refl;
    moves = λ i l. by_cases (ℕ_discrete i k) (λ e. rw e f) (λ e. p.moves i (omega arith));
    not_yet = λ i u l e. o i u (omega arith) e;
  }

  stuck-says : (k : ℕ) (kind : Kind) → k < side_count t → Path t a k way → Away k → Says t (way k) (Err kind)
      → NoMove t a (stuck_at (number_of kind) (way k))
  stuck-says k kind l p o h =
      let reached : Reached t a k (way k) = record { fewer = l; path = way; walked = p; there = refl; not_back = λ u. o k u (omega arith) } in
      ⊎_elim
      (λ w. rw w.0 (by_link k (way k) reached w.1))
      (λ w.
      let b = fault_number t (way k) (number_of kind) w.1 in
      rw (ne_eqb (number_of kind) 22 (λ e. omega (arith, e, b))) (by_fault k (way k) (number_of kind) reached w.0 w.1))
      h

  -- one move, and then `rest`
  on_move : (fuel k : ℕ) → k < side_count t → Path t a k way → Away k
      → (Path t a (suc k) way → Away (suc k) → MovesSay t a (moves_from t a fuel (way (suc k)) (suc k)))
      → (c : Successor) → successor t (way k) ≡ c → MovesSay t a (moves_from t a (suc fuel) (way k) k)
  on_move fuel k l p o rest (Ok u) e =
      let next : way (suc k) ≡ u = side_after_lem t (way k) u e in
      let further = longer k p o (rw next (successor_follows t (way k) u e)) in
      rw e
      (bool_cases (eqb u a)
      (λ c. rw c (record { some = omega arith; at_most = omega arith; path = way; walked = further; back = next ∙ eqb-true u a c }))
      (λ c.
      let not_back : way (suc k) ≡ a → ⊥ = λ z. eqb-false u a c (sym next ∙ z) in
      rw (c, ← next) (rest further (λ i x y. by_cases (ℕ_discrete i (suc k)) (λ z. rw z not_back) (λ z. o i x (omega arith))))))
  on_move fuel k l p o rest (Err kind) e = rw e (stuck-says k kind l p o (rw e at (says t (way k))))

  moves_say : 0 < side_count t → (fuel k : ℕ) → k + fuel ≡ side_count t → Path t a k way → Away k → MovesSay t a (moves_from t a fuel (way k) k)
  moves_say some zero k q p o =
      let e : k ≡ side_count t = omega arith in
      record { path = way; walked = rw e at p; not_back = o (side_count t) some (omega arith) }
  moves_say some (suc fuel) k q p o = on_move fuel k (omega arith) p o (moves_say some fuel (suc k) (omega arith)) (successor t (way k)) refl

  what_moves_say : 0 < side_count t → MovesSay t a (moves t a)
  unfolding moves
  what_moves_say some =
      moves_say some (side_count t) 0 (omega arith)
      (record { starts = refl; moves = λ i l. absurd (omega arith); not_yet = λ i u l. absurd (omega arith) })
      (λ i u l. absurd (omega arith))

-- ---- along a path the counting goes on, and its end decides
module _ (t : Edges) (a : ℕ) where
  goes_along : (k : ℕ) (path : ℕ → ℕ) → Path t a k path → (i : ℕ) → i ≤ k → i ≤ side_count t → ((j : ℕ) → 0 < j → j ≤ i → path j ≡ a → ⊥)
      → moves t a ≡ moves_from t a (side_count t - i) (path i) i
  unfolding moves
  goes_along k path p zero l m o =
      let z : side_count t - 0 ≡ side_count t = omega arith in
      rw (z, p.starts)
  goes_along k path p (suc i) l m o =
      rw add-one at
      (moves_on t a (side_count t) (path i) i (moves t a) (goes_along k path p i (omega arith) (omega arith) (λ j u v. o j u (omega arith)))
      (path (suc i)) (omega arith) (follows_successor t (path i) (path (suc i)) (p.moves i (omega arith)))
      (o (suc i) (omega arith) (omega arith)))

  pub counts_the_return : (k : ℕ) → FirstReturn t a k → moves t a ≡ came_back k
  counts_the_return zero h = absurd (omega (arith, h.some))
  counts_the_return (suc i) h =
      let p = h.walked in
      let m = h.at_most in
      sym
      (rw add-one at
      (back_home t a (side_count t) (h.path i) i (moves t a)
      (goes_along (suc i) h.path p i (omega arith) (omega arith) (λ j u v. p.not_yet j u (omega arith)))
      (h.path (suc i)) (omega arith) (follows_successor t (h.path i) (h.path (suc i)) (p.moves i (omega arith))) h.back))

  stays_away : NoReturn t a → moves t a ≡ still_open
  stays_away h =
      let p = h.walked in
      let n = side_count t in
      sym
      (stays_open t a n (h.path n) n (moves t a)
      (goes_along n h.path p n (omega arith) (omega arith)
      (λ j u v. by_cases (ℕ_discrete j n) (λ e. rw e h.not_back) (λ e. p.not_yet j u (omega arith))))
      (omega arith))

  gets_stuck : (k s : ℕ) (kind : Kind) → Reached t a k s → successor t s ≡ Err kind → moves t a ≡ stuck (stuck_at (number_of kind) s)
  gets_stuck k s kind h e =
      let p = h.walked in
      let l = h.fewer in
      let along =
      goes_along k h.path p k (omega arith) (omega arith)
      (λ j u v. by_cases (ℕ_discrete j k) (λ z x. h.not_back (omega arith) (sym h.there ∙ ap h.path (sym z) ∙ x))
      (λ z. p.not_yet j u (omega arith))) in
      sym (cannot_move t a (side_count t) s k (moves t a) (rw h.there at along) kind (stuck_at (number_of kind) s) l e refl)

  -- THERE IS ONE FIRST RETURN at most
  pub one_first_return : (k j : ℕ) → FirstReturn t a k → FirstReturn t a j → k ≡ j
  one_first_return k j h g = let p = counts_the_return k h in let q = counts_the_return j g in (cc)

  -- every path passes the sides that the successor as a function leads to
  pub along : (k : ℕ) (path : ℕ → ℕ) → Path t a k path → (i : ℕ) → i ≤ k → way t a i ≡ path i
  along k path p zero l = sym p.starts
  along k path p (suc i) l =
      ap (after t) (along k path p i (omega arith))
      ∙ side_after_lem t (path i) (path (suc i)) (follows_successor t (path i) (path (suc i)) (p.moves i (omega arith)))

  -- where that function has come to 0 it stays
  stays_nowhere : (i j : ℕ) → way t a i ≡ 0 → way t a (j + i) ≡ 0
  stays_nowhere i zero e = rw (zero-add i) e
  stays_nowhere i (suc j) e =
      let q : suc j + i ≡ suc (j + i) = omega arith in
      rw (q, stays_nowhere i j e) (after_zero t)

  -- THE FIRST RETURN IS THE LOWEST NUMBER OF MOVES after which the function is back, within 2E
  pub first_return_lowest : 0 < a → (k : ℕ) → FirstReturn t a k ↔ ((0 < k) × (first_return (after t) (side_count t) a ≡ k))
  first_return_lowest pos k = (
    λ h. (
      h.some,
      lowest_is (λ j. eqb (way t a j) a) (side_count t) k h.some h.at_most
          (eq-eqb (way t a k) a (along k h.path h.walked k (omega arith) ∙ h.back))
          (λ j u v. ne_eqb (way t a j) a (λ e. h.walked.not_yet j u v (sym (along k h.path h.walked j (omega arith)) ∙ e))),
    ),
    λ h.
        let A = rw h.1 at (lowest-pos (λ j. eqb (way t a j) a) (side_count t) (omega (arith, h.0, h.1))) in
        let back = eqb-true (way t a k) a A.passes in
        record {
          some = h.0;
          at_most = A.within;
          path = way t a;
          walked = record {
            starts = refl;
            moves = λ i l.
                by_cases (dec_lt 0 (way t a (suc i))) (λ c. successor_follows t (way t a i) (way t a (suc i)) (after_side t (way t a i) c))
                (λ c.
                let q : k - suc i + suc i ≡ k = omega arith in
                let z = stays_nowhere (suc i) (k - suc i) (omega arith) in
                absurd (omega (arith, rw q at z, back, pos)));
            not_yet = λ i u l. eqb-false (way t a i) a (A.below i u l);
          };
          back = back;
        },
  )

-- ---- the walk from a ring row
module _ (t : Tile) (r : ℕ) where
  on_side : (a : ℕ) → Begins t r a → StartsOnSide t r
  on_side a b = starts_on t r a b.start

  -- where 15, 13 and 29 pass and there is a start side, the moves decide
  walk_moves : (space a : ℕ) → Begins t r a → walk_of t r space ≡ walked r space (moves t.edg a)
  unfolding walk_of
  walk_moves space a b =
      let s = start_side_of t r a b.start in
      let q = placed t r (on_side a b) in
      let some : start_side t r ≡ 0 → ⊥ = λ z. omega (arith, q.pos) in
      rw (
        (sizes_exactly t).1 b.sizes,
        (not-outside (R t) r).1 b.ring,
        (start_exactly t r).1 (inr (on_side a b)),
        ne_eqb (start_side t r) 0 some,
      )
      (ap (λ (x : ℕ). walked r space (moves t.edg x)) s)

  -- each answer in words
  abbrev WalkSays : ℕ → Walked → Type 0
  WalkSays space (Ok k) = WalkAnswered t r space k
  WalkSays space (Err q) = WalkRefused t r space q.number q.place

  moves_in_words : (space a : ℕ) → Begins t r a → (m : Moves) → MovesSay t.edg a m → WalkSays space (walked r space m)
  moves_in_words space a b (came_back k) h =
      bool_cases (ltb space k) (λ c. rw c (short_output a k b h (ltb-true space k c))) (λ c. rw c (returned a k b h (ltb-false space k c)))
  moves_in_words space a b still_open h = does_not_close a b h
  moves_in_words space a b (stuck q) (by_link k s x y) = outside_link a k s b x y
  moves_in_words space a b (stuck q) (by_fault k s n x y z) = no_successor a k s n b x y z

  walk_in_words : (space : ℕ) → WalkSays space (walk_of t r space)
  unfolding walk_of
  walk_in_words space =
      bool_cases (sizes_wrong t)
      (λ w. rw w (wrong_sizes (λ s. true≢false (sym w ∙ (sizes_exactly t).1 s))))
      (λ w.
      let sized = (sizes_exactly t).0 w in
      bool_cases (outside (R t) r)
      (λ o. rw (w, o) (no_such_ring sized (λ i. true≢false (sym o ∙ (not-outside (R t) r).1 i))))
      (λ o.
      let i = (not-outside (R t) r).0 o in
      bool_cases (start_wrong t r)
      (λ m. rw (w, o, m) (wrong_start sized i (λ s. true≢false (sym m ∙ (start_exactly t r).1 s))))
      (λ m.
      ⊎_elim
      (λ none.
      rw (w, o, m, eq-eqb (start_side t r) 0 (no_start_side t r none.no_start)) (empty_ring sized i none))
      (λ on.
      let q = placed t r on in
      let b : Begins t r (start_side t r) = record { sizes = sized; ring = i; start = start_side_is t r on } in
      rw (w, o, m, ne_eqb (start_side t r) 0 (λ z. omega (arith, q.pos)))
      (moves_in_words space (start_side t r) b (moves t.edg (start_side t r))
      (what_moves_say t.edg (start_side t r) (omega (arith, q.pos, q.within)))))
      ((start_exactly t r).0 m))))

  -- and where the words hold the answer is given
  words_refused : (space n p : ℕ) → WalkRefused t r space n p → walk_of t r space ≡ Err (refusal n p)
  unfolding walk_of
  words_refused space n p (wrong_sizes denied) =
      bool_cases (sizes_wrong t) (λ w. rw w) (λ w. absurd (denied ((sizes_exactly t).0 w)))
  words_refused space n p (no_such_ring s denied) =
      bool_cases (outside (R t) r) (λ o. rw ((sizes_exactly t).1 s, o)) (λ o. absurd (denied ((not-outside (R t) r).0 o)))
  words_refused space n p (wrong_start s i denied) =
      bool_cases (start_wrong t r) (λ m. rw ((sizes_exactly t).1 s, (not-outside (R t) r).1 i, m)) (λ m. absurd (denied ((start_exactly t r).0 m)))
  words_refused space n p (outside_link a k s b h denied) =
      walk_moves space a b ∙ ap (walked r space) (gets_stuck t.edg a k s EdgeOutOfRange h (link_wrong t.edg s denied))
  words_refused space n p (no_successor a k s m b h l f) =
      let v = fault_number t.edg s m f in
      let w = fault_answer t.edg s m l f in
      let q : stuck_at (number_of w.0) s ≡ refusal m s = rw (w.1, ne_eqb m 22 (λ e. omega arith)) in
      walk_moves space a b ∙ ap (walked r space) (gets_stuck t.edg a k s w.0 h w.2) ∙ ap Err q
  words_refused space n p (does_not_close a b h) = walk_moves space a b ∙ ap (walked r space) (stays_away t.edg a h)
  words_refused space n p (short_output a k b h l) =
      walk_moves space a b ∙ ap (walked r space) (counts_the_return t.edg a k h) ∙ rw (lt-ltb space k l)

  words_answered : (space k : ℕ) → WalkAnswered t r space k → walk_of t r space ≡ Ok k
  unfolding walk_of
  words_answered space k (empty_ring s i none) =
      rw ((sizes_exactly t).1 s, (not-outside (R t) r).1 i, (start_exactly t r).1 (inl none), eq-eqb (start_side t r) 0 (no_start_side t r none.no_start))
  words_answered space k (returned a j b h l) =
      walk_moves space a b ∙ ap (walked r space) (counts_the_return t.edg a j h) ∙ rw (le-ltb space j l)

  -- THE WALK IS REFUSED WITH n AT p, exactly
  pub walk_refused_exactly : (space n p : ℕ) → (walk_of t r space ≡ Err (refusal n p)) ↔ WalkRefused t r space n p
  walk_refused_exactly space n p = (λ e. rw e at (walk_in_words space), words_refused space n p)

  -- THE WALK ANSWERS WITH k STEPS, exactly
  pub walk_answered_exactly : (space k : ℕ) → (walk_of t r space ≡ Ok k) ↔ WalkAnswered t r space k
  walk_answered_exactly space k = (λ e. rw e at (walk_in_words space), words_answered space k)

  -- THE STEPS ARE THE FIRST RETURN of the start side under the successor, given room, of a tile accepted or not whose 15 and 13
  -- pass; where there is a start side 29 passes too
  first_return_of : (space k : ℕ) → (start_side t r ≡ 0 → ⊥) → WalkAnswered t r space k → FirstReturn t.edg (start_side t r) k
  first_return_of space k some (empty_ring s i none) = absurd (some (no_start_side t r none.no_start))
  first_return_of space k some (returned a j b h l) = rw (start_side_of t r a b.start) h

  pub steps_are_first_return : Sizes t → In (R t) r → (start_side t r ≡ 0 → ⊥) → (space k : ℕ) → k ≤ space
      → (walk_of t r space ≡ Ok k) ↔ FirstReturn t.edg (start_side t r) k
  steps_are_first_return s i some space k room =
      let on : StartsOnSide t r = ⊎_elim (λ h. absurd (some h.0)) (λ h. h.0) (start_side_lem t r) in (
        λ e. first_return_of space k some ((walk_answered_exactly space k).0 e),
        λ h. words_answered space k (returned (start_side t r) k (record { sizes = s; ring = i; start = start_side_is t r on }) h room),
      )

  -- AN ANSWERED WALK WRITES THE SIDES OF ITS PATH, start side first, and nothing behind them
  has_room : (space k : ℕ) → WalkAnswered t r space k → k ≤ space
  has_room space k (empty_ring s i none) = omega arith
  has_room space k (returned a j b h l) = l

  pub walk_writes : (a : ℕ) → Begins t r a → (out : List ℕ) (k : ℕ) → walk_of t r (length out) ≡ Ok k
      → (path : ℕ → ℕ) → Path t.edg a k path → Writes k path out (sides_written t r (walk_of t r (length out)) out)
  walk_writes a b out k e path p =
      let g = side_after t r in
      let room = has_room (length out) k ((walk_answered_exactly (length out) k).0 e) in
      rw e
      (record {
        same_length = length_front g k out room;
        sides = λ i l.
            front_low g k out i l ∙ ap (iterate (after t.edg) i) (start_side_of t r a b.start) ∙ along t.edg a k path p i (omega arith);
        beyond = λ i l. front_high g k out i l;
      })
