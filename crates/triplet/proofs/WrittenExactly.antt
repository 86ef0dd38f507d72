-- A triplet is written exactly when it fits, and refused with the first of the tests that refuses: in words, and as the list that
-- the code goes through.
use mathlib.Core.Path.{◌≡◌, sym, ap, subst, ◌∙◌}
use mathlib.Core.Logic.{◌↔◌}
use mathlib.Core.List.{[], ◌∷◌}
use Prim.Native.Nat.{ℕ, ◌+◌, ◌≤◌, ◌<◌}
use native.Mathlib.Omega.{arith}
use lib.Dec.{eqb, ltb}
use borrow.Author.Tests.{eqb-true, eqb-false, ne_eqb, lt-ltb, le-ltb, ltb-true, ltb-false}
use Rattle.std.specs.Prelude.{Ok, Err}
use Rattle.laws.specs.Lowest.{lowest, LowestFailing}
use Rattle.laws.proofs.LowestLaws.{bool_cases, lowest_is, lowest-zero}
use Rattle.refusal.specs.declared.Refusal.{Refusal}
use Rattle.refusal.specs.Order.{refusal, fine, refused_if, located, first, first_of, RefusedFirst}
use Rattle.refusal.proofs.OrderLaws.{first-refuses, located-at, passed_all, located_passes, refused_if_passes, refused-first, first-refused}
use Rattle.triplet.specs.declared.Ids.{Ids}
use Rattle.triplet.specs.Triplet.{largest_part, bad_triplet}
use Rattle.triplet.specs.Written.{Written, no_such_place, too_short, part_numbered, part_too_large, size_of, refusals, unless, written_of}
use Rattle.triplet.specs.Words.{SmallParts, PartSmall, FitsAt, NotWritten, large_part, place_beyond, no_room}
use Rattle.triplet.proofs.WriterLaws.{writes}

-- an answer of bytes: nothing refused; a refusal: the first
bytes_unless : (q : Refusal) (n m : ℕ) → unless q n ≡ Ok m → (q.number ≡ 0) × (n ≡ m)
bytes_unless q n m e =
    bool_cases (eqb q.number 0)
    (λ t. let f : ◌≡◌ {A = Written} (Ok n) (Ok m) = rw t at e in let y : n ≡ m = cc in (eqb-true q.number 0 t, y))
    (λ t. let f : ◌≡◌ {A = Written} (Err q) (Ok m) = rw t at e in let no : ⊥ = cc in absurd no)

refused-unless : (q r : Refusal) (n : ℕ) → unless q n ≡ Err r → (q ≡ r) × (q.number ≡ 0 → ⊥)
refused-unless q r n e =
    bool_cases (eqb q.number 0)
    (λ t. let f : ◌≡◌ {A = Written} (Ok n) (Err r) = rw t at e in let no : ⊥ = cc in absurd no)
    (λ t. let f : ◌≡◌ {A = Written} (Err q) (Err r) = rw t at e in let y : q ≡ r = cc in (y, eqb-false q.number 0 t))

-- no part is too large
small_parts : (t : Ids) → (lowest (part_too_large t) 3 ≡ 0) ↔ SmallParts t
small_parts t = (
  λ e.
      let h : (k : ℕ) → 0 < k → k ≤ 3 → part_numbered t k ≤ largest_part = λ k a b.
      ltb-false largest_part (part_numbered t k) ((lowest-zero (part_too_large t) 3 e).fails k a b) in
      record { id = h 1 (omega arith) (omega arith); tile = h 2 (omega arith) (omega arith); other = h 3 (omega arith) (omega arith) },
  λ p. simp (le-ltb largest_part t.id p.id, le-ltb largest_part t.tile p.tile, le-ltb largest_part t.other p.other),
)

-- WRITTEN EXACTLY WHEN the parts are small, the place is in the row and there is room
pub written_exactly : (len at : ℕ) (t : Ids) (n : ℕ) → (written_of len at t ≡ Ok n) ↔ FitsAt len at t n
unfolding written_of
written_exactly len at t n = (
  λ e.
      let u = bytes_unless (first_of (refusals len at t)) (size_of t) n e in
      let a = passed_all (refusals len at t) u.0 in
      let p = located_passes bad_triplet (lowest (part_too_large t) 3) (λ z. omega arith) a.0 in
      let l = ltb-false len at (refused_if_passes (ltb len at) no_such_place at (λ z. omega arith) a.1.0) in
      let r = ltb-false len (at + size_of t) (refused_if_passes (ltb len (at + size_of t)) too_short (at + size_of t)
      (λ z. omega arith) a.1.1.0) in
      record { parts = (small_parts t).0 p; place = l; room = omega (arith, u.1, r); long = sym u.1 },
  λ f. sym (writes len at t ((small_parts t).1 f.parts) (omega (arith, f.long, f.room))) ∙ ap Ok (sym f.long),
)

-- REFUSED EXACTLY WHEN one of the three tests refuses and the earlier ones pass, with its number and place
pub refused_in_order : (len at : ℕ) (t : Ids) (r : Refusal) → (written_of len at t ≡ Err r) ↔ RefusedFirst (refusals len at t) r
unfolding written_of
refused_in_order len at t r = (
  λ e.
      let u = refused-unless (first_of (refusals len at t)) r (size_of t) e in
      refused-first (refusals len at t) r u.0 (rw u.0 at u.1),
  λ w. rw (first-refused (refusals len at t) r w, ne_eqb r.number 0 w.refused),
)

-- ---- the same in words

-- what the three tests come to: nothing, or a refusal whose words hold
data Tested (len at : ℕ) (t : Ids) : Refusal → Type 0 where
  passed : Tested len at t fine
  refused : {n p : ℕ} → NotWritten len at t n p → Tested len at t (refusal n p)

module _ (len at : ℕ) (t : Ids) where
  -- the first part that is too large
  lowest_part : (k : ℕ) → 0 < k → k ≤ 3 → largest_part < part_numbered t k → ((j : ℕ) → 0 < j → j < k → PartSmall t j)
      → LowestFailing 3 (PartSmall t) k
  lowest_part k a b large below = record { within = (a, b); fails = λ s. omega arith; below = below }

  one_below : t.id ≤ largest_part → (j : ℕ) → 0 < j → j < 2 → PartSmall t j
  one_below s j a b = let e : j ≡ 1 = omega arith in rw e s

  two_below : t.id ≤ largest_part → t.tile ≤ largest_part → (j : ℕ) → 0 < j → j < 3 → PartSmall t j
  two_below s u j a b = bool_cases (eqb j 1) (λ c. rw c s) (λ c. let e : j ≡ 2 = omega (arith, eqb-false j 1 c) in rw e u)

  tested : Tested len at t (first_of (refusals len at t))
  unfolding first located
  tested =
      bool_cases (ltb largest_part t.id)
      (λ a. rw a (refused (large_part (lowest_part 1 (omega arith) (omega arith) (ltb-true largest_part t.id a)
      (λ j x y. absurd (omega arith))))))
      (λ a.
      let id = ltb-false largest_part t.id a in
      bool_cases (ltb largest_part t.tile)
      (λ b. rw (a, b) (refused (large_part (lowest_part 2 (omega arith) (omega arith) (ltb-true largest_part t.tile b) (one_below id)))))
      (λ b.
      let tile = ltb-false largest_part t.tile b in
      bool_cases (ltb largest_part t.other)
      (λ c. rw (a, b, c) (refused (large_part
      (lowest_part 3 (omega arith) (omega arith) (ltb-true largest_part t.other c) (two_below id tile)))))
      (λ c.
      let small : SmallParts t = record { id = id; tile = tile; other = ltb-false largest_part t.other c } in
      bool_cases (ltb len at)
      (λ d. rw (a, b, c, d) (refused (place_beyond small (ltb-true len at d))))
      (λ d.
      bool_cases (ltb len (at + size_of t))
      (λ e. rw (a, b, c, d, e) (refused (no_room small (ltb-false len at d) (ltb-true len (at + size_of t) e))))
      (λ e. rw (a, b, c, d, e) passed)))))

  -- the tests of the place and of the room
  abbrev rest : Refusal
  rest = first_of (refused_if (ltb len at) no_such_place at ∷ refused_if (ltb len (at + size_of t)) too_short (at + size_of t) ∷ [])

  parts_pass : SmallParts t → first_of (refusals len at t) ≡ rest
  unfolding first located
  parts_pass s = ap (λ (j : ℕ). first (located bad_triplet j) rest) ((small_parts t).1 s)

  -- the words of a refusal make the tests come to it
  comes_to : (n p : ℕ) → NotWritten len at t n p → first_of (refusals len at t) ≡ refusal n p
  unfolding first
  comes_to n p (large_part {k = k} w) =
      let e : lowest (part_too_large t) 3 ≡ k =
      lowest_is (part_too_large t) 3 k w.within.0 w.within.1 (lt-ltb largest_part (part_numbered t k) (omega (arith, w.fails)))
      (λ j a l. le-ltb largest_part (part_numbered t j) (w.below j a l)) in
      ap (λ (j : ℕ). first (located bad_triplet j) rest) e
      ∙ ap (λ (q : Refusal). first q rest) (located-at bad_triplet k (λ z. omega (arith, w.within.0)))
      ∙ first-refuses (refusal bad_triplet k) rest (λ z. omega arith)
  comes_to n p (place_beyond s h) = parts_pass s ∙ rw (lt-ltb len at h)
  comes_to n p (no_room s a h) = parts_pass s ∙ rw (le-ltb len at a, lt-ltb len (at + size_of t) h)

  some_number : (n p : ℕ) → NotWritten len at t n p → n ≡ 0 → ⊥
  some_number n p (large_part w) z = omega arith
  some_number n p (place_beyond s h) z = omega arith
  some_number n p (no_room s a h) z = omega arith

  in_words : (q r : Refusal) → Tested len at t q → q ≡ r → (r.number ≡ 0 → ⊥) → NotWritten len at t r.number r.place
  in_words q r passed e some = absurd (some (sym (ap (λ (x : Refusal). x.number) e)))
  in_words q r (refused w) e some = subst (λ (x : Refusal). NotWritten len at t x.number x.place) e w

  -- REFUSED WITH n AT p EXACTLY WHEN the words of that refusal hold
  pub not_written_exactly : (n p : ℕ) → (written_of len at t ≡ Err (refusal n p)) ↔ NotWritten len at t n p
  unfolding written_of
  not_written_exactly n p = (
    λ e.
        let u = refused-unless (first_of (refusals len at t)) (refusal n p) (size_of t) e in
        in_words (first_of (refusals len at t)) (refusal n p) tested u.0 (λ z. u.1 (ap (λ (x : Refusal). x.number) u.0 ∙ z)),
    λ w. ap (λ (q : Refusal). unless q (size_of t)) (comes_to n p w) ∙ rw (ne_eqb n 0 (some_number n p w)),
  )
