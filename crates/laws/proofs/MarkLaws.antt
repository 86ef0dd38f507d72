-- Marks in a buffer, one for each of 1..n: counting predecessors, painting a walk, and owners. One turn of each loop, over a function f on
-- 1..n, and what the loops leave.
use mathlib.Core.Path.{◌≡◌, refl, sym, ap, ◌∙◌}
use mathlib.Core.Logic.{by_cases}
use mathlib.Core.Bool.{Bool, cond}
use mathlib.Core.List.{List}
use Prim.Native.Nat.{ℕ, zero, suc, min, ◌+◌, ◌-◌, ◌≤◌, ◌<◌}
use native.Mathlib.Decide.{dec_le}
use native.Mathlib.Numerals.{add-one}
use native.Mathlib.Omega.{arith}
use borrow.Author.Tests.{eq-eqb, ne_eqb, lt-ltb, le-ltb, ltb-false}
use lib.Dec.{eqb, ltb}
use lib.ListN.{length, get_or, set}
use Rattle.laws.specs.Lowest.{lowest, None}
use Rattle.laws.specs.Orbit.{entry, iterate, meets, first_return, Starts, row_meets, owner, first_taken, first_unmet, first_doubled}
use Rattle.laws.specs.Buffer.{front}
use Rattle.laws.specs.Sums.{Inj, Into, hits}
use Rattle.laws.specs.Marks.{zeros, count, painted, owner_at, already_met}
use Rattle.laws.proofs.SumLaws.{inj_of}
use Rattle.laws.proofs.LowestLaws.{bool_cases, none_next, lowest_next, lowest_none, lowest_ext, lowest-zero}
use Rattle.laws.proofs.BufferLaws.{front_low, front_put, front_of, front_ext, front_over}
use Rattle.laws.proofs.TestLaws.{nonzero}
use Rattle.laws.proofs.OrbitLaws.{iterate_in, meets_hit, meets_miss, meets_round, from_zero, never_zero, paint_row}

pub single : (f : ℕ → ℕ) (n : ℕ) → Into f n n → first_doubled f n ≡ 0 → Inj f n
single f n w e = inj_of f n n w (λ s a b. ltb-false 1 _ ((lowest-zero (λ (s : ℕ). ltb 1 (hits f n s)) n e).fails s a b))

module _ (f : ℕ → ℕ) (n : ℕ) (d e : List ℕ) (room : n ≤ length d) where
  pub tally_turn : (i t v : ℕ) → 0 < t → t ≤ n → e ≡ front (count f i) n d → t ≡ f (suc i) → v ≡ min 2 (get_or e (t - 1) 0 + 1)
      → set e (t - 1) v ≡ front (count f (i + 1)) n d
  tally_turn i t v x y q r u =
      let s : suc (t - 1) ≡ t = omega arith in
      let b : get_or e (t - 1) 0 ≡ count f i (t - 1) = ap (λ (z : List ℕ). get_or z (t - 1) 0) q ∙ front_low (count f i) n d (t - 1) (omega arith) in
      rw add-one
      (front_put (count f i) (count f (suc i)) n d e (t - 1) v room q (omega arith)
      (rw (eq-eqb (suc (t - 1)) (f (suc i)) (s ∙ r)) (omega arith))
      (λ k a c. rw (ne_eqb (suc k) (f (suc i)) (λ m. c (omega arith))) (omega arith)))

pub paint_start : (f : ℕ → ℕ) (n : ℕ) (d : List ℕ) (a row : ℕ) → n ≤ length d → d ≡ front (painted f d a row 0) n d
paint_start f n d a row h = front_of (painted f d a row 0) n d d h refl (λ i u. refl) (λ i u. refl)

module _ (f : ℕ → ℕ) (n : ℕ) (d e : List ℕ) (w : Into f n n) (room : n ≤ length d) (a row : ℕ) (x : 0 < a) (y : a ≤ n) where
  pub paint_turn : (i t : ℕ) → e ≡ front (painted f d a row i) n d → t ≡ iterate f (i + 1) a
      → set e (t - 1) row ≡ front (painted f d a row (i + 1)) n d
  paint_turn i t q r =
      let r' : t ≡ iterate f (suc i) a = rw add-one at r in
      let W = iterate_in f n w (suc i) a x y in
      let u : 0 < t = rw r' W.0 in
      let v : t ≤ n = rw r' W.1 in
      let s : suc (t - 1) ≡ t = omega arith in
      rw add-one
      (front_put (painted f d a row i) (painted f d a row (suc i)) n d e (t - 1) row room q (omega arith)
      (rw (meets_hit f i a (suc (t - 1)) (sym r' ∙ sym s)) refl)
      (λ k b c. rw (meets_miss f i a (suc k) (λ m. c (omega arith))) refl))

  -- the start is back: what is painted is what all n moves would paint
  pub paint_back : Inj f n → (i t : ℕ) → t ≡ iterate f (i + 1) a → t ≡ a → i < n → None (λ k. eqb (iterate f k a) a) i
      → e ≡ front (painted f d a row (i + 1)) n d → e ≡ front (painted f d a row n) n d
  paint_back j i t r b l N q =
      let z : i + 1 ≡ first_return f n a = lowest_next (λ k. eqb (iterate f k a) a) n i l N
      (eq-eqb (iterate f (suc i) a) a (sym (rw add-one at r) ∙ b)) in
      q
      ∙ front_ext (painted f d a row (i + 1)) (painted f d a row n) n d
      (λ k u. ap (λ (c : Bool). cond c row (get_or d k 0)) (ap (λ (m : ℕ). meets f m a (suc k)) z ∙ meets_round f n w j a x y (suc k)))

-- the start is 0: nothing is painted
pub paint_none : (f : ℕ → ℕ) (n : ℕ) (d : List ℕ) (a row : ℕ) → f 0 ≡ 0 → n ≤ length d → a ≡ 0 → d ≡ front (painted f d a row n) n d
paint_none f n d a row z h e =
    front_of (painted f d a row n) n d d h refl
    (λ i u. sym (ap (λ (b : Bool). cond b row (get_or d i 0)) (ap (λ (k : ℕ). meets f n k (suc i)) e ∙ from_zero f z n (suc i) (omega arith))))
    (λ i u. refl)

-- ---- the answers
-- a buffer whose front is G, side 1 first, read as sides are
pub entry-front : (G : ℕ → ℕ) (n : ℕ) (d m : List ℕ) → m ≡ front (λ (k : ℕ). G (suc k)) n d → (s : ℕ) → 0 < s → s ≤ n → entry m s ≡ G s
entry-front G n d m e zero a b = absurd (omega arith)
entry-front G n d m e (suc k) a b = ap (λ (z : List ℕ). get_or z k 0) e ∙ front_low (λ (k : ℕ). G (suc k)) n d k b

two : (h : ℕ) → eqb (min 2 h) 2 ≡ ltb 1 h
two h =
    by_cases (dec_le 2 h) (λ c. eq-eqb (min 2 h) 2 (omega arith) ∙ sym (lt-ltb 1 h c))
    (λ c. ne_eqb (min 2 h) 2 (λ e. omega arith) ∙ sym (le-ltb 1 h (omega arith)))

-- the first mark that shows two is the lowest that two lead to
pub pred_answer : (f : ℕ → ℕ) (n : ℕ) (d m : List ℕ) → m ≡ front (count f n) n d → (r : ℕ)
    → r ≡ lowest (λ (s : ℕ). eqb (entry m s) 2) n → r ≡ first_doubled f n
pred_answer f n d m q r F =
    F
    ∙ lowest_ext (λ (s : ℕ). eqb (entry m s) 2) (λ (s : ℕ). ltb 1 (hits f n s)) n
    (λ s a b.
    ap (λ (x : ℕ). eqb x 2) (entry-front (λ (s : ℕ). min 2 (hits f n s)) n d m q s a b)
    ∙ two (hits f n s))

-- the first mark that shows none is the lowest that no row's walk meets
pub unmet_answer : (f : ℕ → ℕ) (n : ℕ) (st : ℕ → ℕ) (R : ℕ) (d m : List ℕ) → m ≡ front (owner_at f n st R) n d → (s : ℕ)
    → s ≡ lowest (λ (t : ℕ). eqb (entry m t) 0) n → s ≡ first_unmet f n st R
unmet_answer f n st R d m q s F =
    F
    ∙ lowest_ext (λ (t : ℕ). eqb (entry m t) 0) (λ (t : ℕ). eqb (owner f n st R t) 0) n
    (λ t a b. ap (λ (x : ℕ). eqb x 0) (entry-front (owner f n st R) n d m q t a b))

-- ---- marks that were cleared before
pub cleared : (n : ℕ) (d m : List ℕ) → m ≡ front zeros n d → m ≡ front zeros n m
cleared n d m q = q ∙ sym (front_over zeros zeros n d) ∙ ap (front zeros n) (sym q)

pub over_front : (g h : ℕ → ℕ) (n : ℕ) (d m₁ m₂ : List ℕ) → m₁ ≡ front h n d → m₂ ≡ front g n m₁ → m₂ ≡ front g n d
over_front g h n d m₁ m₂ a b = b ∙ ap (front g n) a ∙ front_over g h n d

-- ---- the owners, row by row
module _ (f : ℕ → ℕ) (n : ℕ) (st : ℕ → ℕ) (R : ℕ) (m m₀ : List ℕ) (w : Into f n n) (v : Starts n st R) (r : ℕ) (h : r < R) (q : m ≡ front
    (owner_at f n st r) n m₀) (N : None (already_met f n st) r) where
  no_owner : st (suc r) ≡ 0 → owner f n st r (st (suc r)) ≡ 0
  no_owner e =
      lowest_none (row_meets f n st (st (suc r))) r
      (λ p a b.
      bool_cases (eqb (st p) 0)
      (λ c. rw c)
      (λ c. rw c (ap (meets f n (st p)) e ∙ never_zero f n w n (st p) ((nonzero (st p)).0 c) (v p a (omega arith)))))

  -- the mark at the start is its owner so far
  own_read : entry m (st (suc r)) ≡ owner f n st r (st (suc r))
  own_read =
      by_cases (dec_le 1 (st (suc r)))
      (λ c. entry-front (owner f n st r) n m₀ m q (st (suc r)) c (v (suc r) (omega arith) h))
      (λ c. let e : st (suc r) ≡ 0 = omega arith in ap (entry m) e ∙ sym (no_owner e))

  pub own_taken : (entry m (st (suc r)) ≡ 0 → ⊥) → r + 1 ≡ first_taken f n st R
  own_taken z = lowest_next (already_met f n st) R r h N (lt-ltb 0 (owner f n st r (st (suc r))) (omega (arith, own_read)))

  pub own_next : entry m (st (suc r)) ≡ 0 → None (already_met f n st) (r + 1)
  own_next z = none_next (already_met f n st) r N (le-ltb 0 (owner f n st r (st (suc r))) (omega (arith, own_read)))

  pub own_turn : Inj f n → f 0 ≡ 0 → entry m (st (suc r)) ≡ 0 → (e : List ℕ)
      → e ≡ front (painted f m (st (suc r)) (r + 1) n) n m → e ≡ front (owner_at f n st (r + 1)) n m₀
  own_turn i o z e u =
      let P : ℕ → ℕ = painted f m (st (suc r)) (r + 1) n in
      rw add-one
      (u
      ∙ ap (front P n) q
      ∙ front_over P (owner_at f n st r) n m₀
      ∙ front_ext P (owner_at f n st (suc r)) n m₀
      (λ j b.
      let y : get_or m j 0 ≡ owner_at f n st r j = ap (λ (t : List ℕ). get_or t j 0) q ∙ front_low (owner_at f n st r) n m₀ j b in
      rw (add-one, y) (paint_row f n w i o st r (λ c d g. v c d (omega arith)) (sym own_read ∙ z) (suc j) (omega arith))))
