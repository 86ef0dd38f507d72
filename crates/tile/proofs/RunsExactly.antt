-- "For each face its ring rows being exactly one unbroken run that starts at its ring_ptr" (28): the test of the definition, which counts
-- the face's rows, and the test of the code, which looks where runs begin, each hold exactly where the words do; so the two are one test.
--
-- The plan. By counting: the rows that hold the face are a sum of three, before, in and behind the k rows from p on (`three_parts`). Where
-- all of the k hold it their sum is k (`all_count`), so there are k in all exactly where no other row holds it (`no_other`, `no_more`):
-- `broken_exactly`. By where runs begin: a row that holds the face follows one that does, or is row p (`Steady`). So from a row that holds
-- it one goes down through rows that do, as long as p is not met (`down`). Then no row before p holds it, for row 0 holds nothing, and none
-- behind the first row after p that does not (`run_only`): `at_pointer_exactly`. Two tests that pass where the same words hold are equal
-- (`one_test`): `not_at_pointer_broken`.
use mathlib.Core.Path.{◌≡◌, refl, sym, ap, ◌∙◌}
use mathlib.Core.Logic.{◌↔◌, by_cases, ◌⊎◌, inl, inr, ⊎_elim}
use mathlib.Core.Bool.{Bool, true, false, not, ◌&&◌, ◌||◌, true≢false}
use mathlib.Core.List.{List}
use Prim.Native.Nat.{ℕ, zero, suc, pred, ◌+◌, ◌-◌, ◌≤◌, ◌<◌}
use native.Mathlib.Decide.{dec_le, dec_lt, ℕ_discrete}
use native.Mathlib.Omega.{arith}
use borrow.Author.Tests.{eq-eqb, ne_eqb, eqb-true, eqb-false}
use lib.Dec.{eqb}
use lib.ListN.{length, get_or-eq_default}
use Rattle.laws.specs.Lowest.{lowest, At, In, Each}
use Rattle.laws.specs.Sums.{bit, sum}
use Rattle.laws.specs.Orbit.{entry}
use Rattle.laws.specs.Runs.{OneRunFrom}
use Rattle.laws.proofs.TestLaws.{or_false, and_false, not_unequal, nonzero}
use Rattle.laws.proofs.LowestLaws.{bool_cases, lowest_some, lowest-pos}
use Rattle.laws.proofs.SumLaws.{sum_ext, sum_part, sum_ones, sum_none}
use Rattle.refusal.proofs.JudgedLaws.{none_found}
use Rattle.tile.specs.Check.{ring_rows, rows_broken, run_broken}
use Rattle.tile.specs.Serving.Stages.{begins_elsewhere, run_not_at_pointer}

-- a row that is not 0 is a row of the list
entry_in : (l : List ℕ) (r : ℕ) → 0 < entry l r → In (length l) r
entry_in l zero h = absurd (omega arith)
entry_in l (suc r) h = by_cases (dec_lt r (length l)) (λ c. (omega arith, omega arith))
    (λ c. absurd (omega (arith, get_or-eq_default l 0 {n = r} (omega arith))))

-- ---- a sum in two parts
sum_split : (g : ℕ → ℕ) (a n : ℕ) → sum g (a + n) ≡ sum g a + sum (λ j. g (a + j)) n
sum_split g a zero = let q : a + 0 ≡ a = omega arith in rw q (omega arith)
sum_split g a (suc n) = let q : a + suc n ≡ suc (a + n) = omega arith in rw q (omega (arith, sum_split g a n))

-- ---- the rows that hold f, counted before row p, over the k rows from p on, and behind those
module _ (l : List ℕ) (f p : ℕ) where
  abbrev holds : ℕ → ℕ
  holds j = bit (eqb f (entry l j))

  abbrev behind : ℕ → ℕ
  behind k = sum (λ j. holds (pred p + k + j)) (length l - (pred p + k))

  counts : (j : ℕ) → entry l j ≡ f → holds j ≡ 1
  counts j e = rw (eq-eqb f (entry l j) (sym e))

  module _ (k : ℕ) (a : 0 < p) (b : p + k ≤ suc (length l)) where
    three_parts : ring_rows l f ≡ sum holds (pred p) + sum (λ j. holds (pred p + j)) k + behind k
    three_parts =
        let q : length l ≡ pred p + k + (length l - (pred p + k)) = omega arith in
        ap (sum holds) q ∙ sum_split holds (pred p + k) (length l - (pred p + k)) ∙ ap (λ (x : ℕ). x + behind k) (sum_split holds (pred p) k)

    -- all of the k rows hold it
    module _ (h : (r : ℕ) → p ≤ r → r < p + k → entry l r ≡ f) where
      all_count : sum (λ j. holds (pred p + j)) k ≡ k
      all_count = sum_ext (λ j. holds (pred p + j)) (λ j. 1) k
          (λ j u v. counts (pred p + j) (h (pred p + j) (omega arith) (omega arith))) ∙ sum_ones k

      -- there are k rows that hold it: none of them is another
      no_other : ring_rows l f ≡ k → (r : ℕ) → In (length l) r → entry l r ≡ f → (p ≤ r) × (r < p + k)
      no_other n r i e =
          let one = counts r e in (
            by_cases (dec_le p r) (λ c. c) (λ c. absurd (omega (arith, three_parts, all_count, sum_part holds (pred p) r i.0 (omega arith)))),
            by_cases (dec_lt r (p + k)) (λ c. c)
                (λ c.
                let j = r - (pred p + k) in
                let q : pred p + k + j ≡ r = omega arith in
                let part = sum_part (λ j. holds (pred p + k + j)) (length l - (pred p + k)) j (omega arith) (omega arith) in
                absurd (omega (arith, three_parts, all_count, part, ap holds q))),
          )

      -- no other row holds it: there are k
      no_more : ((r : ℕ) → In (length l) r → entry l r ≡ f → (p ≤ r) × (r < p + k)) → ring_rows l f ≡ k
      no_more o =
          let before = sum_none (λ j. eqb f (entry l j)) (pred p)
          (λ j u v. ne_eqb f (entry l j) (λ e. omega (arith, o j (u, omega arith) (sym e)))) in
          let after =
          sum_none (λ j. eqb f (entry l (pred p + k + j))) (length l - (pred p + k))
          (λ j u v. ne_eqb f (entry l (pred p + k + j)) (λ e. omega (arith, o (pred p + k + j) (omega arith, omega arith) (sym e)))) in
          omega (arith, three_parts, all_count, before, after)

  -- THE TEST BY COUNTING holds exactly where the words do
  pub broken_exactly : 0 < f → (eqb (ring_rows l f) 0 || rows_broken l f p (ring_rows l f) ≡ false) ↔ OneRunFrom l f p
  broken_exactly pos =
      let n = ring_rows l f in
      let w =
      or_false (eqb n 0) (rows_broken l f p n) (nonzero n)
      (none_found (λ j. entry l (p + pred j) ≡ f) n (λ j. not (eqb (entry l (p + pred j)) f)) (λ j i. not_unequal (entry l (p + pred j)) f)) in (
        λ e.
            let h = w.0 e in
            let inside : (r : ℕ) → p ≤ r → r < p + n → entry l r ≡ f =
            λ r a b. let q : r ≡ p + pred (suc (r - p)) = omega arith in ap (entry l) q ∙ h.1 (suc (r - p)) (omega arith, omega arith) in
            let first = entry_in l p (rw (inside p (omega arith) (omega (arith, h.0))) pos) in
            let last = entry_in l (p + pred n) (rw (inside (p + pred n) (omega arith) (omega (arith, h.0))) pos) in
            let fits : p + n ≤ suc (length l) = omega (arith, last.1, h.0) in
            record {
              rows = n;
              some = h.0;
              starts = first.0;
              ends = fits;
              inside = inside;
              nowhere_else = no_other n first.0 fits inside refl;
            },
        λ h.
            let same = no_more h.rows h.starts h.ends (λ r a b. h.inside r (omega arith) (omega arith)) h.nowhere_else in
            w.1 (omega (arith, same, h.some), λ j i. h.inside (p + pred j) (omega arith) (omega (arith, same, i.0, i.1))),
      )

-- ---- the rows of a list that hold f are one run from row p on, where row p holds it, and no other row that holds it follows a
-- row that does not
module _ (l : List ℕ) (f p : ℕ) (pos : 0 < f) where
  abbrev Steady : ℕ → Type 0
  Steady r = entry l r ≡ f → (entry l (pred r) ≡ f) ⊎ (p ≡ r)

  -- from a row that holds f down to row q, while none above q is p
  down : Each (length l) Steady → (r : ℕ) → r ≤ length l → entry l r ≡ f → (q : ℕ) → q ≤ r
      → ((i : ℕ) → q < i → i ≤ r → p ≡ i → ⊥) → entry l q ≡ f
  down st zero a e q b none = let z : q ≡ 0 = omega arith in rw z e
  down st (suc r) a e q b none =
      by_cases (dec_le q r)
      (λ c.
      ⊎_elim
      (λ h. down st r (omega arith) h q c (λ i u v. none i u (omega arith)))
      (λ h. absurd (none (suc r) (omega arith) (omega arith) h))
      (st (suc r) (omega arith, a) e))
      (λ c. let z : q ≡ suc r = omega arith in rw z e)

  -- the rows of the run: up to the first after p that holds another number, the one past the end at the latest
  abbrev other : ℕ → Bool
  other j = not (eqb (entry l (p + j)) f)

  abbrev run : ℕ
  run = lowest other (suc (length l) - p)

  module _ (h : entry l p ≡ f) (st : Each (length l) Steady) where
    begins : In (length l) p
    begins = entry_in l p (rw h pos)

    run_at : At other (suc (length l) - p) run
    run_at =
        let b = begins in
        let n = suc (length l) - p in
        let q : p + n ≡ suc (length l) = omega arith in
        let z : entry l (p + n) ≡ 0 = ap (entry l) q ∙ get_or-eq_default l 0 {n = length l} (omega arith) in
        lowest-pos other n (lowest_some other n n (omega arith) (omega arith) (rw (z, ne_eqb 0 f (λ e. omega arith))))

    run_inside : (r : ℕ) → p ≤ r → r < p + run → entry l r ≡ f
    run_inside r a b =
        by_cases (ℕ_discrete p r) (λ e. ap (entry l) (sym e) ∙ h)
        (λ e.
        let q : r ≡ p + (r - p) = omega arith in
        ap (entry l) q ∙ (not_unequal (entry l (p + (r - p))) f).0 (run_at.below (r - p) (omega arith) (omega arith)))

    run_only : (r : ℕ) → In (length l) r → entry l r ≡ f → (p ≤ r) × (r < p + run)
    run_only r i e = (
      by_cases (dec_le p r) (λ c. c) (λ c. absurd (omega (arith, down st r i.1 e 0 (omega arith) (λ i u v z. omega arith)))),
      by_cases (dec_lt r (p + run)) (λ c. c)
          (λ c.
          let d = down st r i.1 e (p + run) (omega arith) (λ i u v z. omega arith) in
          absurd (true≢false (sym run_at.passes ∙ (not_unequal (entry l (p + run)) f).1 d))),
    )

-- THE TEST OF THE CODE holds exactly where the words do
module _ (ring_ptr fac_id : List ℕ) (f : ℕ) (pos : 0 < f) where
  steady_exactly : (r : ℕ) → (eqb (entry fac_id r) f && begins_elsewhere ring_ptr fac_id r ≡ false) ↔ Steady fac_id f (entry ring_ptr f) pos r
  steady_exactly r =
      bool_cases (eqb (entry fac_id r) f)
      (λ c.
      let q = eqb-true (entry fac_id r) f c in
      let w = and_false _ _ (not_unequal (entry fac_id (pred r)) f) (not_unequal (entry ring_ptr f) r) in
      rw (c, q) (λ e h. w.0 e, λ h. w.1 (h refl)))
      (λ c. rw c (λ e h. absurd (eqb-false (entry fac_id r) f c h), λ h. refl))

  at_pointer_exactly : (run_not_at_pointer ring_ptr fac_id f ≡ false) ↔ OneRunFrom fac_id f (entry ring_ptr f)
  at_pointer_exactly =
      let p = entry ring_ptr f in
      let w =
      or_false _ _ (not_unequal (entry fac_id p) f)
      (none_found (Steady fac_id f p pos) (length fac_id) (λ r. eqb (entry fac_id r) f && begins_elsewhere ring_ptr fac_id r)
      (λ r j. steady_exactly r)) in (
        λ e.
            let h = w.0 e in
            let b = begins fac_id f p pos h.0 h.1 in
            let A = run_at fac_id f p pos h.0 h.1 in
            record {
              rows = run fac_id f p pos;
              some = A.pos;
              starts = b.0;
              ends = omega (arith, A.within);
              inside = run_inside fac_id f p pos h.0 h.1;
              nowhere_else = run_only fac_id f p pos h.0 h.1;
            },
        λ h.
            w.1 (
              h.inside p (omega arith) (omega (arith, h.some)),
              λ r j e.
                  let b = h.nowhere_else r j e in
                  by_cases (ℕ_discrete p r) inr (λ c. inl (h.inside (pred r) (omega arith) (omega arith))),
            ),
      )

  -- so the two tests are one
  one_test : {P : Type 0} (a b : Bool) → (a ≡ false) ↔ P → (b ≡ false) ↔ P → a ≡ b
  one_test true true u v = refl
  one_test true false u v = u.1 (v.0 refl)
  one_test false true u v = sym (v.1 (u.0 refl))
  one_test false false u v = refl

  pub not_at_pointer_broken : run_not_at_pointer ring_ptr fac_id f ≡ run_broken ring_ptr fac_id f
  not_at_pointer_broken = one_test _ _ at_pointer_exactly (broken_exactly fac_id f (entry ring_ptr f) pos)
