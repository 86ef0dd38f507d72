-- The least value of the rows that pass a test, and the lower of two lowest: one pass over the rows finds the lowest value that some row has.
use mathlib.Core.Path.{◌≡◌, refl, sym, ap, ◌∙◌}
use mathlib.Core.Logic.{by_cases, ◌⊎◌, inl, inr, ⊎_elim}
use mathlib.Core.Bool.{Bool, true, false, cond, ◌&&◌, ◌||◌, true≢false}
use Prim.Native.Nat.{ℕ, zero, suc, ◌+◌, ◌≤◌, ◌<◌}
use native.Mathlib.Nat.{le_refl}
use native.Mathlib.Numerals.{add-one}
use native.Mathlib.Decide.{dec_le, dec_lt}
use native.Mathlib.Omega.{arith}
use lib.Dec.{eqb, ltb}
use borrow.Author.Tests.{eq-eqb, ne_eqb, lt-ltb, le-ltb}
use Rattle.laws.specs.Lowest.{lowest, None, At, lesser, least, LeastAt}
use Rattle.laws.specs.Sums.{Into}
use Rattle.laws.proofs.LowestLaws.{bool_cases, lowest_cases, lowest_none, lowest_is, lowest_some}

-- ---- the smaller of two, where 0 is none
pub lesser_left : (a b : ℕ) → a ≡ 0 → lesser a b ≡ b
unfolding lesser
lesser_left a b z = rw (eq-eqb a 0 z)

pub lesser_right : (a b : ℕ) → b ≡ 0 → lesser a b ≡ a
unfolding lesser
lesser_right a b z = by_cases (dec_le a 0) (λ c. rw (eq-eqb a 0 (omega arith)) (omega arith))
    (λ c. rw (ne_eqb a 0 (λ e. omega arith), eq-eqb b 0 z))

pub lesser_less : (a b : ℕ) → 0 < a → a < b → lesser a b ≡ a
unfolding lesser
lesser_less a b x y = rw (ne_eqb a 0 (λ e. omega arith), ne_eqb b 0 (λ e. omega arith), lt-ltb a b y)

pub lesser_more : (a b : ℕ) → 0 < b → b ≤ a → lesser a b ≡ b
unfolding lesser
lesser_more a b x y = rw (ne_eqb a 0 (λ e. omega arith), ne_eqb b 0 (λ e. omega arith), le-ltb a b y)

-- ---- two tests, each searched by itself
or_right : (a b : Bool) → b ≡ true → (a || b) ≡ true
or_right true b e = refl
or_right false b e = e

module _ (p q : ℕ → Bool) (n : ℕ) where
  both_at : At p n (lowest p n) → At q n (lowest q n) → lesser (lowest p n) (lowest q n) ≡ lowest (λ k. p k || q k) n
  both_at a b =
      by_cases (dec_lt (lowest p n) (lowest q n))
      (λ c.
      lesser_less (lowest p n) (lowest q n) a.pos c
      ∙ sym
      (lowest_is (λ k. p k || q k) n (lowest p n) a.pos a.within (ap (λ (x : Bool). x || q (lowest p n)) a.passes)
      (λ k u v. rw (a.below k u v, b.below k u (omega arith)))))
      (λ c.
      lesser_more (lowest p n) (lowest q n) b.pos (omega arith)
      ∙ sym
      (lowest_is (λ k. p k || q k) n (lowest q n) b.pos b.within (or_right (p (lowest q n)) (q (lowest q n)) b.passes)
      (λ k u v. rw (a.below k u (omega arith), b.below k u v))))

  pub lowest_either : lesser (lowest p n) (lowest q n) ≡ lowest (λ k. p k || q k) n
  lowest_either =
      ⊎_elim
      (λ a.
      lesser_left (lowest p n) (lowest q n) a.0
      ∙ ⊎_elim
      (λ b. b.0 ∙ sym (lowest_none (λ k. p k || q k) n (λ k u v. rw (a.1.fails k u v, b.1.fails k u v))))
      (λ b.
      sym
      (lowest_is (λ k. p k || q k) n (lowest q n) b.pos b.within (or_right (p (lowest q n)) (q (lowest q n)) b.passes)
      (λ k u v. rw (a.1.fails k u (omega (arith, b.within)), b.below k u v))))
      (lowest_cases q n))
      (λ a.
      ⊎_elim
      (λ b.
      lesser_right (lowest p n) (lowest q n) b.0
      ∙ sym
      (lowest_is (λ k. p k || q k) n (lowest p n) a.pos a.within (ap (λ (x : Bool). x || q (lowest p n)) a.passes)
      (λ k u v. rw (a.below k u v, b.1.fails k u (omega (arith, a.within))))))
      (λ b. both_at a b)
      (lowest_cases q n))
      (lowest_cases p n)

-- ---- the least of the rows that pass
module _ (p : ℕ → Bool) (g : ℕ → ℕ) where
  -- one row more, which passes, as v is the least so far; or which does not
  row_passes : (n v : ℕ) → p (suc n) ≡ true → 0 < g (suc n) → ((v ≡ 0) × None p n) ⊎ ((0 < v) × LeastAt p g n v)
      → LeastAt p g (suc n) (lesser v (g (suc n)))
  row_passes n v e h (inl c) =
      rw (lesser_left v (g (suc n)) c.0)
      (record {
        row = suc n;
        pos = omega arith;
        within = le_refl (suc n);
        passes = e;
        has = refl;
        below = λ k u w t. by_cases (dec_le k n) (λ d. absurd (true≢false (sym t ∙ c.1.fails k u d)))
            (λ d. let q : k ≡ suc n = omega arith in rw q (le_refl (g (suc n))));
      })
  row_passes n v e h (inr c) =
      by_cases (dec_lt v (g (suc n)))
      (λ l.
      rw (lesser_less v (g (suc n)) c.0 l)
      (record {
        row = c.1.row;
        pos = c.1.pos;
        within = omega (arith, c.1.within);
        passes = c.1.passes;
        has = c.1.has;
        below = λ k u w t. by_cases (dec_le k n) (λ d. c.1.below k u d t) (λ d. let q : k ≡ suc n = omega arith in rw q (omega arith));
      }))
      (λ l.
      rw (lesser_more v (g (suc n)) h (omega arith))
      (record {
        row = suc n;
        pos = omega arith;
        within = le_refl (suc n);
        passes = e;
        has = refl;
        below = λ k u w t. by_cases (dec_le k n) (λ d. omega (arith, c.1.below k u d t))
            (λ d. let q : k ≡ suc n = omega arith in rw q (le_refl (g (suc n))));
      }))

  row_fails : (n v : ℕ) → p (suc n) ≡ false → ((v ≡ 0) × None p n) ⊎ ((0 < v) × LeastAt p g n v)
      → ((v ≡ 0) × None p (suc n)) ⊎ ((0 < v) × LeastAt p g (suc n) v)
  row_fails n v e (inl c) = inl (
    c.0,
    record {
      fails = λ k u w.
          by_cases (dec_le k n) (λ d. c.1.fails k u d) (λ d. let q : k ≡ suc n = omega arith in rw q e);
    },
  )
  row_fails n v e (inr c) =
      inr (
        c.0,
        record {
          row = c.1.row;
          pos = c.1.pos;
          within = omega (arith, c.1.within);
          passes = c.1.passes;
          has = c.1.has;
          below = λ k u w t. by_cases (dec_le k n) (λ d. c.1.below k u d t)
              (λ d. let q : k ≡ suc n = omega arith in absurd (true≢false (sym (rw q at t) ∙ e)));
        },
      )

  pub least_cases : (n : ℕ) → ((k : ℕ) → 0 < k → k ≤ n → 0 < g k)
      → ((least p g n ≡ 0) × None p n) ⊎ ((0 < least p g n) × LeastAt p g n (least p g n))
  least_cases zero h = inl (refl, record { fails = λ k u v. absurd (omega arith) })
  least_cases (suc n) h =
      let c = least_cases n (λ k u v. h k u (omega arith)) in
      let w = h (suc n) (omega arith) (le_refl (suc n)) in
      bool_cases (p (suc n))
      (λ e. rw e (let l = row_passes n (least p g n) e w c in inr (rw l.has at (h l.row l.pos l.within), l)))
      (λ e. rw (e, lesser_right (least p g n) 0 refl) (row_fails n (least p g n) e c))

  -- THE LOWEST VALUE that some passing row has, where all values are in 1..m
  pub least_is : (n m : ℕ) → Into g n m → least p g n ≡ lowest (λ f. ltb 0 (lowest (λ r. eqb (g r) f && p r) n)) m
  least_is n m h =
      ⊎_elim
      (λ c.
      c.0
      ∙ sym
      (lowest_none (λ f. ltb 0 (lowest (λ r. eqb (g r) f && p r) n)) m
      (λ f u v. ap (ltb 0) (lowest_none (λ r. eqb (g r) f && p r) n (λ r a b. and_false (eqb (g r) f) (p r) (c.1.fails r a b))))))
      (λ c.
      let l = c.1 in
      sym
      (lowest_is (λ f. ltb 0 (lowest (λ r. eqb (g r) f && p r) n)) m (least p g n) c.0 (rw l.has at (h l.row l.pos l.within).1)
      (lt-ltb 0 _ (lowest_some (λ r. eqb (g r) (least p g n) && p r) n l.row l.pos l.within
      (rw (eq-eqb (g l.row) (least p g n) l.has) l.passes)))
      (λ f u v.
      le-ltb 0 _
      (none_le
      (lowest_none (λ r. eqb (g r) f && p r) n
      (λ r a b.
      bool_cases (p r)
      (λ t. rw (ne_eqb (g r) f (λ e. omega (arith, l.below r a b t))))
      (λ t. and_false (eqb (g r) f) (p r) t)))))))
      (least_cases n (λ k u v. (h k u v).0))
    where
      and_false : (a b : Bool) → b ≡ false → (a && b) ≡ false
      and_false true b e = e
      and_false false b e = refl

      none_le : {x : ℕ} → x ≡ 0 → x ≤ 0
      none_le e = omega arith

  -- as a loop has it, at `n + 1`
  pub least_next : (n v x w : ℕ) → v ≡ least p g n → x ≡ cond (p (suc n)) (g (suc n)) 0 → w ≡ lesser v x → w ≡ least p g (n + 1)
  least_next n v x w a b c = rw add-one (c ∙ (λ i. lesser (a i) (b i)))
