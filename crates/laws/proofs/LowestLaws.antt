-- The laws of the lowest number of 1..n that passes a test.
use mathlib.Core.Path.{◌≡◌, refl, sym, ap, ◌∙◌}
use mathlib.Core.Logic.{by_cases, ◌⊎◌, inl, inr, ⊎_elim}
use mathlib.Core.Bool.{Bool, true, false, cond, true≢false}
use Prim.Native.Nat.{ℕ, zero, suc, ◌+◌, ◌-◌, ◌≤◌, ◌<◌, suc-le-suc}
use native.Mathlib.Nat.{le_refl}
use native.Mathlib.Numerals.{add-one}
use native.Mathlib.Decide.{dec_le}
use native.Mathlib.Omega.{arith}
use Rattle.laws.specs.Lowest.{first_nonzero, lowest, None, At, In, Each}

-- cases of a test, each with its equation
pub bool_cases : {C : Type 0} (b : Bool) → (b ≡ true → C) → (b ≡ false → C) → C
bool_cases true f g = f refl
bool_cases false f g = g refl

nonzero_pos : (a b : ℕ) → 0 < a → first_nonzero a b ≡ a
nonzero_pos zero b h = omega arith
nonzero_pos (suc a) b h = refl

pub nonzero_zero : (a : ℕ) → first_nonzero a 0 ≡ a
nonzero_zero zero = refl
nonzero_zero (suc a) = refl

module _ (p : ℕ → Bool) where
  -- none below: the answer is 0
  pub lowest_none : (n : ℕ) → ((k : ℕ) → 0 < k → k ≤ n → p k ≡ false) → lowest p n ≡ 0
  lowest_none zero h = refl
  lowest_none (suc n) h = rw (lowest_none n (λ k a b. h k a (omega arith)), h (suc n) (omega arith) (omega arith))

  -- the answer is r: r passes and nothing below does
  pub lowest_is : (n r : ℕ) → 0 < r → r ≤ n → p r ≡ true → ((k : ℕ) → 0 < k → k < r → p k ≡ false) → lowest p n ≡ r
  lowest_is zero r a b e h = omega arith
  lowest_is (suc n) r a b e h =
      by_cases (dec_le r n)
      (λ c. rw (lowest_is n r a c e h) (nonzero_pos r _ a))
      (λ c.
      let q : r ≡ suc n = omega arith in
      rw (lowest_none n (λ k u v. h k u (omega arith))) (rw (rw q at e) (sym q)))

  cases_go : (n a : ℕ) → ((a ≡ 0) × None p n) ⊎ At p n a → (b : Bool) → p (suc n) ≡ b
      → let r = first_nonzero a (cond b (suc n) 0) in ((r ≡ 0) × None p (suc n)) ⊎ At p (suc n) r
  cases_go n a (inr h) b e = rw (nonzero_pos a (cond b (suc n) 0) h.pos)
      (inr (record { pos = h.pos; within = omega arith; passes = h.passes; below = h.below }))
  cases_go n a (inl h) true e = rw h.0 (inr
      (record { pos = omega arith; within = le_refl (suc n); passes = e; below = λ k u v. h.1.fails k u (omega arith) }))
  cases_go n a (inl h) false e =
      rw h.0 (inl (
        refl,
        record {
          fails = λ k u v.
              by_cases (dec_le k n) (λ c. h.1.fails k u c) (λ c. let q : k ≡ suc n = omega arith in rw q e);
        },
      ))

  pub lowest_cases : (n : ℕ) → ((lowest p n ≡ 0) × None p n) ⊎ At p n (lowest p n)
  lowest_cases zero = inl (refl, record { fails = λ k u v. absurd (omega arith) })
  lowest_cases (suc n) = cases_go n (lowest p n) (lowest_cases n) (p (suc n)) refl

  pub lowest-zero : (n : ℕ) → lowest p n ≡ 0 → None p n
  lowest-zero n e = ⊎_elim (λ h. h.1) (λ h. absurd (omega (arith, h.pos))) (lowest_cases n)

  pub lowest-pos : (n : ℕ) → 0 < lowest p n → At p n (lowest p n)
  lowest-pos n e = ⊎_elim (λ h. absurd (omega arith)) (λ h. h) (lowest_cases n)

  pub lowest_le : (n : ℕ) → lowest p n ≤ n
  lowest_le n = ⊎_elim (λ h. omega arith) (λ h. h.within) (lowest_cases n)

  -- one of 1..n passes: then the answer is not 0
  pub lowest_some : (n k : ℕ) → 0 < k → k ≤ n → p k ≡ true → 0 < lowest p n
  lowest_some n k a b e = ⊎_elim (λ h. absurd (true≢false (sym e ∙ h.1.fails k a b))) (λ h. h.pos) (lowest_cases n)

-- two tests that agree on 1..n
pub lowest_ext : (p q : ℕ → Bool) (n : ℕ) → ((k : ℕ) → 0 < k → k ≤ n → p k ≡ q k) → lowest p n ≡ lowest q n
lowest_ext p q zero h = refl
lowest_ext p q (suc n) h = rw (lowest_ext p q n (λ k a b. h k a (omega arith)), h (suc n) (omega arith) (le_refl (suc n)))

-- ---- what a loop that counts up from 0 needs: k of them are tried, and k + 1 is next
module _ (p : ℕ → Bool) where
  pub none_start : None p 0
  none_start = record { fails = λ k a b. absurd (omega arith) }

  pub none_more : (n : ℕ) → None p n → p (suc n) ≡ false → None p (suc n)
  none_more n h e = record { fails = λ k a b. by_cases (dec_le k n) (λ c. h.fails k a c) (λ c. let q : k ≡ suc n = omega arith in rw q e) }

  pub lowest_found : (n k : ℕ) → k < n → None p k → p (suc k) ≡ true → lowest p n ≡ suc k
  lowest_found n k l h e = lowest_is p n (suc k) (omega arith) l e (λ i a b. h.fails i a (omega arith))

  pub lowest_nothing : (n : ℕ) → None p n → lowest p n ≡ 0
  lowest_nothing n h = lowest_none p n h.fails

  -- the same as a loop has it, at `n + 1`
  pub none_next : (n : ℕ) → None p n → p (suc n) ≡ false → None p (n + 1)
  none_next n h e = rw add-one (none_more n h e)

  pub lowest_next : (n k : ℕ) → k < n → None p k → p (suc k) ≡ true → k + 1 ≡ lowest p n
  lowest_next n k l h e = add-one k ∙ sym (lowest_found n k l h e)

  pub lowest_ended : (n k : ℕ) → n ≤ k → k ≤ n → None p k → 0 ≡ lowest p n
  lowest_ended n k a b h = let q : k ≡ n = omega arith in sym (lowest_nothing n (rw q at h))

-- ---- the first test by itself, the others shifted: what a recursion from the front needs
abbrev pub shifted : ℕ → ℕ
shifted zero = 0
shifted (suc j) = suc (suc j)

shifted-pos : (j : ℕ) → 0 < j → shifted j ≡ suc j
shifted-pos zero h = absurd (omega arith)
shifted-pos (suc j) h = refl

pub lowest_shift : (p : ℕ → Bool) (n : ℕ) → p 1 ≡ false → lowest p (suc n) ≡ shifted (lowest (λ j. p (suc j)) n)
lowest_shift p n e =
    ⊎_elim
    (λ h.
    lowest_none p (suc n) (λ k a b. by_cases (dec_le k 1) (λ c. let q : k ≡ 1 = omega arith in rw q e) (λ c. let q : k ≡ suc
    (k - 1) = omega arith in ap p q ∙ h.1.fails (k - 1) (omega arith) (omega arith)))
    ∙ ap shifted (sym h.0))
    (λ h.
    lowest_is p (suc n) (suc (lowest (λ j. p (suc j)) n)) (omega arith) (suc-le-suc h.within) h.passes
    (λ k a b. by_cases (dec_le k 1) (λ c. let q : k ≡ 1 = omega arith in rw q e)
    (λ c. let q : k ≡ suc (k - 1) = omega arith in ap p q ∙ h.below (k - 1) (omega arith) (omega arith)))
    ∙ sym (shifted-pos _ h.pos))
    (lowest_cases (λ j. p (suc j)) n)

-- ---- what can be told of each of 1..n: it holds of one, or of none
pub some_or_none : (P : ℕ → Type 0) (n : ℕ) → ((k : ℕ) → In n k → P k ⊎ (P k → ⊥)) → ((k : ℕ) × In n k × P k) ⊎ Each n (λ k. P k → ⊥)
some_or_none P zero d = inr (λ k i. absurd (omega (arith, i.0, i.1)))
some_or_none P (suc n) d =
    ⊎_elim
    (λ w. inl (w.0, (w.1.0, omega (arith, w.1.1)), w.2))
    (λ w.
    ⊎_elim (λ p. inl (suc n, (omega arith, le_refl (suc n)), p))
    (λ p. inr (λ k i. by_cases (dec_le k n) (λ c. w k (i.0, c)) (λ c. let q : k ≡ suc n = omega (arith, i.1) in rw q p)))
    (d (suc n) (omega arith, le_refl (suc n))))
    (some_or_none P n (λ k i. d k (i.0, omega (arith, i.1))))
