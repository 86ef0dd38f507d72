-- Sums over 1..n: two orders of summing, sums of tests, and the pigeonhole.
use mathlib.Core.Path.{◌≡◌, refl, sym, ap, ◌∙◌}
use mathlib.Core.Logic.{by_cases, ⊎_elim}
use mathlib.Core.Bool.{Bool, true, false}
use Prim.Native.Nat.{ℕ, zero, suc, ◌+◌, ◌≤◌, ◌<◌}
use native.Mathlib.Nat.{le_refl}
use native.Mathlib.Decide.{dec_le, dec_lt}
use native.Mathlib.Omega.{arith}
use borrow.Author.Tests.{eqb-true, eq-eqb}
use lib.Dec.{eqb}
use Rattle.laws.specs.Lowest.{lowest}
use Rattle.laws.specs.Sums.{bit, sum, hits, Inj, Into}
use Rattle.laws.proofs.LowestLaws.{bool_cases, lowest_cases}

pub sum_ext : (g h : ℕ → ℕ) (n : ℕ) → ((k : ℕ) → 0 < k → k ≤ n → g k ≡ h k) → sum g n ≡ sum h n
sum_ext g h zero e = refl
sum_ext g h (suc n) e = rw (sum_ext g h n (λ k a b. e k a (omega arith)), e (suc n) (omega arith) (le_refl (suc n)))

pub sum_le : (g h : ℕ → ℕ) (n : ℕ) → ((k : ℕ) → 0 < k → k ≤ n → g k ≤ h k) → sum g n ≤ sum h n
sum_le g h zero e = le_refl 0
sum_le g h (suc n) e = omega (arith, sum_le g h n (λ k a b. e k a (omega arith)), e (suc n) (omega arith) (le_refl (suc n)))

-- no one of them is more than all
pub sum_part : (g : ℕ → ℕ) (n k : ℕ) → 0 < k → k ≤ n → g k ≤ sum g n
sum_part g zero k a b = absurd (omega arith)
sum_part g (suc n) k a b =
    by_cases (dec_le k n) (λ c. omega (arith, sum_part g n k a c))
    (λ c. let e : k ≡ suc n = omega arith in rw e (omega arith))

-- the first k of them are not more than all
pub sum_first : (g : ℕ → ℕ) (n k : ℕ) → k ≤ n → sum g k ≤ sum g n
sum_first g zero k b = let e : k ≡ 0 = omega arith in rw e (le_refl 0)
sum_first g (suc n) k b =
    by_cases (dec_le k n) (λ c. omega (arith, sum_first g n k c))
    (λ c. let e : k ≡ suc n = omega arith in rw e (le_refl (sum g (suc n))))

pub sum_ones : (n : ℕ) → sum (λ k. 1) n ≡ n
sum_ones zero = refl
sum_ones (suc n) = omega (arith, sum_ones n)

pub sum_zeros : (n : ℕ) → sum (λ k. 0) n ≡ 0
sum_zeros zero = refl
sum_zeros (suc n) = omega (arith, sum_zeros n)

pub sum_add : (g h : ℕ → ℕ) (n : ℕ) → sum (λ k. g k + h k) n ≡ sum g n + sum h n
sum_add g h zero = refl
sum_add g h (suc n) = omega (arith, sum_add g h n)

pub sum_swap : (g : ℕ → ℕ → ℕ) (m n : ℕ) → sum (λ i. sum (λ j. g i j) n) m ≡ sum (λ j. sum (λ i. g i j) m) n
sum_swap g zero n = sym (sum_zeros n)
sum_swap g (suc m) n = ap (λ (x : ℕ). x + sum (λ j. g (suc m) j) n) (sum_swap g m n)
    ∙ sym (sum_add (λ j. sum (λ i. g i j) m) (λ j. g (suc m) j) n)

-- each at most 1, and all of them n: each is 1
pub sum_full : (g : ℕ → ℕ) (n : ℕ) → ((k : ℕ) → 0 < k → k ≤ n → g k ≤ 1) → n ≤ sum g n → (k : ℕ) → 0 < k → k ≤ n → g k ≡ 1
sum_full g zero h e k a b = absurd (omega arith)
sum_full g (suc n) h e k a b =
    let l : sum g n ≤ n = omega (arith, sum_le g (λ k. 1) n (λ k a b. h k a (omega arith)), sum_ones n) in
    let o = h (suc n) (omega arith) (le_refl (suc n)) in
    by_cases (dec_le k n)
    (λ c. sum_full g n (λ k a b. h k a (omega arith)) (omega arith) k a c)
    (λ c. let q : k ≡ suc n = omega arith in rw q (omega arith))

-- ---- tests
module _ (p : ℕ → Bool) where
  pub sum_none : (n : ℕ) → ((k : ℕ) → 0 < k → k ≤ n → p k ≡ false) → sum (λ k. bit (p k)) n ≡ 0
  sum_none n h = sum_ext (λ k. bit (p k)) (λ k. 0) n (λ k a b. ap bit (h k a b)) ∙ sum_zeros n

  -- exactly one passes
  pub sum_one : (n a : ℕ) → 0 < a → a ≤ n → p a ≡ true → ((k : ℕ) → 0 < k → k ≤ n → p k ≡ true → k ≡ a) → sum (λ k. bit (p k)) n ≡ 1
  sum_one zero a u v e h = absurd (omega arith)
  sum_one (suc n) a u v e h =
      by_cases (dec_le a n)
      (λ c.
      let f : p (suc n) ≡ false = bool_cases (p (suc n)) (λ t. absurd (omega (arith, h (suc n) (omega arith) (le_refl (suc n)) t))) (λ t. t) in
      rw f (omega (arith, sum_one n a u c e (λ k u v. h k u (omega arith)))))
      (λ c.
      let q : a ≡ suc n = omega arith in
      rw (rw q at e) (omega (arith, sum_none n (λ k u v. bool_cases (p k) (λ t. absurd (omega (arith, h k u (omega arith) t))) (λ t. t)))))

  pub sum_most : (n : ℕ) → ((i j : ℕ) → 0 < i → i ≤ n → 0 < j → j ≤ n → p i ≡ true → p j ≡ true → i ≡ j) → sum (λ k. bit (p k)) n ≤ 1
  sum_most n h =
      ⊎_elim
      (λ c. omega (arith, sum_none n c.1.fails))
      (λ c. omega (
        arith,
        sum_one n (lowest p n) c.pos c.within c.passes
            (λ k u v t. h k (lowest p n) u v c.pos c.within t c.passes),
      ))
      (lowest_cases p n)

-- a is one of 1..n
pub sum_delta : (n a : ℕ) → 0 < a → a ≤ n → sum (λ k. bit (eqb k a)) n ≡ 1
sum_delta n a u v = sum_one (λ k. eqb k a) n a u v (eq-eqb a a refl) (λ k b c t. eqb-true k a t)

-- summed over all of 1..n that is m, if f goes into 1..n
pub sum-hits : (f : ℕ → ℕ) (m n : ℕ) → ((k : ℕ) → 0 < k → k ≤ m → (0 < f k) × (f k ≤ n)) → sum (hits f m) n ≡ m
sum-hits f m n h =
    sym (sum_swap (λ j s. bit (eqb s (f j))) m n)
    ∙ sum_ext (λ j. sum (λ s. bit (eqb s (f j))) n) (λ j. 1) m (λ k a b. sum_delta n (f k) (h k a b).0 (h k a b).1)
    ∙ sum_ones m

pub hits_le : (f : ℕ → ℕ) (m : ℕ) → Inj f m → (s : ℕ) → hits f m s ≤ 1
hits_le f m h s = sum_most (λ j. eqb s (f j)) m (λ i j a b c d t u. h i j a b c d (sym (eqb-true s (f i) t) ∙ eqb-true s (f j) u))

-- THE PIGEONHOLE
pub pigeon : (f : ℕ → ℕ) (m n : ℕ) → Into f m n → Inj f m → m ≤ n
pigeon f m n g h = omega (arith, sum-hits f m n g, sum_le (hits f m) (λ s. 1) n (λ s a b. hits_le f m h s), sum_ones n)

-- an injective map of 1..n into itself meets each exactly once
pub hits_one : (f : ℕ → ℕ) (n : ℕ) → Into f n n → Inj f n → (s : ℕ) → 0 < s → s ≤ n → hits f n s ≡ 1
hits_one f n g h = sum_full (hits f n) n (λ s a b. hits_le f n h s) (omega (arith, sum-hits f n n g))

-- one that passes counts, and two count twice
sum_some : (p : ℕ → Bool) (n i : ℕ) → 0 < i → i ≤ n → p i ≡ true → 1 ≤ sum (λ k. bit (p k)) n
sum_some p zero i a b e = absurd (omega arith)
sum_some p (suc n) i a b e =
    by_cases (dec_le i n) (λ c. omega (arith, sum_some p n i a c e))
    (λ c. let q : i ≡ suc n = omega arith in rw (rw q at e) (omega arith))

sum_two : (p : ℕ → Bool) (n i j : ℕ) → 0 < i → i < j → j ≤ n → p i ≡ true → p j ≡ true → 2 ≤ sum (λ k. bit (p k)) n
sum_two p zero i j a b c d e = absurd (omega arith)
sum_two p (suc n) i j a b c d e =
    by_cases (dec_le j n) (λ l. omega (arith, sum_two p n i j a b l d e))
    (λ l. let q : j ≡ suc n = omega arith in rw (rw q at e) (omega (arith, sum_some p n i a (omega arith) d)))

-- a value met at most once has at most one place
pub hits_single : (f : ℕ → ℕ) (m s : ℕ) → hits f m s ≤ 1 → (i j : ℕ) → 0 < i → i ≤ m → 0 < j → j ≤ m → f i ≡ s → f j ≡ s → i ≡ j
hits_single f m s h i j a b c d u v =
    by_cases (dec_lt i j)
    (λ l. absurd (omega (arith, sum_two (λ k. eqb s (f k)) m i j a l d (eq-eqb s (f i) (sym u)) (eq-eqb s (f j) (sym v)))))
    (λ l.
    by_cases (dec_lt j i)
    (λ k. absurd (omega (arith, sum_two (λ k. eqb s (f k)) m j i c k b (eq-eqb s (f j) (sym v)) (eq-eqb s (f i) (sym u)))))
    (λ k. omega arith))

-- and one that is met has a place
pub hits_some : (f : ℕ → ℕ) (m s : ℕ) → 0 < hits f m s → (j : ℕ) × (0 < j) × (j ≤ m) × (f j ≡ s)
hits_some f m s h =
    ⊎_elim
    (λ c. absurd (omega (arith, sum_none (λ j. eqb s (f j)) m c.1.fails)))
    (λ c. (lowest (λ j. eqb s (f j)) m, c.pos, c.within, sym (eqb-true s _ c.passes)))
    (lowest_cases (λ j. eqb s (f j)) m)

-- no value met twice: the map is injective
pub inj_of : (f : ℕ → ℕ) (m n : ℕ) → Into f m n → ((s : ℕ) → 0 < s → s ≤ n → hits f m s ≤ 1) → Inj f m
inj_of f m n g h i j a b c d e = hits_single f m (f j) (h (f j) (g j c d).0 (g j c d).1) i j a b c d e refl
