-- Numbers of which none is below the one before it cut what lies between the first and the last into parts.
use mathlib.Core.Path.{◌≡◌}
use mathlib.Core.Logic.{by_cases}
use Prim.Native.Nat.{ℕ, zero, suc, pred, ◌≤◌, ◌<◌}
use native.Mathlib.Decide.{dec_le, dec_lt}
use native.Mathlib.Omega.{arith}
use Rattle.laws.specs.Lowest.{In}
use Rattle.laws.specs.Partition.{LiesIn, Partition}

module _ (g : ℕ → ℕ) where
  rising : (n : ℕ) → ((k : ℕ) → k < n → g k ≤ g (suc k)) → (i j : ℕ) → i ≤ j → j ≤ n → g i ≤ g j
  rising n h i zero a b = let q : i ≡ 0 = omega arith in rw q (omega arith)
  rising n h i (suc j) a b =
      by_cases (dec_le i j)
      (λ c. omega (arith, rising n h i j c (omega arith), h j b))
      (λ c. let q : i ≡ suc j = omega arith in rw q (omega arith))

  part_of : (n p : ℕ) → g 0 ≤ p → p < g n → (i : ℕ) × In n i × LiesIn g i p
  part_of zero p a b = absurd (omega arith)
  part_of (suc n) p a b =
      by_cases (dec_lt p (g n))
      (λ c. let w = part_of n p a c in (w.0, (w.1.0, omega (arith, w.1.1)), w.2))
      (λ c. (suc n, (omega arith, omega arith), (omega arith, b)))

  pub partition : (n first end : ℕ) → g 0 ≡ first → ((k : ℕ) → k < n → g k ≤ g (suc k)) → g n ≡ end → Partition g n first end
  partition n first end u h v = record {
    begins = u;
    rises = rising n h;
    ends = v;
    covered = λ p a b. part_of n p (omega arith) (omega arith);
    once = λ p i j a b x y.
        by_cases (dec_lt i j) (λ c. absurd (omega (arith, rising n h i (pred j) (omega arith) (omega (arith, b.1)), x.1, y.0)))
        (λ c. by_cases (dec_lt j i) (λ d. absurd (omega
        (arith, rising n h j (pred i) (omega arith) (omega (arith, a.1)), y.1, x.0))) (λ d. omega arith));
  }
