-- Numbers that do not fall, g 0 to g n, cut what lies from the first to the last into n parts: part i is from g (i - 1) to g i.
use Rattle.std.specs.Prelude.{◌≡◌, ℕ, pred, ◌≤◌, ◌<◌}
use Rattle.laws.specs.Lowest.{In}

-- p lies in part i
abbrev pub LiesIn : (ℕ → ℕ) → ℕ → ℕ → Type 0
LiesIn g i p = (g (pred i) ≤ p) × (p < g i)

pub record Partition (g : ℕ → ℕ) (n first end : ℕ) : Type 0 where
  pub begins : g 0 ≡ first
  pub rises : (i j : ℕ) → i ≤ j → j ≤ n → g i ≤ g j
  pub ends : g n ≡ end
  -- each number from the first on and before the last lies in a part, and in no other
  pub covered : (p : ℕ) → first ≤ p → p < end → (i : ℕ) × In n i × LiesIn g i p
  pub once : (p i j : ℕ) → In n i → In n j → LiesIn g i p → LiesIn g j p → i ≡ j
