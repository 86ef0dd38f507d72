-- What a loop leaves in a buffer of marks, one for each of 1..n: counts of predecessors, a painted walk, owners.
use Rattle.std.specs.Prelude.{Bool, cond, List, ℕ, suc, pred, min, ltb, get_or}
use Rattle.laws.specs.Sums.{hits}
use Rattle.laws.specs.Orbit.{meets, owner}

abbrev pub zeros : ℕ → ℕ
zeros k = 0

-- the counts of i sides, up to two, at place k
abbrev pub count : (ℕ → ℕ) → ℕ → ℕ → ℕ
count f i k = min 2 (hits f i (suc k))

-- the marks d after i moves from a are painted with row
abbrev pub painted : (ℕ → ℕ) → List ℕ → ℕ → ℕ → ℕ → ℕ → ℕ
painted f d a row i j = cond (meets f i a (suc j)) row (get_or d j 0)

-- ---- the owners
-- the owner of the side at place k after r rows
abbrev pub owner_at : (ℕ → ℕ) → ℕ → (ℕ → ℕ) → ℕ → ℕ → ℕ
owner_at f n st r k = owner f n st r (suc k)

-- the test of a row: an earlier walk meets its start
abbrev pub already_met : (ℕ → ℕ) → ℕ → (ℕ → ℕ) → ℕ → Bool
already_met f n st r = ltb 0 (owner f n st (pred r) (st r))
