-- Walks along a function on the places 1..n: iterates, the first return, the places met, and the rows that own them. A row starts at one
-- of the places, or has no start, which is 0: then its walk has no move, and it owns nothing.
use Rattle.std.specs.Prelude.{Bool, false, cond, List, ◌∷◌, ℕ, zero, suc, pred, ◌≤◌, ◌<◌, eqb, ltb, get_or}
use Rattle.laws.specs.Lowest.{lowest}
use Rattle.laws.specs.Sums.{hits}

-- entry s of a list, counted from 1; 0 for 0 and past the last
abbrev pub entry : List ℕ → ℕ → ℕ
entry l s = get_or (0 ∷ l) s 0

-- f applied k times to s
abbrev pub iterate : (ℕ → ℕ) → ℕ → ℕ → ℕ
iterate f zero s = s
iterate f (suc k) s = f (iterate f k s)

-- the number of moves until s returns, if that is one of 1..n, else 0
abbrev pub first_return : (ℕ → ℕ) → ℕ → ℕ → ℕ
first_return f n s = lowest (λ k. eqb (iterate f k s) s) n

-- s is met on the walk from a, within n moves
abbrev pub meets : (ℕ → ℕ) → ℕ → ℕ → ℕ → Bool
meets f n a s = ltb 0 (lowest (λ k. eqb (iterate f k a) s) n)

-- ---- rows; st gives the start of a row, or 0 where it has none

-- the starts of the rows 1..R are among 1..n, or 0
abbrev pub Starts : ℕ → (ℕ → ℕ) → ℕ → Type 0
Starts n st R = (r : ℕ) → 0 < r → r ≤ R → st r ≤ n

-- the number of moves of row r's walk until its start returns: none where it has no start
abbrev pub row_moves : (ℕ → ℕ) → ℕ → (ℕ → ℕ) → ℕ → ℕ
row_moves f n st r = cond (eqb (st r) 0) 0 (first_return f n (st r))

-- s is met on row r's walk, within n moves: none is where it has no start
abbrev pub row_meets : (ℕ → ℕ) → ℕ → (ℕ → ℕ) → ℕ → ℕ → Bool
row_meets f n st s r = cond (eqb (st r) 0) false (meets f n (st r) s)

-- the lowest of the rows 1..r whose walk meets s, or 0
abbrev pub owner : (ℕ → ℕ) → ℕ → (ℕ → ℕ) → ℕ → ℕ → ℕ
owner f n st r s = lowest (row_meets f n st s) r

-- the lowest of the rows 1..R whose start an earlier row's walk meets, or 0
abbrev pub first_taken : (ℕ → ℕ) → ℕ → (ℕ → ℕ) → ℕ → ℕ
first_taken f n st R = lowest (λ r. ltb 0 (owner f n st (pred r) (st r))) R

-- the lowest of 1..n that no row's walk meets, or 0
abbrev pub first_unmet : (ℕ → ℕ) → ℕ → (ℕ → ℕ) → ℕ → ℕ
first_unmet f n st R = lowest (λ s. eqb (owner f n st R s) 0) n

-- the lowest of 1..n that more than one of 1..n is followed by, or 0
abbrev pub first_doubled : (ℕ → ℕ) → ℕ → ℕ
first_doubled f n = lowest (λ s. ltb 1 (hits f n s)) n
