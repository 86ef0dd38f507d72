-- Decimal digits: one digit below ten, and else the digits of the tenth with the last one behind them; never more than 20 of them.
use mathlib.Core.Path.{◌≡◌, sym, ap, ◌∙◌}
use mathlib.Core.Logic.{by_cases}
use mathlib.Core.List.{List, [], ◌∷◌, ◌++◌}
use Prim.Native.Nat.{ℕ, zero, suc, ◌+◌, ◌*◌, ◌/◌, ◌%◌, ◌^◌, ◌≤◌, ◌<◌}
use native.Mathlib.Decide.{dec_lt}
use native.Mathlib.Nat.{pow-suc}
use native.Mathlib.Omega.{arith}
use borrow.Author.Tests.{lt-ltb, le-ltb}
use lib.ListN.{length, length-append}
use Rattle.report.specs.Text.{digit, spelled, most_digits, decimal}

pub spelled_one : (most n : ℕ) → n < 10 → spelled (suc most) n ≡ digit n ∷ []
spelled_one most n h = rw (lt-ltb n 10 h)

pub spelled_more : (most n : ℕ) → 10 ≤ n → spelled (suc most) n ≡ spelled most (n / 10) ++ (digit (n % 10) ∷ [])
spelled_more most n h = rw (le-ltb n 10 h)

pub tenth_below : (m n : ℕ) → n < 10 ^ suc m → n / 10 < 10 ^ m
tenth_below m n h = omega (arith, pow-suc 10 m)

-- room for a digit more changes nothing where there is room enough
spelled_enough : (m n : ℕ) → n < 10 ^ suc m → spelled (suc m) n ≡ spelled (suc (suc m)) n
spelled_enough zero n h = let u : n < 10 = h in spelled_one 0 n u ∙ sym (spelled_one 1 n u)
spelled_enough (suc m) n h =
    by_cases (dec_lt n 10)
    (λ c. spelled_one (suc m) n c ∙ sym (spelled_one (suc (suc m)) n c))
    (λ c.
    spelled_more (suc m) n (omega arith)
    ∙ ap (λ (l : List ℕ). l ++ (digit (n % 10) ∷ [])) (spelled_enough m (n / 10) (tenth_below (suc m) n h))
    ∙ sym (spelled_more (suc (suc m)) n (omega arith)))

pub spelled_short : (most n : ℕ) → length (spelled most n) ≤ most
spelled_short zero n = omega arith
spelled_short (suc most) n =
    by_cases (dec_lt n 10)
    (λ c. rw (spelled_one most n c) (omega arith))
    (λ c. rw (spelled_more most n (omega arith)) (simp length-append (omega (arith, spelled_short most (n / 10)))))

-- a number of so many digits has no more
spelled_few : (most m n : ℕ) → n < 10 ^ suc m → length (spelled most n) ≤ suc m
spelled_few zero m n h = omega arith
spelled_few (suc most) zero n h = rw (spelled_one most n h) (omega arith)
spelled_few (suc most) (suc m) n h =
    by_cases (dec_lt n 10)
    (λ c. rw (spelled_one most n c) (omega arith))
    (λ c. rw (spelled_more most n (omega arith)) (simp length-append (omega (arith, spelled_few most m (n / 10) (tenth_below (suc m) n h)))))

-- ---- of a number as the lines have it
pub decimal_one : (n : ℕ) → n < 10 → decimal n ≡ digit n ∷ []
unfolding decimal
decimal_one n h = spelled_one 19 n h

pub decimal_more : (n : ℕ) → 10 ≤ n → n < 10 ^ most_digits → decimal n ≡ decimal (n / 10) ++ (digit (n % 10) ∷ [])
unfolding decimal
decimal_more n h u =
    spelled_more 19 n h ∙ ap (λ (l : List ℕ). l ++ (digit (n % 10) ∷ [])) (spelled_enough 18 (n / 10) (tenth_below 19 n u))

pub decimal_short : (n : ℕ) → length (decimal n) ≤ most_digits
unfolding decimal
decimal_short n = spelled_short most_digits n

pub decimal_few : (m n : ℕ) → n < 10 ^ suc m → length (decimal n) ≤ suc m
unfolding decimal
decimal_few m n h = spelled_few most_digits m n h

-- the length of a number is that of its tenth and one more
pub decimal_longer : (n : ℕ) → 10 ≤ n → n < 10 ^ most_digits → length (decimal n) ≡ length (decimal (n / 10)) + 1
decimal_longer n h u = ap length (decimal_more n h u) ∙ length-append (decimal (n / 10)) (digit (n % 10) ∷ [])
