-- What `decimal` writes: digits alone, that say the number, the first of them no 0 but of the number 0.
use mathlib.Core.Path.{◌≡◌, refl, ap, ◌∙◌}
use mathlib.Core.Logic.{by_cases}
use mathlib.Core.List.{List, [], ◌∷◌, ◌++◌}
use Prim.Native.Nat.{ℕ, zero, suc, ◌+◌, ◌*◌, ◌-◌, ◌/◌, ◌%◌, ◌^◌, ◌≤◌, ◌<◌}
use native.Mathlib.Decide.{dec_lt}
use native.Mathlib.Omega.{arith}
use lib.ListN.{length, get_or, length-append, get_or-append}
use lib.Seq.{get_or_at}
use Rattle.report.specs.Text.{digit, spelled, most_digits, decimal}
use Rattle.report.proofs.DecimalLaws.{spelled_one, spelled_more, tenth_below}

-- the number that digits say, on top of `acc`
abbrev pub said : ℕ → List ℕ → ℕ
said acc [] = acc
said acc (d ∷ l) = said (acc * 10 + (d - 48)) l

-- digits behind others say on top of what those said
says_append : (a b : List ℕ) (acc : ℕ) → said acc (a ++ b) ≡ said (said acc a) b
says_append [] b acc = refl
says_append (d ∷ a) b acc = says_append a b (acc * 10 + (d - 48))

one_says : (m n : ℕ) → n < 10 → said 0 (spelled (suc m) n) ≡ n
one_says m n h =
    let q : 0 * 10 + (digit n - 48) ≡ n = omega arith in
    ap (said 0) (spelled_one m n h) ∙ q

spelled_says : (m n : ℕ) → n < 10 ^ suc m → said 0 (spelled (suc m) n) ≡ n
spelled_says zero n h = one_says 0 n h
spelled_says (suc m) n h =
    by_cases (dec_lt n 10) (one_says (suc m) n)
    (λ c.
    let q : n / 10 * 10 + (digit (n % 10) - 48) ≡ n = omega arith in
    ap (said 0) (spelled_more (suc m) n (omega arith))
    ∙ says_append (spelled (suc m) (n / 10)) (digit (n % 10) ∷ []) 0
    ∙ ap (λ (k : ℕ). k * 10 + (digit (n % 10) - 48)) (spelled_says m (n / 10) (tenth_below (suc m) n h))
    ∙ q)

-- THE DIGITS SAY THE NUMBER
pub decimal_says : (n : ℕ) → n < 10 ^ most_digits → said 0 (decimal n) ≡ n
unfolding decimal
decimal_says n h = spelled_says 19 n h

-- ---- digits, and no zero in front
abbrev pub IsDigit : ℕ → Type 0
IsDigit b = (48 ≤ b) × (b ≤ 57)

spelled_some : (m n : ℕ) → 0 < length (spelled (suc m) n)
spelled_some m n =
    by_cases (dec_lt n 10)
    (λ c. rw (spelled_one m n c) (omega arith))
    (λ c. rw (spelled_more m n (omega arith)) (simp length-append (omega arith)))

spelled_digits : (m n k : ℕ) → k < length (spelled m n) → IsDigit (get_or (spelled m n) k 0)
spelled_digits zero n k h = absurd (omega arith)
spelled_digits (suc m) n k h =
    by_cases (dec_lt n 10)
    (λ c. let e = spelled_one m n c in rw e (alone c (rw e at h)))
    (λ c. let e = spelled_more m n (omega arith) in rw e (behind (spelled m (n / 10)) (λ j. spelled_digits m (n / 10) j) (rw e at h)))
  where
    alone : n < 10 → k < length (digit n ∷ []) → IsDigit (get_or (digit n ∷ []) k 0)
    alone c h = let q : k ≡ 0 = omega arith in rw q (omega arith, omega arith)

    behind : (l : List ℕ) → ((j : ℕ) → j < length l → IsDigit (get_or l j 0)) → k < length (l ++ (digit (n % 10) ∷ []))
        → IsDigit (get_or (l ++ (digit (n % 10) ∷ [])) k 0)
    behind l all h =
        by_cases (dec_lt k (length l))
        (λ c. rw (get_or-append l (digit (n % 10) ∷ []) 0 k c) (all k c))
        (λ c.
        let q : length l ≡ k = omega (arith, simp length-append at h) in
        rw (get_or_at l (digit (n % 10)) [] 0 k q) (omega arith, omega arith))

one_first : (m n : ℕ) → 0 < n → n < 10 → 48 < get_or (spelled (suc m) n) 0 0
one_first m n u h = rw (spelled_one m n h) (omega arith)

spelled_first : (m n : ℕ) → 0 < n → n < 10 ^ suc m → 48 < get_or (spelled (suc m) n) 0 0
spelled_first zero n u h = one_first 0 n u h
spelled_first (suc m) n u h =
    by_cases (dec_lt n 10) (one_first (suc m) n u)
    (λ c.
    rw (
      spelled_more (suc m) n (omega arith),
      get_or-append (spelled (suc m) (n / 10)) (digit (n % 10) ∷ []) 0 0 (spelled_some m (n / 10)),
    )
    (spelled_first m (n / 10) (omega arith) (tenth_below (suc m) n h)))

pub digits_alone : (n k : ℕ) → k < length (decimal n) → IsDigit (get_or (decimal n) k 0)
unfolding decimal
digits_alone n k h = spelled_digits most_digits n k h

-- NO ZERO IN FRONT
pub no_zero_in_front : (n : ℕ) → 0 < n → n < 10 ^ most_digits → 48 < get_or (decimal n) 0 0
unfolding decimal
no_zero_in_front n u h = spelled_first 19 n u h

pub zero_is_one_digit : decimal 0 ≡ digit 0 ∷ []
unfolding decimal
zero_is_one_digit = refl
