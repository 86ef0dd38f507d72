-- A count of at most five bytes: one turn of its loop, and how great it can be.
use mathlib.Core.Path.{◌≡◌, ◌∙◌}
use mathlib.Core.Logic.{by_cases}
use mathlib.Core.List.{List, [], ◌∷◌}
use Prim.Native.Nat.{ℕ, suc, min, ◌+◌, ◌-◌, ◌*◌, ◌≤◌, ◌<◌}
use native.Mathlib.Omega.{arith}
use native.Mathlib.Nat.{mul-le-mul, min-eq_left, min-eq_right, le_of_lt}
use native.Mathlib.Numerals.{add-one}
use native.Mathlib.Decide.{dec_lt}
use lib.ListN.{length, get_or, take, drop, length-take, get_or-eq_default}
use lib.Seq.{drop-cons, take-take, take_all, get_or-take, get_or-drop}
use Rattle.number.specs.Bytes.{AreBytes}
use Rattle.header.specs.Places.{decimal, count_of}
use Rattle.field.specs.Fields.{widest, most_count}
use Rattle.header.specs.Serving.Stages.{greatest_count, sound_size}

-- digits only make a number greater
decimal_above : (n : ℕ) (l : List ℕ) → n ≤ decimal n l
decimal_above n [] = omega arith
decimal_above n (d ∷ l) = omega (arith, decimal_above (n * 10 + (d - 48)) l)

decimal_most : (l : List ℕ) → length l ≤ 5 → AreBytes l → decimal 0 l ≤ greatest_count
decimal_most [] h b = omega arith
decimal_most (v ∷ []) h b = omega (arith, b 0)
decimal_most (v ∷ w ∷ []) h b = omega (arith, b 0, b 1)
decimal_most (v ∷ w ∷ x ∷ []) h b = omega (arith, b 0, b 1, b 2)
decimal_most (v ∷ w ∷ x ∷ y ∷ []) h b = omega (arith, b 0, b 1, b 2, b 3)
decimal_most (v ∷ w ∷ x ∷ y ∷ z ∷ []) h b = omega (arith, b 0, b 1, b 2, b 3, b 4)
decimal_most (v ∷ w ∷ x ∷ y ∷ z ∷ u ∷ l) h b = absurd (omega arith)

bytes_part : (s : List ℕ) (p n : ℕ) → AreBytes s → AreBytes (take n (drop p s))
bytes_part s p n b k =
    by_cases (dec_lt k n)
    (λ c. rw (get_or-take n (drop p s) k 0 c, get_or-drop p s k 0) (b (p + k)))
    (λ c. rw (get_or-eq_default (take n (drop p s)) 0 {n = k} (omega (arith, length-take n (drop p s)))) (omega arith))

module _ (s : List ℕ) (p e : ℕ) where
  -- one digit more
  pub decimal_next : (i n : ℕ) → i < e → e ≤ length s
      → decimal n (take (e - i) (drop i s)) ≡ decimal (n * 10 + (get_or s i 0 - 48)) (take (e - (i + 1)) (drop (i + 1) s))
  decimal_next i n h l = let q : e - i ≡ suc (e - (i + 1)) = omega arith in rw (drop-cons s i 0 (omega arith), q, add-one i)

  pub decimal_done : (i n : ℕ) → e ≤ i → n ≡ decimal n (take (e - i) (drop i s))
  decimal_done i n h = let z : e - i ≡ 0 = omega arith in rw z

  -- what was read of a number is no greater than five bytes can say
  pub decimal_bound : (i n : ℕ) → AreBytes s → e ≤ p + 5
      → decimal n (take (e - i) (drop i s)) ≡ decimal 0 (take (e - p) (drop p s)) → n ≤ greatest_count
  decimal_bound i n b h q =
      omega (
        arith,
        q,
        decimal_above n (take (e - i) (drop i s)),
        decimal_most (take (e - p) (drop p s)) (omega (arith, length-take (e - p) (drop p s))) (bytes_part s p (e - p) b),
      )

  -- at most five bytes count
  pub count_cut : (m : ℕ) → m ≡ min e (p + 5) → decimal 0 (take (m - p) (drop p s)) ≡ count_of s p e
  unfolding count_of
  count_cut m h =
      by_cases (dec_lt (p + 5) e)
      (λ c. let q : m - p ≡ 5 = omega (arith, h ∙ min-eq_right (le_of_lt c)) in rw (q, take-take 5 (e - p) (drop p s) (omega arith)))
      (λ c.
      let q : m ≡ e = h ∙ min-eq_left (omega arith) in
      rw (q, take_all 5 (take (e - p) (drop p s)) (omega (arith, length-take (e - p) (drop p s)))))

-- a count of elements, none wider than the widest
pub size_room : (n w : ℕ) → n ≤ most_count → w ≤ widest → n * w ≤ sound_size
size_room n w l h = mul-le-mul {n₂ = most_count} {m₂ = widest} l h
