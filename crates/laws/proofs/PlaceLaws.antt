-- What stands at a place of a text: `drop p s` is the text from the place p on.
use mathlib.Core.Path.{◌≡◌, sym, ap, ◌∙◌}
use mathlib.Core.List.{List, [], ◌∷◌, ◌++◌}
use Prim.Native.Nat.{ℕ, zero, suc, ◌+◌, ◌-◌, ◌≤◌, ◌<◌}
use native.Mathlib.Omega.{arith}
use native.Mathlib.Nat.{add-zero, sub-zero, zero-sub, suc-sub-suc}
use lib.ListN.{length, get_or, take, drop, length-append, length-drop, drop_of_length-le}
use lib.Seq.{take_all, take-nil, drop-nil, drop-drop, drop-append_seam, take-append_seam, get_or-drop}

module _ (s : List ℕ) (p : ℕ) where
  -- a text with a byte stands inside
  pub stands_inside : (x : ℕ) (t : List ℕ) → drop p s ≡ x ∷ t → p < length s
  stands_inside x t e = omega (arith, length-drop p s, ap length e)

  pub stands_room : (xs t : List ℕ) → drop p s ≡ xs ++ t → length xs + length t ≡ length s - p
  stands_room xs t e = omega (arith, length-drop p s, ap length e, length-append xs t)

  -- the byte itself, and what follows it
  pub stands_byte : (x : ℕ) (t : List ℕ) → drop p s ≡ x ∷ t → get_or s p 0 ≡ x
  stands_byte x t e = ap (λ (k : ℕ). get_or s k 0) (sym (add-zero p)) ∙ sym (get_or-drop p s 0 0) ∙ ap (λ (l : List ℕ). get_or l 0 0) e

  -- what follows, and the part that it follows
  pub stands_past : (xs t : List ℕ) → drop p s ≡ xs ++ t → drop (p + length xs) s ≡ t
  stands_past xs t e = sym (drop-drop (length xs) p s) ∙ ap (drop (length xs)) e ∙ drop-append_seam xs t

  pub stands_next : (x : ℕ) (t : List ℕ) → drop p s ≡ x ∷ t → drop (p + 1) s ≡ t
  stands_next x t e = stands_past (x ∷ []) t e

  pub stands_part : (xs t : List ℕ) → drop p s ≡ xs ++ t → take (length xs) (drop p s) ≡ xs
  stands_part xs t e = ap (take (length xs)) e ∙ take-append_seam xs t

-- what stands at a place of the first m bytes
pub drop-take : (n m : ℕ) (s : List ℕ) → drop n (take m s) ≡ take (m - n) (drop n s)
drop-take zero m s = rw (sub-zero m)
drop-take (suc n) zero s = rw (zero-sub (suc n)) (drop-nil (suc n))
drop-take (suc n) (suc m) [] = rw (suc-sub-suc m n) (sym (take-nil (m - n)))
drop-take (suc n) (suc m) (x ∷ s) = rw (suc-sub-suc m n) (drop-take n m s)

-- ---- the part of n bytes from a place on, cut where the text ends
module _ (s : List ℕ) (p n : ℕ) where
  pub part_beyond : length s ≤ p → [] ≡ take n (drop p s)
  part_beyond h = rw (drop_of_length-le s {i = p} h) (sym (take-nil n))

  pub part_cut : length s - p ≤ n → take (length s - p) (drop p s) ≡ take n (drop p s)
  part_cut h = take_all (length s - p) (drop p s) (rw (length-drop p s) (omega arith)) ∙ sym (take_all n (drop p s) (rw (length-drop p s) h))

  pub part_whole : take (p + n - p) (drop p s) ≡ take n (drop p s)
  part_whole = let q : p + n - p ≡ n = omega arith in rw q
