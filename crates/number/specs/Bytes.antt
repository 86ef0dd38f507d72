-- Unsigned numbers in bytes: "`L` (least significant byte first), `M` (most significant first)". One definition over the width
-- and the order.
use Rattle.std.specs.Prelude.{Bool, cond, Option, Some, None, List, [], ◌∷◌, ◌++◌, reverse, ℕ, zero, suc, ◌+◌, ◌*◌, ◌/◌, ◌%◌, ◌<◌, eqb, leb, length, get_or, take, drop}
use Rattle.number.specs.declared.Order.{Order}
use Rattle.number.specs.declared.Order.TheVariants.{Least, Most}

-- "Byte 4 is `L`, `M` or `;` (no order letter; read as `L`)"
abbrev pub letter_l : ℕ
letter_l = 76

abbrev pub letter_m : ℕ
letter_m = 77

abbrev pub semicolon : ℕ
semicolon = 59

unfoldable pub order_of : ℕ → Option Order
order_of b = cond (eqb b letter_l) (Some Least) (cond (eqb b letter_m) (Some Most) (cond (eqb b semicolon) (Some Least) None))

-- the number that bytes say, the least significant first
abbrev pub least_first : List ℕ → ℕ
least_first [] = 0
least_first (b ∷ bs) = b + 256 * least_first bs

-- the last w digits of v to the base 256, the least significant first
abbrev pub digits : ℕ → ℕ → List ℕ
digits zero v = []
digits (suc w) v = v % 256 ∷ digits w (v / 256)

-- bytes least significant first as the order has them, and back
abbrev pub in_order : Order → List ℕ → List ℕ
in_order Least bs = bs
in_order Most bs = reverse bs

-- the number that bytes say, and the w bytes that say v
unfoldable pub value : Order → List ℕ → ℕ
value o bs = least_first (in_order o bs)

unfoldable pub bytes_of : Order → ℕ → ℕ → List ℕ
bytes_of o w v = in_order o (digits w v)

-- w bytes at the place `at` lie inside s
abbrev pub inside : List ℕ → ℕ → ℕ → Bool
inside s at w = leb (at + w) (length s)

-- THE NUMBER of w bytes at the place `at`; one that does not lie wholly inside reads as 0
unfoldable pub number : Order → List ℕ → ℕ → ℕ → ℕ
number o s at w = cond (inside s at w) (value o (take w (drop at s))) 0

-- s WITH v WRITTEN in the w bytes at the place `at`; where they do not lie wholly inside nothing is written
unfoldable pub written : Order → List ℕ → ℕ → ℕ → ℕ → List ℕ
written o s at w v = cond (inside s at w) (take at s ++ (bytes_of o w v ++ drop (at + w) s)) s

-- every element is a byte
abbrev pub AreBytes : List ℕ → Type 0
AreBytes s = (k : ℕ) → get_or s k 0 < 256
