-- What a byte is, beside its kind.
use mathlib.Core.Path.{◌≡◌, refl}
use mathlib.Core.Bool.{Bool, true, false, cond}
use Prim.Native.Nat.{ℕ}
use native.Mathlib.Omega.{arith}
use lib.Dec.{leb, eqb}
use borrow.Author.Tests.{leb-true, eqb-true, le-leb}
use Rattle.wave.specs.Words.{point, space, first_digit, last_digit, IsDigit, digit}
use Rattle.wave.specs.Height.{kind_of, OneDigit}
use Rattle.wave.specs.declared.Kind.{Kind}
use Rattle.wave.specs.declared.Kind.TheVariants.{Digit, Point, Space, Other}

pub data Seen (b : ℕ) : Kind → Type 0 where
  seen-digit : IsDigit b → Seen b (Digit (digit b))
  seen-point : b ≡ point → Seen b Point
  seen-space : b ≡ space → Seen b Space
  seen_other : Seen b Other

pub seen : (b : ℕ) → Seen b (kind_of b)
seen b = by (leb first_digit b) (leb b last_digit) (eqb b point) (eqb b space) refl refl refl refl
  where
    by : (x y z w : Bool) → leb first_digit b ≡ x → leb b last_digit ≡ y → eqb b point ≡ z → eqb b space ≡ w
        → Seen b (cond x (cond y (Digit (digit b)) Other) (cond z Point (cond w Space Other)))
    by true true z w e f g h = seen-digit (leb-true first_digit b e, leb-true b last_digit f)
    by true false z w e f g h = seen_other
    by false y true w e f g h = seen-point (eqb-true b point g)
    by false y false true e f g h = seen-space (eqb-true b space h)
    by false y false false e f g h = seen_other

pub digit_kind : (b : ℕ) → IsDigit b → kind_of b ≡ Digit (digit b)
digit_kind b d = rw (le-leb first_digit b d.0, le-leb b last_digit d.1)

-- a digit says at most 9
pub one_digit : (b : ℕ) → OneDigit (kind_of b)
one_digit b = by (kind_of b) (seen b)
  where
    by : (k : Kind) → Seen b k → OneDigit k
    by k (seen-digit d) = omega (arith, d.1)
    by k (seen-point e) = tt
    by k (seen-space e) = tt
    by k seen_other = tt
