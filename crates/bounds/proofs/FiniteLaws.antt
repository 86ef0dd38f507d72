-- A pattern without its sign says whether the float is finite: below the infinity's it is, from there on it is not. Over
-- the format.
use mathlib.Core.Path.{◌≡◌, refl}
use mathlib.Core.Bool.{Bool, true, false, not, cond}
use Prim.Native.Nat.{ℕ, zero, suc, ◌+◌, ◌-◌, ◌*◌, ◌/◌, ◌%◌, ◌≤◌, ◌<◌}
use native.Mathlib.Omega.{arith}
use native.Mathlib.Nat.{le_of_lt, le_antisymm, le_of_suc-le-suc, mod-lt, mul_comm, mul-pos, zero-lt-suc, div-lt_iff_lt-mul, le-div_iff_mul-le}
use lib.Dec.{T, eqb, leb}
use lib.Pow.{pow_pos}
use lib.Ieee.{inf, nan, Format, prec, low, odd, hid, ones, top, of_fields, of_bits, nan_bits}
use lib.Ieee.Bits.{nan_bits_above}
use lib.Ieee.Scale.{finite}
use borrow.Author.Tests.{le-ltb, eq-eqb, ne_eqb}

odd-finite : (d : ℕ) (s : Bool) (q k l : ℕ) → finite (odd d s q k l) ≡ true
unfolding odd
odd-finite d s zero k l = refl
odd-finite d s (suc q) k l = refl

-- by the exponent's field: all ones in an infinity or a NaN
fields_finite : (f : Format) (s : Bool) (x t : ℕ) → x < ones f → finite (of_fields f s x t) ≡ true
unfolding of_fields
fields_finite f s zero t h = odd-finite (prec f) s t 0 (low f)
fields_finite f s (suc x) t h = rw (ne_eqb (suc x) (ones f) (λ e. omega arith)) (odd-finite (prec f) s (hid f + t) x (low f))

fields_not : (f : Format) (s : Bool) (x t : ℕ) → x ≡ ones f → finite (of_fields f s x t) ≡ false
unfolding of_fields
fields_not f s zero t h = absurd (omega arith)
fields_not f s (suc x) t h = rw (eq-eqb (suc x) (ones f) h) (by (eqb t 0))
  where
    by : (b : Bool) → finite (cond b (inf s) nan) ≡ false
    by true = refl
    by false = refl

module _ (f : Format) (n : ℕ) where
  pub finite_below : n % top f < ones f * hid f → finite (of_bits f n) ≡ true
  unfolding of_bits
  finite_below h = fields_finite f (leb (top f) n) (n % top f / hid f) (n % hid f) ((div-lt_iff_lt-mul (pow_pos (prec f - 1))).1 h)

  pub finite_above : ones f * hid f ≤ n % top f → finite (of_bits f n) ≡ false
  unfolding of_bits
  finite_above h =
      let p : 0 < hid f = pow_pos (prec f - 1) in
      let b : n % top f < suc (ones f) * hid f = rw (← mul_comm (hid f) (suc (ones f))) (mod-lt n (mul-pos p (zero-lt-suc (ones f)))) in
      fields_not f (leb (top f) n) (n % top f / hid f) (n % hid f)
      (le_antisymm (le_of_suc-le-suc ((div-lt_iff_lt-mul p).1 b)) ((le-div_iff_mul-le p).1 h))

  -- a finite pattern is no NaN's
  pub finite_no_nan : n % top f < ones f * hid f → T (not (nan_bits f n))
  finite_no_nan h = rw (nan_bits_above f n, le-ltb _ _ (le_of_lt h)) tt
