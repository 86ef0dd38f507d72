-- The patterns that are null are those of the numbers that document 01 names.
use mathlib.Core.Path.{◌≡◌, refl}
use mathlib.Core.Bool.{Bool, true, false, cond}
use mathlib.Core.Logic.{◌↔◌}
use Prim.Native.Nat.{ℕ, suc, ◌+◌, ◌-◌, ◌<◌}
use native.Mathlib.Omega.{arith}
use lib.IntN.{pos, negsuc}
use lib.Dec.{eqb, ltb}
use lib.Ieee.{binary32, binary64, is_nan, of_bits}
use lib.Ieee.Bits.{nan_bits_is}
use borrow.Author.Tests.{eqb-true, eq-eqb, le-ltb}
use Rattle.field.specs.Fields.{null_of}
use Rattle.field.specs.Nulls.{short_half, integer_half, signed, short_is_null, integer_is_null, float_is_null, double_is_null}
use Rattle.field.specs.declared.FieldType.TheVariants.{Short, Integer}
use Rattle.field.specs.declared.NullValue.TheVariants.{Number}

-- the pattern that is the half is that of the least number, and no other is
least : (half bits : ℕ) → bits < suc half + suc half → (eqb bits (suc half) ≡ true) ↔ (Number (signed (suc half) bits) ≡ Number (negsuc half))
least half bits h = (to, from (ltb bits (suc half)) refl)
  where
    to : eqb bits (suc half) ≡ true → Number (signed (suc half) bits) ≡ Number (negsuc half)
    to e =
        let q : bits ≡ suc half = eqb-true bits (suc half) e in
        let d : suc half + suc half - suc bits ≡ half = omega arith in
        rw (le-ltb bits (suc half) (omega arith), d)

    from : (b : Bool) → ltb bits (suc half) ≡ b
        → Number (cond b (pos bits) (negsuc (suc half + suc half - suc bits))) ≡ Number (negsuc half) → eqb bits (suc half) ≡ true
    from true e q = cc
    from false e q =
        let d : suc half + suc half - suc bits ≡ half = cc in
        eq-eqb bits (suc half) (omega arith)

-- "-32,768 for S, -2,147,483,648 for I": the numbers are those of `null_of`
pub short_null : (bits : ℕ) → bits < 65536 → (short_is_null bits ≡ true) ↔ (Number (signed short_half bits) ≡ null_of Short)
short_null bits h = least 32767 bits h

pub integer_null : (bits : ℕ) → bits < 4294967296 → (integer_is_null bits ≡ true) ↔ (Number (signed integer_half bits) ≡ null_of Integer)
integer_null bits h = least 2147483647 bits h

-- "NaN for floats": the value of the pattern is a NaN
pub float_null : (bits : ℕ) → float_is_null bits ≡ is_nan (of_bits binary32 bits)
float_null bits = nan_bits_is binary32 bits

pub double_null : (bits : ℕ) → double_is_null bits ≡ is_nan (of_bits binary64 bits)
double_null bits = nan_bits_is binary64 bits
