-- Null as the bytes of a field: "-32,768 for S, -2,147,483,648 for I, NaN for floats".
use Rattle.std.specs.Prelude.{Bool, cond, ℕ, suc, ◌+◌, ◌-◌, ℤ, pos, negsuc, eqb, ltb}
use Rattle.std.specs.Float.{binary32, binary64}
use Rattle.std.specs.Float.Ieee.{nan_bits}

-- half of the patterns of two and of four bytes, and the pattern of the least number
abbrev pub short_half : ℕ
short_half = 32768

abbrev pub integer_half : ℕ
integer_half = 2147483648

-- the number of a pattern in two's complement: the lower half are the numbers from 0 on, the upper half those below
abbrev pub signed : ℕ → ℕ → ℤ
signed half bits = cond (ltb bits half) (pos bits) (negsuc (half + half - suc bits))

abbrev pub short_is_null : ℕ → Bool
short_is_null bits = eqb bits short_half

abbrev pub integer_is_null : ℕ → Bool
integer_is_null bits = eqb bits integer_half

-- any NaN: exponent all ones, fraction not zero
abbrev pub float_is_null : ℕ → Bool
float_is_null bits = nan_bits binary32 bits

abbrev pub double_is_null : ℕ → Bool
double_is_null bits = nan_bits binary64 bits
