-- A field of a file of cases: two bytes of length, the least significant first, and so many bytes, cut at the file's end.
use Rattle.std.specs.Prelude.{◌≤◌, ◌≡◌, List, ℕ, zero, suc, ◌+◌, ◌-◌, min, length, take, drop}
use Rattle.number.specs.declared.Order.TheVariants.{Least}
use Rattle.number.specs.Bytes.{number}

-- the field's bytes start after its length
abbrev pub start_of : List ℕ → ℕ → ℕ
start_of s at = min (at + 2) (length s)

-- and end after so many
abbrev pub end_of : List ℕ → ℕ → ℕ
end_of s at = min (start_of s at + number Least s at 2) (length s)

-- the field's bytes
abbrev pub field_at : List ℕ → ℕ → List ℕ
field_at s at = take (end_of s at - start_of s at) (drop (start_of s at) s)

-- the place of field k, from 0
abbrev pub place_of : List ℕ → ℕ → ℕ
place_of s zero = 0
place_of s (suc k) = end_of s (place_of s k)

-- a number of bytes at the front of a buffer: no more than it has
abbrev pub IsPrefixLen : ℕ → List ℕ → Type 0
IsPrefixLen n s = (n ≤ length s) × (n ≡ length (take n s))

-- the text begins with this field, and this follows it
abbrev pub IsFieldThen : List ℕ → List ℕ → List ℕ → Type 0
IsFieldThen s field rest = (field ≡ field_at s 0) × (rest ≡ drop (end_of s 0) s)
