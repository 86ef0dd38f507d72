-- A triplet id as bytes, and written. "The writer uses the shortest form (0 takes no bytes), written at a place inside the
-- caller's row buffer, and changes no other byte. It tests a part too large (11, lowest such part, 1 to 3), then a place
-- beyond the buffer (13), then room (14, start place plus bytes)."
use Rattle.std.specs.Prelude.{Bool, cond, List, [], ◌∷◌, ◌++◌, ℕ, ◌+◌, ◌*◌, eqb, ltb, take, drop, Result, Ok, Err}
use Rattle.laws.specs.Lowest.{lowest}
use Rattle.number.specs.declared.Order.{Order}
use Rattle.number.specs.Bytes.{bytes_of}
use Rattle.refusal.specs.declared.Refusal.{Refusal}
use Rattle.refusal.specs.Order.{refused_if, located, first_of}
use Rattle.triplet.specs.declared.Ids.{Ids}
use Rattle.triplet.specs.Triplet.{bad_triplet, largest_part, absent, width_of}

-- refusal 13, a place beyond the buffer, and 14, "lent output too short"
abbrev pub no_such_place : ℕ
no_such_place = 13

abbrev pub too_short : ℕ
too_short = 14

-- the least numbers that one byte and that two bytes do not hold
abbrev pub past_one_byte : ℕ
past_one_byte = 256

abbrev pub past_two_bytes : ℕ
past_two_bytes = 65536

-- "the shortest form (0 takes no bytes)": the code, and the bytes that it means
abbrev pub code_for : ℕ → ℕ
code_for v = cond (eqb v absent) 0 (cond (ltb v past_one_byte) 1 (cond (ltb v past_two_bytes) 2 3))

unfoldable pub width_for : ℕ → ℕ
width_for v = width_of (code_for v)

-- "bits 7-6 id, 5-4 tile, 3-2 external id", bits 1-0 zero
abbrev pub type_byte : ℕ → ℕ → ℕ → ℕ
type_byte c₁ c₂ c₃ = c₁ * 64 + c₂ * 16 + c₃ * 4

-- the bytes of a triplet: the type byte with three codes, then the parts in that order, each in the bytes that its code means
unfoldable pub form : Order → ℕ → ℕ → ℕ → Ids → List ℕ
form o c₁ c₂ c₃ t =
    type_byte c₁ c₂ c₃
    ∷ (bytes_of o (width_of c₁) t.id ++ (bytes_of o (width_of c₂) t.tile ++ bytes_of o (width_of c₃) t.other))

-- how many they are
abbrev pub form_size : ℕ → ℕ → ℕ → ℕ
form_size c₁ c₂ c₃ = 1 + width_of c₁ + width_of c₂ + width_of c₃

-- THE BYTES WRITTEN: the shortest form
unfoldable pub encoded : Order → Ids → List ℕ
encoded o t = form o (code_for t.id) (code_for t.tile) (code_for t.other) t

unfoldable pub size_of : Ids → ℕ
size_of t = 1 + width_for t.id + width_for t.tile + width_for t.other

-- the parts by number, 1 to 3
abbrev pub part_numbered : Ids → ℕ → ℕ
part_numbered t k = cond (eqb k 1) t.id (cond (eqb k 2) t.tile t.other)

abbrev pub part_too_large : Ids → ℕ → Bool
part_too_large t k = ltb largest_part (part_numbered t k)

-- the three tests, in their order
abbrev pub refusals : ℕ → ℕ → Ids → List Refusal
refusals len at t =
    located bad_triplet (lowest (part_too_large t) 3)
    ∷ refused_if (ltb len at) no_such_place at
    ∷ refused_if (ltb len (at + size_of t)) too_short (at + size_of t)
    ∷ []

-- how many bytes were written, or the refusal
abbrev pub Written : Type 0
Written = Result ℕ Refusal

-- the bytes written, unless a test refuses
abbrev pub unless : Refusal → ℕ → Written
unless r n = cond (eqb r.number 0) (Ok n) (Err r)

-- THE ANSWER of the writer, in a row of `len` bytes
unfoldable pub written_of : ℕ → ℕ → Ids → Written
written_of len at t = unless (first_of (refusals len at t)) (size_of t)

-- THE ROW AFTERWARDS: the bytes written and no other byte changed; none on a refusal
abbrev pub row_after : Written → Order → List ℕ → ℕ → Ids → List ℕ
row_after (Ok n) o row at t = take at row ++ (encoded o t ++ drop (at + size_of t) row)
row_after (Err r) o row at t = row
