-- A triplet id, read at the front of a list of bytes. "Type byte: bits 7-6 id, 5-4 tile, 3-2 external id; 0, 1, 2, 3 mean
-- 0, 1, 2, 4 bytes. Bits 1-0 are zero. The parts follow in that order, unsigned, at most 2,147,483,647. An absent part
-- reads as 0. A longer form than needed is read."
use Rattle.std.specs.Prelude.{◌≡◌, cond, List, ℕ, ◌+◌, ◌/◌, ◌%◌, ◌≤◌, eqb, ltb, length, get_or, Option, Some, None, Result, Ok, Err}
use Rattle.number.specs.declared.Order.{Order}
use Rattle.number.specs.Bytes.{number}
use Rattle.refusal.specs.declared.Refusal.{Refusal}
use Rattle.refusal.specs.Order.{refusal}
use Rattle.triplet.specs.declared.Ids.{Ids}
use Rattle.triplet.specs.declared.Triplet.{Triplet}

-- refusal 11, "type byte or part bad, or cut short"
abbrev pub bad_triplet : ℕ
bad_triplet = 11

-- "at most 2,147,483,647"
abbrev pub largest_part : ℕ
largest_part = 2147483647

-- "An absent part reads as 0"
abbrev pub absent : ℕ
absent = 0

-- "0, 1, 2, 3 mean 0, 1, 2, 4 bytes"
abbrev pub width_of : ℕ → ℕ
width_of code = cond (eqb code 3) 4 code

-- "0, 1, 2, 4 bytes"
abbrev pub Width : ℕ → Type 0
Width w = (w ≤ 4) × (w ≡ 3 → ⊥)

-- "bits 7-6 id, 5-4 tile, 3-2 external id", "Bits 1-0"
abbrev pub id_code : ℕ → ℕ
id_code t = t / 64 % 4

abbrev pub tile_code : ℕ → ℕ
tile_code t = t / 16 % 4

abbrev pub other_code : ℕ → ℕ
other_code t = t / 4 % 4

abbrev pub reserved_bits : ℕ → ℕ
reserved_bits t = t % 4

-- what a part reads as, or that it is too large or cut short
abbrev pub Part : Type 0
Part = Option ℕ

-- THE PART of w bytes at a place: what a caller sees of it
unfoldable pub part_at : Order → List ℕ → ℕ → ℕ → Part
part_at o s at w =
    cond (eqb w 0) (Some absent)
    (cond (ltb (length s) (at + w)) None
    (cond (ltb largest_part (number o s at w)) None (Some (number o s at w))))

abbrev pub ids : ℕ → ℕ → ℕ → Ids
ids a b c = record { id = a; tile = b; other = c }

-- the ids, and how many bytes they took
abbrev pub triplet : Ids → ℕ → Triplet
triplet t n = record { ids = t; bytes = n }

-- a triplet that was read, or the refusal
abbrev pub Reading : Type 0
Reading = Result Triplet Refusal

-- 11 at a place "counted from the type byte as 0"
abbrev pub bad_at : ℕ → Reading
bad_at p = Err (refusal bad_triplet p)

-- goes on with what a part reads as; a bad part is refused at its first byte
abbrev pub on_part : ℕ → Part → (ℕ → Reading) → Reading
on_part at (Some v) rest = rest v
on_part at None rest = bad_at at

-- the parts of these widths, one after the other behind the type byte
unfoldable pub parts_of : Order → List ℕ → ℕ → ℕ → ℕ → Reading
parts_of o s w₁ w₂ w₃ =
    on_part 1 (part_at o s 1 w₁)
    (λ a. on_part (1 + w₁) (part_at o s (1 + w₁) w₂)
    (λ b. on_part (1 + w₁ + w₂) (part_at o s (1 + w₁ + w₂) w₃) (λ c. Ok (triplet (ids a b c) (1 + w₁ + w₂ + w₃)))))

-- the parts that the type byte t announces
abbrev pub announced : Order → List ℕ → ℕ → Reading
announced o s t = parts_of o s (width_of (id_code t)) (width_of (tile_code t)) (width_of (other_code t))

-- THE TRIPLET that the bytes begin with; with no byte at all the type byte is cut short
unfoldable pub triplet_of : Order → List ℕ → Reading
triplet_of o s =
    cond (eqb (length s) 0) (bad_at 0)
    (cond (eqb (reserved_bits (get_or s 0 0)) 0) (announced o s (get_or s 0 0)) (bad_at 0))
