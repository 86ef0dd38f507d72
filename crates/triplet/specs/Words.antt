-- Triplets in words: what it is that bytes begin with a triplet, where bytes that begin with none are bad, when a triplet is
-- written, and which refusal is given instead.
use Rattle.std.specs.Prelude.{◌≡◌, List, ℕ, ◌+◌, ◌^◌, ◌≤◌, ◌<◌, length, get_or}
use Rattle.laws.specs.Lowest.{LowestFailing}
use Rattle.number.specs.declared.Order.{Order}
use Rattle.number.specs.Bytes.{number}
use Rattle.triplet.specs.declared.Ids.{Ids}
use Rattle.triplet.specs.Triplet.{bad_triplet, largest_part, width_of, id_code, tile_code, other_code, reserved_bits}
use Rattle.triplet.specs.Written.{no_such_place, too_short, part_numbered, size_of}

-- the w bytes at the place `at` are there and say v, "unsigned, at most 2,147,483,647"; no bytes say 0
pub record PartIs (o : Order) (s : List ℕ) (at w v : ℕ) : Type 0 where
  pub inside : at + w ≤ length s
  pub says : number o s at w ≡ v
  pub small : v ≤ largest_part

-- no number is said there: "part bad, or cut short"
abbrev pub PartBad : Order → List ℕ → ℕ → ℕ → Type 0
PartBad o s at w = (v : ℕ) → PartIs o s at w v → ⊥

-- the type byte, and what it says of the parts: how many bytes each has
abbrev pub type_of : List ℕ → ℕ
type_of s = get_or s 0 0

abbrev pub id_width : List ℕ → ℕ
id_width s = width_of (id_code (type_of s))

abbrev pub tile_width : List ℕ → ℕ
tile_width s = width_of (tile_code (type_of s))

abbrev pub other_width : List ℕ → ℕ
other_width s = width_of (other_code (type_of s))

-- "The parts follow in that order": where they start, and where the triplet ends
abbrev pub tile_place : List ℕ → ℕ
tile_place s = 1 + id_width s

abbrev pub other_place : List ℕ → ℕ
other_place s = tile_place s + tile_width s

abbrev pub end_place : List ℕ → ℕ
end_place s = other_place s + other_width s

-- "Bits 1-0 are zero"
pub record TypeByte (s : List ℕ) : Type 0 where
  pub there : 0 < length s
  pub reserved : reserved_bits (type_of s) ≡ 0

-- THE BYTES BEGIN WITH THE TRIPLET t, in n bytes
pub record BeginsWith (o : Order) (s : List ℕ) (t : Ids) (n : ℕ) : Type 0 where
  pub type_byte : TypeByte s
  pub id : PartIs o s 1 (id_width s) t.id
  pub tile : PartIs o s (tile_place s) (tile_width s) t.tile
  pub other : PartIs o s (other_place s) (other_width s) t.other
  pub long : n ≡ end_place s

-- THE BYTES ARE BAD AT p: "bad part's first byte, counted from the type byte as 0"
pub data BadAt (o : Order) (s : List ℕ) : ℕ → Type 0 where
  type_byte_bad : (TypeByte s → ⊥) → BadAt o s 0
  id_bad : TypeByte s → PartBad o s 1 (id_width s) → BadAt o s 1
  tile_bad : {a : ℕ} → TypeByte s → PartIs o s 1 (id_width s) a → PartBad o s (tile_place s) (tile_width s) → BadAt o s (tile_place s)
  other_bad : {a c : ℕ} → TypeByte s → PartIs o s 1 (id_width s) a → PartIs o s (tile_place s) (tile_width s) c
      → PartBad o s (other_place s) (other_width s) → BadAt o s (other_place s)

-- v can be given by the code c: the bytes that the code means hold it. "A longer form than needed is read."
pub record Holds (c v : ℕ) : Type 0 where
  pub code : c < 4
  pub fits : v < 256 ^ width_of c

-- no part is too large
pub record SmallParts (t : Ids) : Type 0 where
  pub id : t.id ≤ largest_part
  pub tile : t.tile ≤ largest_part
  pub other : t.other ≤ largest_part

-- THE TRIPLET FITS at the place `at` of a row of `len` bytes, in n bytes
pub record FitsAt (len at : ℕ) (t : Ids) (n : ℕ) : Type 0 where
  pub parts : SmallParts t
  pub place : at ≤ len
  pub room : at + n ≤ len
  pub long : n ≡ size_of t

-- part k of 1 to 3 is "at most 2,147,483,647"
abbrev pub PartSmall : Ids → ℕ → Type 0
PartSmall t k = part_numbered t k ≤ largest_part

-- THE TRIPLET IS REFUSED with n at p: "It tests a part too large (11, lowest such part, 1 to 3), then a place beyond the buffer (13),
-- then room (14, start place plus bytes)."
pub data NotWritten (len at : ℕ) (t : Ids) : ℕ → ℕ → Type 0 where
  large_part : {k : ℕ} → LowestFailing 3 (PartSmall t) k → NotWritten len at t bad_triplet k
  place_beyond : SmallParts t → len < at → NotWritten len at t no_such_place at
  no_room : SmallParts t → at ≤ len → len < at + size_of t → NotWritten len at t too_short (at + size_of t)
