-- P3 to P5 of document 01, the triplets of documents 002 and 001, and the edges of the rules, computed from the definitions:
-- one table under a single statement.
use borrow.Author.Rules.{rules}
use mathlib.Core.Path.{◌≡◌}
use mathlib.Core.List.{List, [], ◌∷◌}
use Prim.Native.Nat.{ℕ}
use lib.ListN.{length}
use Rattle.std.specs.Prelude.{Ok, Err}
use Rattle.number.specs.declared.Order.{Order}
use Rattle.number.specs.declared.Order.TheVariants.{Least, Most}
use Rattle.number.specs.Bytes.{value, bytes_of, number}
use Rattle.refusal.specs.Order.{refusal, first, located}
use Rattle.triplet.specs.Triplet.{triplet, bad_triplet, ids, bad_at, part_at, parts_of, triplet_of}
use Rattle.triplet.specs.Written.{Written, no_such_place, too_short, width_for, form, encoded, size_of, written_of}

-- the parts of a triplet
abbrev pub Three : Type 0
Three = ℕ × ℕ × ℕ

pub data Example : Type 0 where
  -- written as these bytes and read from them
  both_ways : Order → Three → List ℕ → Example
  -- read from these bytes, which are longer than needed
  longer : Order → List ℕ → Three → Example
  -- refused with 11 at a place
  bad : Order → List ℕ → ℕ → Example
  -- the writer's answer at a place of a row of so many bytes
  writing : ℕ → ℕ → Three → Written → Example

abbrev pub Computes : Example → Type 0
Computes (both_ways o (a, b, c) s) = (encoded o (ids a b c) ≡ s) × (triplet_of o s ≡ Ok (triplet (ids a b c) (length s)))
Computes (longer o s (a, b, c)) = triplet_of o s ≡ Ok (triplet (ids a b c) (length s))
Computes (bad o s p) = triplet_of o s ≡ bad_at p
Computes (writing len at (a, b, c) r) = written_of len at (ids a b c) ≡ r

abbrev pub All : List Example → Type 0
All [] = Unit {0}
All (x ∷ l) = Computes x × All l

abbrev pub table : List Example
table =
    -- P3; the same in the other order
    both_ways Least (6, 260, 210) (0x64 ∷ 0x06 ∷ 0x04 ∷ 0x01 ∷ 0xD2 ∷ [])
    ∷ both_ways Most (6, 260, 210) (0x64 ∷ 0x06 ∷ 0x01 ∷ 0x04 ∷ 0xD2 ∷ [])
    -- P4
    ∷ both_ways Least (1, 0, 0) (0x40 ∷ 0x01 ∷ [])
    -- P5
    ∷ bad Least (0x41 ∷ []) 0
    -- document 002, table 18
    ∷ both_ways Least (29, 196, 14) (0x54 ∷ 0x1D ∷ 0xC4 ∷ 0x0E ∷ [])
    ∷ both_ways Least (26, 12, 18) (0x54 ∷ 0x1A ∷ 0x0C ∷ 0x12 ∷ [])
    ∷ both_ways Least (5, 0, 0) (0x40 ∷ 0x05 ∷ [])
    ∷ both_ways Least (8, 260, 214) (0x64 ∷ 0x08 ∷ 0x04 ∷ 0x01 ∷ 0xD6 ∷ [])
    ∷ both_ways Least (30, 198, 12) (0x54 ∷ 0x1E ∷ 0xC6 ∷ 0x0C ∷ [])
    ∷ both_ways Least (76, 52, 48) (0x54 ∷ 0x4C ∷ 0x34 ∷ 0x30 ∷ [])
    -- document 001, table 98
    ∷ both_ways Least (3, 11, 111) (0x54 ∷ 0x03 ∷ 0x0B ∷ 0x6F ∷ [])
    ∷ both_ways Least (5, 15, 2) (0x54 ∷ 0x05 ∷ 0x0F ∷ 0x02 ∷ [])
    ∷ both_ways Least (51, 15, 4) (0x54 ∷ 0x33 ∷ 0x0F ∷ 0x04 ∷ [])
    -- all absent; 65,536 takes four bytes; the largest part
    ∷ both_ways Least (0, 0, 0) (0x00 ∷ [])
    ∷ both_ways Least (0, 65536, 0) (0x30 ∷ 0x00 ∷ 0x00 ∷ 0x01 ∷ 0x00 ∷ [])
    ∷ both_ways Most (0, 0, 2147483647) (0x0C ∷ 0x7F ∷ 0xFF ∷ 0xFF ∷ 0xFF ∷ [])
    -- a 0 in a byte reads as 0, a number in more bytes than needed as itself
    ∷ longer Least (0x50 ∷ 0x01 ∷ 0x00 ∷ []) (1, 0, 0)
    ∷ longer Most (0xC4 ∷ 0x00 ∷ 0x00 ∷ 0x00 ∷ 0x01 ∷ 0x07 ∷ []) (1, 0, 7)
    -- no byte; a part cut short; a part too large, before a later one that is cut short
    ∷ bad Least [] 0
    ∷ bad Least (0x40 ∷ []) 1
    ∷ bad Least (0x60 ∷ 0x01 ∷ 0x02 ∷ []) 2
    ∷ bad Least (0x54 ∷ 0x01 ∷ 0x02 ∷ []) 3
    ∷ bad Least (0xD0 ∷ 0x00 ∷ 0x00 ∷ 0x00 ∷ 0x80 ∷ []) 1
    -- the writer: room to the last byte; the lowest part too large, before the place; the place, before room; room
    ∷ writing 10 5 (6, 260, 210) (Ok 5)
    ∷ writing 10 11 (1, 2147483648, 4294967295) (Err (refusal bad_triplet 2))
    ∷ writing 10 11 (6, 260, 210) (Err (refusal no_such_place 11))
    ∷ writing 10 10 (0, 0, 0) (Err (refusal too_short 11))
    ∷ writing 10 6 (6, 260, 210) (Err (refusal too_short 11))
    ∷ []

pub examples : All table
unfolding value bytes_of number first located part_at parts_of triplet_of width_for form encoded size_of written_of
examples = search rules
