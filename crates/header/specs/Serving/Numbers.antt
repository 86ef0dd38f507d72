-- One number for a name, of its length and of all its letters. Two names that are the same text have the same number, so that only names of
-- one number are compared byte by byte.
use Rattle.std.specs.Prelude.{List, [], ◌∷◌, ℕ, ◌+◌, ◌*◌, ◌%◌, length}

-- "case ignored": the cases of a letter are 32 apart, and five bits do not tell them apart
abbrev pub caseless : ℕ → ℕ
caseless b = b % 32

-- a number with five bits more; 26 bits of the number are kept, so that the sum has room in 32
abbrev pub with_letter : ℕ → ℕ → ℕ
with_letter number letter = number % 67108864 * 37 + letter

abbrev pub with_letters : ℕ → List ℕ → ℕ
with_letters number [] = number
with_letters number (x ∷ rest) = with_letters (with_letter number (caseless x)) rest

unfoldable pub number_of : List ℕ → ℕ
number_of name = with_letters (length name % 32) name

-- The slot of a number: where a name's slot is not marked, no earlier name has its number. 251 is no multiple of 37, so that every letter has a
-- say in it.
abbrev pub slots : ℕ
slots = 251

abbrev pub slot_of : ℕ → ℕ
slot_of number = number % slots
