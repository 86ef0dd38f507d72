-- "No buffer in the program may pass 65,536 bytes." (No. 6)
use Rattle.std.specs.Prelude.{Bool, true, false, cond, List, [], ◌∷◌, ℕ, ◌*◌, leb}
use Rattle.limits.specs.Limits.{most_columns, most_bytes, program_rows, program_sides, most_buffer}

-- the bytes of each kind of buffer that is made here (those of the kit's libraries have 4,096): a file; the text that is written; the
-- numbers of a column; the owner marks, and a list of sides; what is kept of a table's columns, the plan of its rows and the places in one
abbrev pub buffers : List ℕ
buffers = most_bytes ∷ most_buffer ∷ 4 * program_rows ∷ 4 * program_sides ∷ 8 * most_columns ∷ []

-- each of them has at most so many
abbrev pub none_over : ℕ → List ℕ → Bool
none_over most [] = true
none_over most (b ∷ bs) = cond (leb b most) (none_over most bs) false
