-- The limits of document 01 as the requests of document 02 amend them, each said once for the definitions.
use Rattle.std.specs.Prelude.{ℕ, ◌*◌}

-- "15: L over 32,767"
abbrev pub most_text : ℕ
most_text = 32767

-- "5: more than 128 columns (place 129)" (No. 6: "Raise 64 columns to 128")
abbrev pub most_columns : ℕ
most_columns = 128

-- "15: over 1,000,000 rows"
abbrev pub most_rows : ℕ
most_rows = 1000000

-- the program: "each at most 65,536 bytes, with at most 2,000 rows per table" (No. 6: "and the program's 1,000 rows to 2,000")
abbrev pub most_bytes : ℕ
most_bytes = 65536

abbrev pub program_rows : ℕ
program_rows = 2000

-- an edge has two sides
abbrev pub program_sides : ℕ
program_sides = 2 * program_rows

-- "No buffer in the program may pass 65,536 bytes." (No. 6)
abbrev pub most_buffer : ℕ
most_buffer = 65536
