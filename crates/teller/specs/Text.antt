-- What the program writes of a directory, byte for byte: the lines of an accepted one, or the one line of a refused one.
use Rattle.std.specs.Prelude.{List, [], ◌++◌, ℕ, zero, suc, replicate, Ok, Err}
use Rattle.laws.specs.Orbit.{entry}
use Rattle.tile.specs.Columns.{Tile}
use Rattle.tile.specs.Walk.{walk_of, steps_of, all_steps}
use Rattle.load.specs.declared.Counts.{Counts}
use Rattle.directory.specs.declared.Sizes.{Sizes}
use Rattle.limits.specs.Limits.{program_rows, program_sides, most_buffer}
use Rattle.report.specs.Lines.{refuse_line, accept_line, ring_line, steps_line}
use Rattle.load.specs.Columns.{Columns}
use Rattle.directory.specs.Columns.{held}
use Rattle.directory.specs.Files.{Directory, files_read}
use Rattle.directory.specs.Outcome.{Outcome, tile_said, checked_of, outcome_of}

-- the lengths of the program's own ten columns
abbrev pub own_columns : List ℕ
own_columns = replicate 10 program_rows

-- room for every text, as much as a buffer may have: 31 bytes for each of at most 2,000 ring rows and 62 for the first and the last line
-- are 62,062
abbrev pub text_space : ℕ
text_space = most_buffer

-- the steps that the walk from ring row r reports
abbrev pub steps_from : Tile → ℕ → ℕ
steps_from t r = steps_of (walk_of t r program_sides)

-- `ring 1 face 1 steps 3`: a line for each of the ring rows 1..n
abbrev pub ring_lines : Tile → ℕ → List ℕ
ring_lines t zero = []
ring_lines t (suc n) = ring_lines t n ++ ring_line (suc n) (entry t.fac_id (suc n)) (steps_from t (suc n))

-- the counts, each ring with its face and steps, the steps of all
unfoldable pub accepted_text : Counts → Tile → List ℕ
accepted_text c t = accept_line c ++ (ring_lines t c.rings ++ steps_line (all_steps t program_sides c.rings))

-- "A refused tile writes `REFUSE edg 23 2`: file, number, place."
abbrev pub text_as : Outcome → Tile → List ℕ
text_as (Ok c) t = accepted_text c t
text_as (Err w) t = refuse_line w.file w.refusal

-- what is written of the tile that was loaded to the front of ten columns
unfoldable pub loaded_text : Counts → Columns → List ℕ
loaded_text c l = text_as (checked_of c l program_sides) (held c l)

-- THE TEXT of a directory whose files are said to have these sizes
unfoldable pub text_of : Sizes → Directory → List ℕ
text_of z d = text_as (outcome_of z d own_columns program_sides) (tile_said (files_read d))
