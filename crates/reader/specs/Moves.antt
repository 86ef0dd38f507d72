-- "A header reader holds the file and its place and gives one column at each step, moving past exactly one definition. A header refusal
-- comes first. After the last it says so and stays; a place where the header's reading starts no definition gives 13, that place, and stays."
use Rattle.std.specs.Prelude.{ℕ, zero, suc, List}
use Rattle.std.specs.Borrow.{Bor}
use Rattle.header.specs.Steps.{Step, step_of, place_of, start_of}
use Rattle.reader.specs.declared.Reader.{Reader}
use Rattle.reader.specs.declared.Moved.{Moved}

-- a reader of the file, at a place
abbrev pub reader_at : Bor (List ℕ) → ℕ → Reader
reader_at file place = record { file = file; at = place }

-- a new reader, at the first definition
abbrev pub opened : Bor (List ℕ) → Reader
opened file = reader_at file (start_of file.now)

-- WHAT A STEP GIVES: the column at the reader's place, the end, or the refusal
abbrev pub gives : Reader → Step
gives r = step_of r.file.now r.at

-- THE READER AFTER A STEP: the same file, past the definition that was given; or as it was
abbrev pub moved : Reader → Reader
moved r = reader_at r.file (place_of r.at (gives r))

-- both, of a reader at a place of the file
abbrev pub moved_from : List ℕ → ℕ → Moved
moved_from file place = record { step = step_of file place; at = place_of place (step_of file place) }

-- the reader after k steps
abbrev pub steps : ℕ → Reader → Reader
steps zero r = r
steps (suc k) r = moved (steps k r)
