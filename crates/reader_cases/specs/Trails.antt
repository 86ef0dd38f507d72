-- What two steps of a new reader give.
use Rattle.std.specs.Prelude.{ℕ, List}
use Rattle.header.specs.Steps.{start_of}
use Rattle.reader.specs.declared.Moved.{Moved}
use Rattle.reader.specs.Moves.{moved_from}
use Rattle.reader_cases.specs.declared.Trail.{Trail}

abbrev pub first_of : List ℕ → Moved
first_of file = moved_from file (start_of file)

abbrev pub second_of : List ℕ → Moved
second_of file = moved_from file (first_of file).at

abbrev pub trail_of : List ℕ → Trail
trail_of file = record { first = (first_of file).step; second = (second_of file).step; at = (second_of file).at }
