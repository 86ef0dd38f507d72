-- What a step of a reader does, in the paper's words, over the reading of the header's text.
use Rattle.std.specs.Prelude.{◌≡◌, ℕ, ◌+◌, length, Some, None, Ok, Err}
use Rattle.refusal.specs.Order.{refusal}
use Rattle.grammar.specs.Words as words
use Rattle.header.specs.declared.Definition.{Definition}
use Rattle.header.specs.Words.{Shows}
use Rattle.reader.specs.declared.Reader.{Reader}
use Rattle.reader.specs.Moves.{reader_at, gives, moved}

-- "gives one column at each step, moving past exactly one definition": what is given shows the column c, field by field, and the
-- reader stands just past the print of c
pub record GivesColumn (r : Reader) (c : words.Column) : Type 0 where
  pub shown : Definition
  pub given : gives r ≡ Ok (Some shown)
  pub shows : Shows r.file.now r.at c shown
  pub past_one : moved r ≡ reader_at r.file (r.at + length (words.printed_column c))

-- "After the last it says so and stays"
pub record SaysDone (r : Reader) : Type 0 where
  pub given : gives r ≡ Ok None
  pub stays : moved r ≡ r

-- it refuses with the number n and the place p, and stays
pub record Refuses (r : Reader) (n p : ℕ) : Type 0 where
  pub given : gives r ≡ Err (refusal n p)
  pub stays : moved r ≡ r
