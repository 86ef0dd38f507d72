-- What the amendment of the grammar changes: the texts that were read before it, and those that are read since.
use Rattle.std.specs.Prelude.{◌≡◌, ◌↔◌, List, [], ◌∷◌, map, ℕ, suc, ◌<◌}
use Rattle.grammar.specs.Words.{colon, comma, Form, with_comma, without_comma, Column, Reading, printed, WellFormed, Reads}

-- the same column, its last comma there
abbrev pub column_with_comma : Column → Column
column_with_comma c =
    record {
      name = c.name;
      type = c.type;
      count = c.count;
      key = c.key;
      description = c.description;
      value_table = c.value_table;
      thematic_index = c.thematic_index;
      narrative = c.narrative;
      form = with_comma;
    }

-- the same reading, every column's last comma there
abbrev pub with_commas : Reading → Reading
with_commas h = record { mark = h.mark; description = h.description; narrative = h.narrative; columns = map column_with_comma h.columns }

-- "Document 01 demands a comma before each colon": h was a reading of s before, when every column was printed with it
pub record ReadBefore (s : List ℕ) (h : Reading) : Type 0 where
  pub well_formed : WellFormed h
  pub print : printed (with_commas h) ≡ s

-- how many columns lack their last comma
abbrev pub or_one_more : Form → ℕ → ℕ
or_one_more with_comma n = n
or_one_more without_comma n = suc n

abbrev pub commas_lacking : List Column → ℕ
commas_lacking [] = 0
commas_lacking (c ∷ cs) = or_one_more c.form (commas_lacking cs)

-- s is t without n of its commas, each of which stood before a colon
pub data LeavesOut : ℕ → List ℕ → List ℕ → Type 0 where
  at_end : LeavesOut 0 [] []
  same_byte : (b : ℕ) {n : ℕ} {s t : List ℕ} → LeavesOut n s t → LeavesOut n (b ∷ s) (b ∷ t)
  no_comma : {n : ℕ} {s t : List ℕ} → LeavesOut n s t → LeavesOut (suc n) (colon ∷ s) (comma ∷ (colon ∷ t))

-- THE AMENDMENT, of the text s
pub record Amended (s : List ℕ) : Type 0 where
  -- what was read before is read now: the same columns, each with its comma
  pub still : (h : Reading) → ReadBefore s h → Reads s (with_commas h)
  -- what is read now was not read before exactly when a column lacks its last comma
  pub newly : (h : Reading) → Reads s h → ((k : Reading) → ReadBefore s k → ⊥) ↔ (0 < commas_lacking h.columns)
  -- and it lacks nothing else: with these commas put in it is a text that was read before, with the same columns
  pub lacks : (h : Reading) → Reads s h → LeavesOut (commas_lacking h.columns) s (printed (with_commas h)) × ReadBefore (printed (with_commas h)) h
