-- The tests in the stages in which the code makes them, and what one stage hands to the next. Joined they are the header's tests
-- in their order: no stage adds one.
use Rattle.std.specs.Prelude.{Bool, not, ◌&&◌, ◌||◌, List, [], ◌∷◌, ◌++◌, ℕ, zero, suc, pred, ◌+◌, ◌-◌, ◌*◌, eqb, ltb, length, get_or, replicate, Result, Ok, Err}
use Rattle.laws.specs.Lowest.{lowest}
use Rattle.laws.specs.Buffer.{one_to}
use Rattle.limits.specs.Limits.{most_text, most_columns}
use Rattle.refusal.specs.declared.Refusal.{Refusal}
use Rattle.refusal.specs.Order.{refusal, refused_if, located, lowest_of, first_of, unless}
use Rattle.number.specs.declared.Order.{Order}
use Rattle.grammar.specs.Scan.{Scan}
use Rattle.field.specs.Fields.{type_of, widest, is_integer, most_count}
use Rattle.header.specs.declared.Definition.{Definition}
use Rattle.header.specs.declared.ColumnLayout.{ColumnLayout}
use Rattle.header.specs.declared.Kept.{Kept}
use Rattle.header.specs.declared.Judged.{Judged}
use Rattle.header.specs.Places.{first_place, place_after, column}
use Rattle.header.specs.Names.{named_before, names_of}
use Rattle.header.specs.Judge.{order_of_file, text_length, head_of, column_count, grammar_refusal, columns_of, key_p, sound, column_refusal}
use Rattle.header.specs.Judge.{id_column, id_wrong, header_refusal}
use Rattle.header.specs.Layouts.{kind_of, count_kept, blank_column, laid_out, row_width}
use Rattle.header.specs.Steps.{Step, starts_at, step_from}

-- the four bytes of L and the longest text
abbrev pub most_head : ℕ
most_head = most_text + 4

-- no five bytes say a greater count, be they digits or not
abbrev pub greatest_count : ℕ
greatest_count = 2299977

-- no field of a sound definition is longer
abbrev pub sound_size : ℕ
sound_size = most_count * widest

-- column k has a wrong type, key or count
abbrev pub unsound : List ℕ → ℕ → Bool
unsound s k = not (sound (column s k))

-- what a row needs of the column that d defines, `offset` fixed bytes standing before it
unfoldable pub laid_after : Definition → ℕ → ColumnLayout
laid_after d offset = record { kind = kind_of (type_of d.kind); star = d.star; count = count_kept d; offset = offset }

-- what one pass keeps of the columns 1..n, each sound
unfoldable pub kept_of : List ℕ → ℕ → Kept
kept_of s n =
    record {
      names = names_of s n;
      keys = one_to (λ k. (column s k).key) n ++ replicate (most_columns - n) 0;
      cols = laid_out s n ++ replicate (most_columns - n) blank_column;
      width = row_width s n;
      first = first_place s;
      after = place_after s n;
    }

-- by the lowest unsound column, or 0
abbrev pub gathered_as : List ℕ → ℕ → ℕ → Result Kept Refusal
gathered_as s n zero = Ok (kept_of s n)
gathered_as s n (suc k) = Err (refusal 4 (suc k))

unfoldable pub gathered_of : List ℕ → ℕ → Result Kept Refusal
gathered_of s n = gathered_as s n (lowest (unsound s) n)

-- 6 by what was kept
abbrev pub id_laid : ColumnLayout → ℕ → Bool
id_laid l key = is_integer l.kind && (not l.star && (eqb l.count 1 && eqb key key_p))

abbrev pub other_key_in : List ℕ → ℕ → ℕ → Bool
other_key_in keys id k = eqb (get_or keys (pred k) 0) key_p && not (eqb k id)

-- of the column `id`, where there is one
unfoldable pub id_wrong_at : ColumnLayout → List ℕ → ℕ → ℕ → Bool
id_wrong_at c keys n id = not (id_laid c (get_or keys (pred id) 0)) || ltb 0 (lowest (other_key_in keys id) n)

unfoldable pub id_wrong_in : Kept → ℕ → ℕ → Bool
id_wrong_in kept n id = eqb id 0 || id_wrong_at (get_or kept.cols (pred id) blank_column) kept.keys n id

-- 5 for a name, 6: of no more columns than the limit
unfoldable pub name_tests : List ℕ → ℕ → List Refusal
name_tests s n = located 5 (lowest (named_before s) n) ∷ refused_if (id_wrong s n) 6 0 ∷ []

-- 4, 5 for the limit, then those
unfoldable pub column_tests : List ℕ → ℕ → List Refusal
column_tests s n = lowest_of (column_refusal s) n ∷ refused_if (ltb most_columns n) 5 (most_columns + 1) ∷ name_tests s n

-- 3, then those
unfoldable pub text_tests : List ℕ → Scan → List Refusal
text_tests s scan = grammar_refusal scan ∷ column_tests s (columns_of scan)

-- what is handed on of what was kept of n columns, of which `id` is one
abbrev pub judged_from : Order → ℕ → ℕ → ℕ → Kept → Judged
judged_from order start n id kept =
    record {
      header =
          record {
            layout = record { order = order; start = start; columns = n; id = id; width = kept.width; cols = kept.cols };
            names = kept.names;
          };
      first = kept.first;
      after = kept.after;
    }

-- of an accepted header of the head s
abbrev pub accepted_of : Order → ℕ → List ℕ → ℕ → Judged
accepted_of order start s n = judged_from order start n (id_column s n) (kept_of s n)

-- the answer: the refusal, or what is handed on
abbrev pub Judgement : Type 0
Judgement = Result Judged Refusal

unfoldable pub judged_text : Order → List ℕ → Scan → Judgement
judged_text order s scan = unless (first_of (text_tests s scan)) (accepted_of order (length s) s (columns_of scan))

unfoldable pub judged_file : List ℕ → Judgement
judged_file file = unless (header_refusal file) (accepted_of (order_of_file file) (text_length file + 4) (head_of file) (column_count file))

-- the step at a place of an accepted header of n columns
unfoldable pub step_in : List ℕ → ℕ → ℕ → Step
step_in s n place = step_from s n place (starts_at s n place)
