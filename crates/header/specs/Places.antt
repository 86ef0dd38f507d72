-- Where things lie in a header. `s` is the head of the file: the four bytes of L and the text. In a text of the grammar a field
-- ends at the next byte that separates, so places are found by seeking that byte.
use Rattle.std.specs.Prelude.{cond, List, [], ◌∷◌, ℕ, zero, suc, pred, ◌+◌, ◌-◌, ◌*◌, eqb, ltb, length, get_or, take, drop}
use Rattle.grammar.specs.Words.{semicolon, colon, comma, equals, star}
use Rattle.header.specs.declared.Span.{Span}
use Rattle.header.specs.declared.Definition.{Definition}

-- how many elements stand before the first b
abbrev pub before : ℕ → List ℕ → ℕ
before b [] = 0
before b (x ∷ l) = cond (eqb x b) 0 (suc (before b l))

-- the first place from p on that holds b, or the length
unfoldable pub seek : List ℕ → ℕ → ℕ → ℕ
seek s p b = cond (ltb p (length s)) (p + before b (drop p s)) (length s)

-- the number that digits say, on top of `acc`
abbrev pub decimal : ℕ → List ℕ → ℕ
decimal acc [] = acc
decimal acc (d ∷ l) = decimal (acc * 10 + (d - 48)) l

-- "a count is `*` or 1 to 5 digits"
abbrev pub most_digits : ℕ
most_digits = 5

-- the number of the count that stands from p to e
unfoldable pub count_of : List ℕ → ℕ → ℕ → ℕ
count_of s p e = decimal 0 (take most_digits (take (e - p) (drop p s)))

-- the part of s that a span says
abbrev pub part : List ℕ → Span → List ℕ
part s x = take (x.end - x.start) (drop x.start s)

-- the ends of the fields of the definition at p
abbrev pub name_end : List ℕ → ℕ → ℕ
name_end s p = seek s p equals

abbrev pub count_end : List ℕ → ℕ → ℕ
count_end s p = seek s (name_end s p + 3) comma

abbrev pub description_end : List ℕ → ℕ → ℕ
description_end s p = seek s (count_end s p + 3) comma

abbrev pub value_table_end : List ℕ → ℕ → ℕ
value_table_end s p = seek s (description_end s p + 1) comma

abbrev pub thematic_index_end : List ℕ → ℕ → ℕ
thematic_index_end s p = seek s (value_table_end s p + 1) comma

-- a column ends at its colon, whichever form it has
abbrev pub column_end : List ℕ → ℕ → ℕ
column_end s p = seek s (thematic_index_end s p + 1) colon

-- the last name ends at the comma just before the colon at e, and where that comma is missing at the colon
abbrev pub last_end : List ℕ → ℕ → ℕ
last_end s e = cond (eqb (get_or s (pred e) 0) comma) (pred e) e

abbrev pub narrative_end : List ℕ → ℕ → ℕ
narrative_end s p = last_end s (column_end s p)

abbrev pub span : ℕ → ℕ → Span
span p e = record { start = p; end = e }

-- THE DEFINITION at the place p: where each field lies, the type, the count, the key, whether the last comma stands, and the place
-- after its `:`
unfoldable pub definition : List ℕ → ℕ → Definition
definition s p =
    record {
      name = span p (name_end s p);
      kind = get_or s (name_end s p + 1) 0;
      star = eqb (get_or s (name_end s p + 3) 0) star;
      count = count_of s (name_end s p + 3) (count_end s p);
      key = get_or s (count_end s p + 1) 0;
      comma = ltb (narrative_end s p) (column_end s p);
      description = span (count_end s p + 3) (description_end s p);
      value = span (description_end s p + 1) (value_table_end s p);
      thematic = span (value_table_end s p + 1) (thematic_index_end s p);
      narrative = span (thematic_index_end s p + 1) (narrative_end s p);
      after = column_end s p + 1;
    }

-- the first definition: past the third `;`, the first two fields holding none
unfoldable pub first_place : List ℕ → ℕ
first_place s = seek s (seek s (seek s 4 semicolon + 1) semicolon + 1) semicolon + 1

-- the place after k definitions; column k stands at the place after k - 1
unfoldable pub place_after : List ℕ → ℕ → ℕ
place_after s zero = first_place s
place_after s (suc k) = (definition s (place_after s k)).after

abbrev pub column : List ℕ → ℕ → Definition
column s k = definition s (place_after s (pred k))
