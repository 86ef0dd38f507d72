-- "Table order: 1, 2, 1, 15, 3 over the whole text, 4 by column, 5, 6": the tests of a header, and the answer.
use Rattle.std.specs.Prelude.{Bool, true, false, cond, not, ◌&&◌, ◌||◌, List, [], ◌∷◌, ℕ, ◌+◌, eqb, ltb, length, get_or, take, drop, Option, Some, None, Ok, Err}
use Rattle.laws.specs.Lowest.{lowest}
use Rattle.laws.specs.Texts.{bytes}
use Rattle.refusal.specs.declared.Refusal.{Refusal}
use Rattle.refusal.specs.Order.{refusal, fine, refused_if, located, lowest_of, first_of}
use Rattle.limits.specs.Limits.{most_text, most_columns}
use Rattle.number.specs.declared.Order.{Order}
use Rattle.number.specs.declared.Order.TheVariants.{Least}
use Rattle.number.specs.Bytes.{order_of, number}
use Rattle.grammar.specs.Scan.{Scan, scan_of}
use Rattle.field.specs.declared.FieldType.{FieldType}
use Rattle.field.specs.Fields.{type_of, count_right}
use Rattle.header.specs.declared.Definition.{Definition}
use Rattle.header.specs.Places.{column}
use Rattle.header.specs.Names.{named_before, column_named}

-- "Byte 4 ... governs every number in the file, L included."
abbrev pub order_byte : List ℕ → ℕ
order_byte file = get_or file 4 0

abbrev pub listed : Option Order → Bool
listed (Some o) = true
listed None = false

abbrev pub or_else_least : Option Order → Order
or_else_least (Some o) = o
or_else_least None = Least

unfoldable pub order_of_file : List ℕ → Order
order_of_file file = or_else_least (order_of (order_byte file))

-- L
unfoldable pub text_length : List ℕ → ℕ
text_length file = number (order_of_file file) file 0 4

-- the four bytes of L and the text
unfoldable pub head_of : List ℕ → List ℕ
head_of file = take (text_length file + 4) file

abbrev pub text_of : List ℕ → List ℕ
text_of file = drop 4 (head_of file)

-- 3 at "first byte that cannot continue, or L + 4": places count from the file's first byte
abbrev pub grammar_refusal : Scan → Refusal
grammar_refusal (Ok n) = fine
grammar_refusal (Err i) = refusal 3 (i + 4)

abbrev pub columns_of : Scan → ℕ
columns_of (Ok n) = n
columns_of (Err i) = 0

unfoldable pub column_count : List ℕ → ℕ
column_count file = columns_of (scan_of (text_of file))

-- "keys other than P, U, N"
abbrev pub key_p : ℕ
key_p = 80

unfoldable pub key_listed : ℕ → Bool
key_listed b = cond (eqb b key_p) true (cond (eqb b 85) true (eqb b 78))

-- "Letters not listed, keys other than P, U, N, and counts above 65,535 or wrong for the type are 4."
abbrev pub sound_as : Option FieldType → Definition → Bool
sound_as (Some t) d = cond (key_listed d.key) (count_right t d.star d.count) false
sound_as None d = false

unfoldable pub sound : Definition → Bool
sound d = sound_as (type_of d.kind) d

abbrev pub column_refusal : List ℕ → ℕ → Refusal
column_refusal s k = refused_if (not (sound (column s k))) 4 k

-- "Exactly one column is named `id` (letters of either case), with type I, count 1, key P; no other column has key P."
abbrev pub id_name : List ℕ
id_name = bytes "id"

abbrev pub id_sound : Definition → Bool
id_sound d = eqb d.kind 73 && (not d.star && (eqb d.count 1 && eqb d.key key_p))

-- a column other than `id` has key P
abbrev pub other_key_p : List ℕ → ℕ → ℕ → Bool
other_key_p s id k = eqb (column s k).key key_p && not (eqb k id)

unfoldable pub id_column : List ℕ → ℕ → ℕ
id_column s n = column_named s n id_name

unfoldable pub id_wrong : List ℕ → ℕ → Bool
id_wrong s n = eqb (id_column s n) 0 || (not (id_sound (column s (id_column s n))) || ltb 0 (lowest (other_key_p s (id_column s n)) n))

-- the tests in document 01's order
abbrev pub tests : List ℕ → List Refusal
tests file =
    refused_if (ltb (length file) 5) 1 (length file)
    ∷ refused_if (not (listed (order_of (order_byte file)))) 2 4
    ∷ refused_if (ltb (length file) (text_length file + 4)) 1 (length file)
    ∷ refused_if (ltb most_text (text_length file)) 15 0
    ∷ grammar_refusal (scan_of (text_of file))
    ∷ lowest_of (column_refusal (head_of file)) (column_count file)
    ∷ refused_if (ltb most_columns (column_count file)) 5 (most_columns + 1)
    ∷ located 5 (lowest (named_before (head_of file)) (column_count file))
    ∷ refused_if (id_wrong (head_of file) (column_count file)) 6 0
    ∷ []

-- THE HEADER'S JUDGEMENT
unfoldable pub header_refusal : List ℕ → Refusal
header_refusal file = first_of (tests file)
