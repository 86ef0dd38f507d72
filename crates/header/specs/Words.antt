-- "A header is accepted exactly when it meets the grammar, its column rules and its limits, with one reading": the rules in the
-- paper's words, over a reading of the text.
use Rattle.std.specs.Prelude.{◌≡◌, ◌⊎◌, ◌↔◌, true, false, List, [], ◌∷◌, ℕ, ◌+◌, ◌≤◌, ◌<◌, length, get_or, take, drop, Some}
use Rattle.laws.specs.Lowest.{In}
use Rattle.number.specs.declared.Order.{Order}
use Rattle.number.specs.declared.Order.TheVariants.{Least, Most}
use Rattle.number.specs.Bytes.{number}
use Rattle.grammar.specs.Words as words
use Rattle.field.specs.declared.FieldType.{FieldType}
use Rattle.field.specs.Fields.{type_of, count_right}
use Rattle.header.specs.declared.Definition.{Definition}
use Rattle.header.specs.Places.{decimal, part}
use Rattle.header.specs.Names.{same_text}
use Rattle.limits.specs.Limits.{most_text, most_columns}
use Rattle.header.specs.Judge.{id_name, key_p}

-- column k of a reading, from 1
abbrev pub no_column : words.Column
no_column =
    record {
      name = [];
      type = 0;
      count = [];
      key = 0;
      description = [];
      value_table = [];
      thematic_index = [];
      narrative = [];
      form = words.with_comma;
    }

abbrev pub column_at : words.Reading → ℕ → words.Column
column_at h k = get_or (no_column ∷ h.columns) k no_column

-- the byte order that byte 4 gives
pub data OrderIs : ℕ → Order → Type 0 where
  by_l : OrderIs 76 Least
  by_m : OrderIs 77 Most
  by_none : OrderIs 59 Least

-- "Letters not listed, keys other than P, U, N, and counts above 65,535 or wrong for the type are 4."
pub record ColumnSound (c : words.Column) : Type 0 where
  pub kind : FieldType
  pub listed : type_of c.type ≡ Some kind
  pub key : (c.key ≡ 80) ⊎ ((c.key ≡ 85) ⊎ (c.key ≡ 78))
  pub count : ((c.count ≡ words.star ∷ []) × (count_right kind true 0 ≡ true)) ⊎ (words.Numeral c.count × (count_right kind false (decimal 0 c.count) ≡ true))

-- "Exactly one column is named `id` (letters of either case), with type I, count 1, key P; no other column has key P."
pub record OneId (h : words.Reading) : Type 0 where
  pub id : ℕ
  pub within : In (length h.columns) id
  pub named : same_text (column_at h id).name id_name ≡ true
  pub only : (k : ℕ) → In (length h.columns) k → same_text (column_at h k).name id_name ≡ true → k ≡ id
  pub type_i : (column_at h id).type ≡ 73
  pub count_1 : (column_at h id).count ≡ 49 ∷ []
  pub has_key_p : (column_at h id).key ≡ key_p
  pub no_other_p : (k : ℕ) → In (length h.columns) k → (column_at h k).key ≡ key_p → k ≡ id

-- the column rules, and the limit of columns
pub record ColumnRules (h : words.Reading) : Type 0 where
  pub sound : (k : ℕ) → In (length h.columns) k → ColumnSound (column_at h k)
  pub columns_limit : length h.columns ≤ most_columns
  pub names_differ : (i j : ℕ) → In (length h.columns) j → 0 < i → i < j → same_text (column_at h i).name (column_at h j).name ≡ true → ⊥
  pub one_id : OneId h

-- A HEADER IS ACCEPTED EXACTLY WHEN these hold of it and some reading h
pub record AcceptedHeader (file : List ℕ) (h : words.Reading) : Type 0 where
  pub order : Order
  pub five_bytes : 5 ≤ length file
  pub letter : OrderIs (get_or file 4 0) order
  pub text_fits : number order file 0 4 + 4 ≤ length file
  pub text_limit : number order file 0 4 ≤ most_text
  pub reads : words.Reads (take (number order file 0 4) (drop 4 file)) h
  pub rules : ColumnRules h

-- the definition d at the place p of s shows the column c: each field's part, the type, the key, the count, "which form stood there",
-- and the place just past its print
pub record Shows (s : List ℕ) (p : ℕ) (c : words.Column) (d : Definition) : Type 0 where
  pub name-at : d.name.start ≡ p
  pub name : part s d.name ≡ c.name
  pub type : d.kind ≡ c.type
  pub star : (d.star ≡ true → c.count ≡ words.star ∷ []) × (c.count ≡ words.star ∷ [] → d.star ≡ true)
  pub count : words.Numeral c.count → d.count ≡ decimal 0 c.count
  pub key : d.key ≡ c.key
  pub description : part s d.description ≡ c.description
  pub value_table : part s d.value ≡ c.value_table
  pub thematic_index : part s d.thematic ≡ c.thematic_index
  pub narrative : part s d.narrative ≡ c.narrative
  pub form : (d.comma ≡ true) ↔ (c.form ≡ words.with_comma)
  pub after : d.after ≡ p + length (words.printed_column c)
