-- The header text in the paper's words: a reading, how it is printed, and when it is well formed. A text is in the grammar when
-- it is the print of a well-formed reading.
use Rattle.std.specs.Prelude.{◌≡◌, ◌⊎◌, List, [], ◌∷◌, ◌++◌, ℕ, suc, ◌≤◌, ◌<◌, length, get_or, take}

-- the bytes that separate, and the star
abbrev pub semicolon : ℕ
semicolon = 59

abbrev pub colon : ℕ
colon = 58

abbrev pub comma : ℕ
comma = 44

abbrev pub equals : ℕ
equals = 61

abbrev pub star : ℕ
star = 42

-- "Byte 4 is `L`, `M` or `;` (no order letter; read as `L`)"
pub data Mark : Type 0 where
  absent : Mark
  letter_l : Mark
  letter_m : Mark

-- document 02, No. 5: "Document 01 demands a comma before each colon. .. Accept a column with that comma missing."
pub data Form : Type 0 where
  with_comma : Form
  without_comma : Form

-- a column's eight fields, and "which form stood there". Type and key "are one byte each"
pub record Column : Type 0 where
  pub name : List ℕ
  pub type : ℕ
  pub count : List ℕ
  pub key : ℕ
  pub description : List ℕ
  pub value_table : List ℕ
  pub thematic_index : List ℕ
  pub narrative : List ℕ
  pub form : Form

pub record Reading : Type 0 where
  pub mark : Mark
  pub description : List ℕ
  pub narrative : List ℕ
  pub columns : List Column

-- ---- printed

abbrev pub printed_mark : Mark → List ℕ
printed_mark absent = []
printed_mark letter_l = 76 ∷ []
printed_mark letter_m = 77 ∷ []

abbrev pub printed_comma : Form → List ℕ
printed_comma with_comma = comma ∷ []
printed_comma without_comma = []

-- "name (1 to 24), `=`, type, `,`, count, `,`, key, `,`, description (0 to 80), `,`, then value table, thematic index and narrative
-- names (1 to 12 each), each followed by `,`, then `:`": up to the narrative name, and what follows it
abbrev pub column_then : Column → List ℕ → List ℕ
column_then c rest =
    c.name ++ (equals ∷ (c.type ∷ (comma ∷ (c.count ++ (comma ∷ (c.key ∷ (comma ∷ (c.description ++ (comma ∷
    (c.value_table ++ (comma ∷ (c.thematic_index ++ (comma ∷ (c.narrative ++ rest))))))))))))))

-- the comma before the colon as the form says
abbrev pub printed_column : Column → List ℕ
printed_column c = column_then c (printed_comma c.form ++ (colon ∷ []))

abbrev pub printed_columns : List Column → List ℕ
printed_columns [] = []
printed_columns (c ∷ cs) = printed_column c ++ printed_columns cs

-- "optional order letter, `;`, table description (0 to 80 bytes), `;`, narrative file name (1 to 12), `;`, one or more columns, `;`, and
-- nothing more within L"
abbrev pub printed : Reading → List ℕ
printed h =
    printed_mark h.mark ++ (semicolon ∷ (h.description ++ (semicolon ∷ (h.narrative ++ (semicolon ∷ (printed_columns h.columns ++ (semicolon ∷ [])))))))

-- ---- well formed

-- "Bytes are 32 to 126."
abbrev pub Printable : ℕ → Type 0
Printable b = (32 ≤ b) × (b ≤ 126)

-- "The first two fields may hold anything but `;`"
abbrev pub NoSemicolon : ℕ → Type 0
NoSemicolon b = b ≡ semicolon → ⊥

-- "column fields hold none of `; : , =`"
pub record Plain (b : ℕ) : Type 0 where
  pub printable : Printable b
  pub no_semicolon : b ≡ semicolon → ⊥
  pub no_colon : b ≡ colon → ⊥
  pub no_comma : b ≡ comma → ⊥
  pub no_equals : b ≡ equals → ⊥

-- least to most bytes, each of them allowed
pub record Text (least most : ℕ) (Allowed : ℕ → Type 0) (w : List ℕ) : Type 0 where
  pub least-bytes : least ≤ length w
  pub most_bytes : length w ≤ most
  pub bytes : (k : ℕ) → k < length w → Allowed (get_or w k 0)

abbrev pub Digit : ℕ → Type 0
Digit b = (48 ≤ b) × (b ≤ 57)

-- "a count is `*` or 1 to 5 digits, the first not 0"
pub record Numeral (w : List ℕ) : Type 0 where
  pub digits : Text 1 5 Digit w
  pub first_not_0 : get_or w 0 0 ≡ 48 → ⊥

abbrev pub Count : List ℕ → Type 0
Count w = (w ≡ star ∷ []) ⊎ Numeral w

pub record WellFormedColumn (c : Column) : Type 0 where
  pub name : Text 1 24 Plain c.name
  pub type : Plain c.type
  pub count : Count c.count
  pub key : Plain c.key
  pub description : Text 0 80 Plain c.description
  pub value_table : Text 1 12 Plain c.value_table
  pub thematic_index : Text 1 12 Plain c.thematic_index
  pub narrative : Text 1 12 Plain c.narrative

abbrev pub WellFormedColumns : List Column → Type 0
WellFormedColumns [] = Unit {0}
WellFormedColumns (c ∷ cs) = WellFormedColumn c × WellFormedColumns cs

pub record WellFormed (h : Reading) : Type 0 where
  pub description : Text 0 80 (λ b. Printable b × NoSemicolon b) h.description
  pub narrative : Text 1 12 (λ b. Printable b × NoSemicolon b) h.narrative
  pub columns : WellFormedColumns h.columns
  pub one_or_more : 0 < length h.columns

-- ---- the grammar

-- h is a reading of s
pub record Reads (s : List ℕ) (h : Reading) : Type 0 where
  pub well_formed : WellFormed h
  pub print : printed h ≡ s

abbrev pub InGrammar : List ℕ → Type 0
InGrammar s = (h : Reading) × Reads s h

-- some text of the grammar begins with these bytes
abbrev pub Begins : List ℕ → Type 0
Begins s = (t : List ℕ) × InGrammar (s ++ t)

-- "first byte that cannot continue"
pub record FirstBad (s : List ℕ) (i : ℕ) : Type 0 where
  pub inside : i < length s
  pub before : Begins (take i s)
  pub with_it : Begins (take (suc i) s) → ⊥

-- "or L + 4": all of the text begins one and is none
pub record EndsTooSoon (s : List ℕ) : Type 0 where
  pub begins : Begins s
  pub none : InGrammar s → ⊥
