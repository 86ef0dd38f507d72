-- What each refusal of a header says, in the paper's words: the tests by name, what each asks, and when it fails with which number
-- at which place.
use Rattle.std.specs.Prelude.{◌≡◌, ◌⊎◌, true, List, ℕ, ◌+◌, ◌≤◌, ◌<◌, length, get_or, take, drop}
use Rattle.laws.specs.Lowest.{Each, LowestFailing}
use Rattle.number.specs.declared.Order.{Order}
use Rattle.number.specs.Bytes.{number}
use Rattle.grammar.specs.Words.{Reading, Reads, FirstBad, EndsTooSoon}
use Rattle.header.specs.Names.{same_text}
use Rattle.limits.specs.Limits.{most_text, most_columns}
use Rattle.header.specs.Words.{column_at, OrderIs, ColumnSound, OneId}

-- "Four bytes L .. Byte 4 .. governs every number in the file, L included": in the order that byte 4 gives, L is l
pub record SaysLength (file : List ℕ) (l : ℕ) : Type 0 where
  pub order : Order
  pub letter : OrderIs (get_or file 4 0) order
  pub says : number order file 0 4 ≡ l

-- "then L bytes of text"
abbrev pub text_in : List ℕ → ℕ → List ℕ
text_in file l = take l (drop 4 file)

-- h is the reading of the file's text
pub record TextReads (file : List ℕ) (h : Reading) : Type 0 where
  pub text_length : ℕ
  pub says : SaysLength file text_length
  pub reads : Reads (text_in file text_length) h

-- P holds of L; P holds of the reading of the text
abbrev pub OfLength : List ℕ → (ℕ → Type 0) → Type 0
OfLength file P = (l : ℕ) × SaysLength file l × P l

abbrev pub OfReading : List ℕ → (Reading → Type 0) → Type 0
OfReading file P = (h : Reading) × TextReads file h × P h

-- 3 at "first byte that cannot continue, or L + 4": places count from the file's first byte
pub record LeavesGrammar (s : List ℕ) (p : ℕ) : Type 0 where
  pub byte : ℕ
  pub place : p ≡ byte + 4
  pub leaves : FirstBad s byte ⊎ ((byte ≡ length s) × EndsTooSoon s)

-- "Two columns with one name are refused at the first such pair (lowest later column)": no earlier column has the name of column j
abbrev pub NotNamedBefore : Reading → ℕ → Type 0
NotNamedBefore h j = (i : ℕ) → 0 < i → i < j → same_text (column_at h i).name (column_at h j).name ≡ true → ⊥

abbrev pub AllSound : Reading → Type 0
AllSound h = Each (length h.columns) (λ k. ColumnSound (column_at h k))

abbrev pub NamesDiffer : Reading → Type 0
NamesDiffer h = Each (length h.columns) (NotNamedBefore h)

-- ---- the tests by name: "1, 2, 1, 15, 3 over the whole text, 4 by column, 5, 6"
pub data Test : Type 0 where
  five_bytes : Test
  order_letter : Test
  text_fits : Test
  text_limit : Test
  in_grammar : Test
  columns_sound : Test
  columns_limit : Test
  names_differ : Test
  one_id : Test

-- the place of each test in the order
abbrev pub rank : Test → ℕ
rank five_bytes = 0
rank order_letter = 1
rank text_fits = 2
rank text_limit = 3
rank in_grammar = 4
rank columns_sound = 5
rank columns_limit = 6
rank names_differ = 7
rank one_id = 8

-- what each test asks
abbrev pub Holds : List ℕ → Test → Type 0
Holds file five_bytes = 5 ≤ length file
Holds file order_letter = (o : Order) × OrderIs (get_or file 4 0) o
Holds file text_fits = OfLength file (λ l. l + 4 ≤ length file)
Holds file text_limit = OfLength file (λ l. l ≤ most_text)
Holds file in_grammar = (h : Reading) × TextReads file h
Holds file columns_sound = OfReading file AllSound
Holds file columns_limit = OfReading file (λ h. length h.columns ≤ most_columns)
Holds file names_differ = OfReading file NamesDiffer
Holds file one_id = OfReading file OneId

-- this test fails, with the number n at the place p
abbrev pub FailsAt : List ℕ → Test → ℕ → ℕ → Type 0
FailsAt file five_bytes n p = (n ≡ 1) × (p ≡ length file) × (length file < 5)
FailsAt file order_letter n p = (n ≡ 2) × (p ≡ 4) × (Holds file order_letter → ⊥)
FailsAt file text_fits n p = (n ≡ 1) × (p ≡ length file) × OfLength file (λ l. length file < l + 4)
FailsAt file text_limit n p = (n ≡ 15) × (p ≡ 0) × OfLength file (λ l. most_text < l)
FailsAt file in_grammar n p = (n ≡ 3) × OfLength file (λ l. LeavesGrammar (text_in file l) p)
FailsAt file columns_sound n p = (n ≡ 4) × OfReading file (λ h. LowestFailing (length h.columns) (λ k. ColumnSound (column_at h k)) p)
FailsAt file columns_limit n p = (n ≡ 5) × (p ≡ most_columns + 1) × OfReading file (λ h. most_columns < length h.columns)
FailsAt file names_differ n p = (n ≡ 5) × OfReading file (λ h. LowestFailing (length h.columns) (NotNamedBefore h) p)
FailsAt file one_id n p = (n ≡ 6) × (p ≡ 0) × OfReading file (λ h. OneId h → ⊥)

-- A HEADER IS REFUSED WITH n AT p EXACTLY WHEN a test fails so and all earlier ones hold
pub record RefusedWith (file : List ℕ) (n p : ℕ) : Type 0 where
  pub test : Test
  pub earlier : (x : Test) → rank x < rank test → Holds file x
  pub fails : FailsAt file test n p
