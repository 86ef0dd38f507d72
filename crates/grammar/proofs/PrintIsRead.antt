-- The print of a well-formed reading is read to its end, and its columns are counted.
use mathlib.Core.Path.{◌≡◌, refl, subst}
use mathlib.Core.List.{List, [], ◌∷◌, ◌++◌, append_assoc}
use mathlib.Core.Logic.{inl, inr}
use Prim.Native.Nat.{ℕ, zero, suc, ◌+◌, ◌≤◌, ◌<◌}
use native.Mathlib.Omega.{arith}
use native.Mathlib.Nat.{add-zero, zero-add}
use lib.ListN.{length, get_or}
use borrow.Author.Tests.{lt-ltb}
use Rattle.laws.specs.Machine.{go, Accepts}
use Rattle.grammar.specs.Words as words
use Rattle.grammar.specs.Words.{semicolon, colon, comma, star, Mark, absent, letter_l, letter_m, Form, with_comma, without_comma}
use Rattle.grammar.specs.Words.{Column, Reading, printed_mark, printed_comma, column_then}
use Rattle.grammar.specs.Words.{printed_column, printed_columns, printed, Printable, Count, WellFormedColumn, WellFormedColumns}
use Rattle.grammar.specs.Words.{WellFormed}
use Rattle.grammar.specs.Fields.{rule, printable, plain, digit, holds, allowed}
use Rattle.grammar.specs.Scan.{spot, takes, closes, ends, stars, move, machine, start}
use Rattle.grammar.specs.declared.Field.{Field}
use Rattle.grammar.specs.declared.Field.TheVariants.{OrderLetter, TableDescription, TableNarrative, Name, Kind, Numeral, AfterStar}
use Rattle.grammar.specs.declared.Field.TheVariants.{Key, Description, ValueTable, ThematicIndex, Narrative, ColumnEnd, TextEnd}
use Rattle.grammar.specs.declared.Spot.{Spot}
use Rattle.grammar.proofs.ByteClasses.{Holds, Word, takes_exactly, text_word}
use Rattle.grammar.specs.Scan.{closed}
use Rattle.grammar.proofs.MachineMoves.{take_step, close_step, star_step, closing, ending}

-- ---- words of the paper

pub one_byte : (f : Field) (b : ℕ) → (rule f).least ≤ 1 → 1 ≤ (rule f).most → Holds (rule f).holds 0 b → Word f (b ∷ [])
one_byte f b l m h = record { long = l; short = m; bytes = at }
  where
    at : (k : ℕ) → k < 1 → Holds (rule f).holds k (get_or (b ∷ []) k 0)
    at zero l = h
    at (suc k) l = absurd (omega arith)

pub no_byte : (f : Field) → (rule f).least ≤ 0 → Word f []
no_byte f l = record { long = l; short = omega arith; bytes = λ k h. absurd (none k h) }
  where
    none : (k : ℕ) → k < 0 → ⊥
    none k h = omega arith

mark_word : (m : Mark) → Word OrderLetter (printed_mark m)
mark_word absent = no_byte OrderLetter (omega arith)
mark_word letter_l = one_byte OrderLetter 76 (omega arith) (omega arith) (inl refl)
mark_word letter_m = one_byte OrderLetter 77 (omega arith) (omega arith) (inr refl)

numeral_word : (w : List ℕ) → words.Numeral w → Word Numeral w
numeral_word w n = record { long = n.digits.least-bytes; short = n.digits.most_bytes; bytes = λ k h. (n.digits.bytes k h, first k) }
  where
    first : (k : ℕ) → k ≡ 0 → get_or w k 0 ≡ 48 → ⊥
    first zero e q = n.first_not_0 q
    first (suc k) e q = omega arith

-- a column's print with what follows it
pub column_then_lem : (c : Column) (rest : List ℕ) → printed_column c ++ rest ≡ column_then c (printed_comma c.form ++ (colon ∷ rest))
column_then_lem c rest = simp append_assoc

-- ---- reading, for any spots P that are to be reached

module _ (P : Spot → Type 0) where
  abbrev pub Leads : List ℕ → Spot → Type 0
  Leads s st = Accepts machine P s st

  -- bytes of a field, and a byte that leads from it to another spot once it has enough
  module _ (f : Field) (cols end : ℕ) (to : Spot) (on : (n : ℕ) → (rule f).least ≤ n → machine (spot f n cols) end ≡ go to) (rest : List ℕ)
      (r : Leads rest to) where
    pub feed : (v : List ℕ) (n : ℕ) → ((k : ℕ) → k < length v → Holds (rule f).holds (n + k) (get_or v k 0)) → n + length v ≤ (rule f).most
        → (rule f).least ≤ n + length v → Leads (v ++ (end ∷ rest)) (spot f n cols)
    feed [] n ok short long = rw (on n (omega arith)) r
    feed (b ∷ v) n ok short long =
        let t = (takes_exactly f n b).1 (omega arith, rw add-zero at (ok 0 (omega arith))) in
        rw (take_step f n cols b t)
        (feed v (n + 1) (λ k h. subst (λ (j : ℕ). Holds (rule f).holds j (get_or v k 0)) (shift n k)
        (ok (suc k) (omega arith))) (omega arith) (omega arith))
      where
        shift : (n k : ℕ) → n + suc k ≡ n + 1 + k
        shift n k = omega arith

    word_in : (v : List ℕ) → Word f v → Leads (v ++ (end ∷ rest)) (spot f 0 cols)
    word_in v w = feed v 0 (λ k h. rw zero-add (w.bytes k h)) (omega (arith, w.short)) (omega (arith, w.long))

  pub field_in : (f : Field) (cols : ℕ) (rest v : List ℕ) → Word f v → Leads rest (closed f cols)
      → Leads (v ++ ((rule f).closer ∷ rest)) (spot f 0 cols)
  field_in f cols rest v w r = word_in f cols (rule f).closer (closed f cols) (closing f cols) rest r v w

  pub end_in : (cols : ℕ) → 0 < cols → P (spot TextEnd 0 cols) → Leads (semicolon ∷ []) (spot Name 0 cols)
  unfolding ends move takes closes allowed printable holds plain
  end_in cols h p = rw (lt-ltb 0 cols h) p

  -- a star, or digits
  count_in : (cols : ℕ) (w rest : List ℕ) → Count w → Leads rest (spot Key 0 cols) → Leads (w ++ (comma ∷ rest)) (spot Numeral 0 cols)
  unfolding takes closes ends stars allowed printable holds digit
  count_in cols w rest (inl e) r =
      rw e (rw (star_step Numeral 0 cols star refl refl refl refl) (rw (close_step AfterStar 0 cols comma refl refl) r))
  count_in cols w rest (inr v) r = field_in Numeral cols rest w (numeral_word w v) r

  -- a column's last name, and what ends the column
  last_in : (form : Form) (cols : ℕ) (rest v : List ℕ) → Word Narrative v → Leads rest (spot Name 0 (cols + 1))
      → Leads (v ++ (printed_comma form ++ (colon ∷ rest))) (spot Narrative 0 cols)
  last_in with_comma cols rest v w r =
      field_in Narrative cols (colon ∷ rest) v w (field_in ColumnEnd cols rest [] (no_byte ColumnEnd (omega arith)) r)
  last_in without_comma cols rest v w r = word_in Narrative cols colon (spot Name 0 (cols + 1)) (ending cols) rest r v w

  pub column_in : (c : Column) (cols : ℕ) (rest : List ℕ) → WellFormedColumn c → Leads rest (spot Name 0 (cols + 1))
      → Leads (printed_column c ++ rest) (spot Name 0 cols)
  column_in c cols rest w r =
      let from_narrative = c.narrative ++ (printed_comma c.form ++ (colon ∷ rest)) in
      let from_thematic_index = c.thematic_index ++ (comma ∷ from_narrative) in
      let from_value_table = c.value_table ++ (comma ∷ from_thematic_index) in
      let from_description = c.description ++ (comma ∷ from_value_table) in
      let from_key = c.key ∷ (comma ∷ from_description) in
      let from_count = c.count ++ (comma ∷ from_key) in
      rw (column_then_lem c rest)
      (field_in Name cols (c.type ∷ (comma ∷ from_count)) c.name (text_word Name words.Plain c.name (λ k b h. h) w.name)
      (field_in Kind cols from_count (c.type ∷ []) (one_byte Kind c.type (omega arith) (omega arith) w.type)
      (count_in cols c.count from_key w.count
      (field_in Key cols from_description (c.key ∷ []) (one_byte Key c.key (omega arith) (omega arith) w.key)
      (field_in Description cols from_value_table c.description
      (text_word Description words.Plain c.description (λ k b h. h) w.description)
      (field_in ValueTable cols from_thematic_index c.value_table
      (text_word ValueTable words.Plain c.value_table (λ k b h. h) w.value_table)
      (field_in ThematicIndex cols from_narrative c.thematic_index
      (text_word ThematicIndex words.Plain c.thematic_index (λ k b h. h) w.thematic_index)
      (last_in c.form cols rest c.narrative (text_word Narrative words.Plain c.narrative (λ k b h. h) w.narrative) r))))))))

  columns_in : (cs : List Column) (cols : ℕ) → WellFormedColumns cs → 0 < cols + length cs → P (spot TextEnd 0 (cols + length cs))
      → Leads (printed_columns cs ++ (semicolon ∷ [])) (spot Name 0 cols)
  columns_in [] cols w h p = end_in cols (omega arith) (rw add-zero at p)
  columns_in (c ∷ cs) cols w h p =
      rw (append_assoc (printed_column c) (printed_columns cs) (semicolon ∷ []))
      (column_in c cols (printed_columns cs ++ (semicolon ∷ [])) w.0
      (columns_in cs (cols + 1) w.1 (omega arith) (subst (λ (k : ℕ). P (spot TextEnd 0 k)) (shift cols (length cs)) p)))
    where
      shift : (n k : ℕ) → n + suc k ≡ n + 1 + k
      shift n k = omega arith

  pub text_in : (h : Reading) → WellFormed h → P (spot TextEnd 0 (length h.columns)) → Leads (printed h) start
  text_in h w p =
      field_in OrderLetter 0 _ (printed_mark h.mark) (mark_word h.mark)
      (field_in TableDescription 0 _ h.description
      (text_word TableDescription (λ b. Printable b × words.NoSemicolon b) h.description (λ k b x. x) w.description)
      (field_in TableNarrative 0 _ h.narrative
      (text_word TableNarrative (λ b. Printable b × words.NoSemicolon b) h.narrative (λ k b x. x) w.narrative)
      (columns_in h.columns 0 w.columns (omega (arith, w.one_or_more)) (rw zero-add p))))
