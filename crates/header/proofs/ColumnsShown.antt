-- In a head whose text is the print of a well-formed reading, seeking the separators finds each column's print, and the definition
-- there shows the column.
use mathlib.Core.Path.{◌≡◌, refl, sym, ap, ◌∙◌}
use mathlib.Core.Logic.{◌↔◌, inl, inr}
use mathlib.Core.Bool.{true}
use mathlib.Core.List.{List, [], ◌∷◌, ◌++◌, append_assoc, append-nil}
use Prim.Native.Nat.{ℕ, zero, suc, pred, ◌+◌, ◌-◌, ◌≤◌, ◌<◌}
use native.Mathlib.Omega.{arith}
use native.Mathlib.Nat.{add-zero}
use lib.Dec.{eqb, ltb}
use lib.ListN.{length, get_or, take, drop, length-append, get_or-append}
use lib.Seq.{drop-cons, drop-length, take_all, get_or-drop}
use borrow.Author.Tests.{lt-ltb, ltb-true, ne_eqb, eqb-true, eq-eqb}
use Rattle.laws.proofs.SeparatorLaws.{Lacks, lacks_tail}
use Rattle.laws.proofs.TestLaws.{clash}
use Rattle.laws.proofs.PlaceLaws.{stands_inside, stands_byte, stands_past, stands_next, stands_part}
use Rattle.grammar.specs.Words.{semicolon, colon, comma, equals, star, Form, with_comma, without_comma, Column, Reading, printed_mark}
use Rattle.grammar.specs.Words.{printed_comma, printed_column, printed_columns, printed}
use Rattle.grammar.specs.Words.{Numeral, Count, WellFormedColumn, WellFormedColumns, Reads}
use Rattle.grammar.proofs.PrintIsRead.{column_then_lem}
use Rattle.grammar.proofs.ColumnFacts.{name_lacks_equals, count_lacks, description_lacks, value_table_lacks, thematic_index_lacks}
use Rattle.grammar.proofs.ColumnFacts.{narrative_lacks, last_lacks_colon, mark_lacks_semicolon, table_description_lacks, table_narrative_lacks}
use Rattle.header.specs.Places.{before, seek, decimal, count_of, part, span, name_end, count_end, description_end, value_table_end}
use Rattle.header.specs.Places.{thematic_index_end, column_end, last_end, narrative_end, definition, first_place, place_after, column}
use Rattle.header.specs.Words.{no_column, column_at, Shows}

-- ---- the first separator

before_first : (b : ℕ) (xs t : List ℕ) → Lacks b xs → before b (xs ++ (b ∷ t)) ≡ length xs
before_first b [] t l = rw (eq-eqb b b refl)
before_first b (x ∷ xs) t l = rw (ne_eqb x b (l 0 (omega arith))) (ap suc (before_first b xs t (lacks_tail b x xs l)))

-- the field xs stands at the place p of s, and b closes it
module _ (s : List ℕ) (p b : ℕ) (xs t : List ℕ) (e : drop p s ≡ xs ++ (b ∷ t)) (l : Lacks b xs) where
  pub seek_to : seek s p b ≡ p + length xs
  unfolding seek
  seek_to =
      let i : p < length s = inside xs e in
      rw (lt-ltb p (length s) i, e, before_first b xs t l)
    where
      inside : (ys : List ℕ) → drop p s ≡ ys ++ (b ∷ t) → p < length s
      inside [] q = stands_inside s p b t q
      inside (y ∷ ys) q = stands_inside s p y (ys ++ (b ∷ t)) q

  pub field_part : part s (span p (seek s p b)) ≡ xs
  field_part =
      let q : seek s p b - p ≡ length xs = omega (arith, seek_to) in
      ap (λ (k : ℕ). take k (drop p s)) q ∙ stands_part s p xs (b ∷ t) e

  pub field_closer : drop (seek s p b) s ≡ b ∷ t
  field_closer = rw seek_to (stands_past s p xs (b ∷ t) e)

  pub field_next : drop (seek s p b + 1) s ≡ t
  field_next = stands_next s (seek s p b) b t field_closer

-- ---- the first byte of a count tells a star from digits

star_first : (w t : List ℕ) → Count w → (eqb (get_or (w ++ t) 0 0) star ≡ true → w ≡ star ∷ [])
    × (w ≡ star ∷ [] → eqb (get_or (w ++ t) 0 0) star ≡ true)
star_first w t (inl q) = (λ h. q, λ h. rw q)
star_first [] t (inr v) = absurd (omega (arith, v.digits.least-bytes))
star_first (x ∷ w) t (inr v) =
    let d = v.digits.bytes 0 (omega arith) in
    let q : x ≡ star → ⊥ = λ e. omega arith in
    (λ h. absurd (q (eqb-true x star h)), λ h. absurd (q (ap (λ (l : List ℕ). get_or l 0 0) h)))

-- ---- a column's print, at the place p

print_length : (c : Column) → length (printed_column c)
    ≡ length c.name + length c.count + length c.description + length c.value_table + length
    c.thematic_index + length c.narrative + length (printed_comma c.form) + 10
print_length c = simp length-append (omega arith)

-- ---- where a column's last name ends, and whether its comma stands

module _ (s : List ℕ) (q : ℕ) (xs : List ℕ) (some : 1 ≤ length xs) (l : Lacks comma xs) where
  -- the name's last byte is no comma
  last_byte : (t : List ℕ) → drop q s ≡ xs ++ t → get_or s (pred (q + length xs)) 0 ≡ comma → ⊥
  last_byte t e z =
      let k = pred (length xs) in
      let j : pred (q + length xs) ≡ q + k = omega arith in
      l k (omega arith) (sym (get_or-append xs t 0 k (omega arith)) ∙ ap (λ (w : List ℕ). get_or w k 0) (sym e) ∙ get_or-drop q s k 0
      ∙ ap (λ (w : ℕ). get_or s w 0) (sym j) ∙ z)

  -- e is the colon that ends a column of the form, whose last name is xs
  last_ends : (f : Form) (t : List ℕ) (e : ℕ) → drop q s ≡ xs ++ (printed_comma f ++ t) → e ≡ q + length (xs ++ printed_comma f)
      → (last_end s e ≡ q + length xs) × ((ltb (last_end s e) e ≡ true) ↔ (f ≡ with_comma))
  last_ends with_comma t e d h =
      let k : pred e ≡ q + length xs = omega (arith, h, length-append xs (comma ∷ [])) in
      let b : get_or s (pred e) 0 ≡ comma = rw k (stands_byte s (q + length xs) comma t (stands_past s q xs (comma ∷ t) d)) in
      let r : last_end s e ≡ q + length xs = rw (eq-eqb (get_or s (pred e) 0) comma b) k in
      (r, (λ _. refl, λ _. lt-ltb (last_end s e) e (omega (arith, r, h, length-append xs (comma ∷ [])))))
  last_ends without_comma t e d h =
      let k : e ≡ q + length xs = h ∙ ap (λ (w : List ℕ). q + length w) (append-nil xs) in
      let b : get_or s (pred e) 0 ≡ comma → ⊥ = rw k (last_byte t d) in
      let r : last_end s e ≡ e = rw (ne_eqb (get_or s (pred e) 0) comma b) in
      (r ∙ k, (λ z. absurd (omega (arith, r, ltb-true (last_end s e) e z)), λ z. clash (cc z)))

moved : (s : List ℕ) (p q : ℕ) (t : List ℕ) → p ≡ q → drop p s ≡ t → drop q s ≡ t
moved s p q t e h = rw (← e) h

module _ (s : List ℕ) (p : ℕ) (c : Column) (rest : List ℕ) (w : WellFormedColumn c) (e : drop p s ≡ printed_column c ++ rest) where
  abbrev from_narrative : List ℕ
  from_narrative = c.narrative ++ (printed_comma c.form ++ (colon ∷ rest))

  abbrev from_thematic_index : List ℕ
  from_thematic_index = c.thematic_index ++ (comma ∷ from_narrative)

  abbrev from_value_table : List ℕ
  from_value_table = c.value_table ++ (comma ∷ from_thematic_index)

  abbrev from_description : List ℕ
  from_description = c.description ++ (comma ∷ from_value_table)

  abbrev from_key : List ℕ
  from_key = c.key ∷ (comma ∷ from_description)

  abbrev from_count : List ℕ
  from_count = c.count ++ (comma ∷ from_key)

  -- each field stands where the one before it was closed
  name_stands : drop p s ≡ c.name ++ (equals ∷ (c.type ∷ (comma ∷ from_count)))
  name_stands = e ∙ column_then_lem c rest

  type_stands : drop (name_end s p + 1) s ≡ c.type ∷ (comma ∷ from_count)
  type_stands = field_next s p equals c.name (c.type ∷ (comma ∷ from_count)) name_stands (name_lacks_equals c w)

  count_stands : drop (name_end s p + 3) s ≡ from_count
  count_stands = moved s (name_end s p + 1 + 2) (name_end s p + 3) from_count (omega arith)
      (stands_past s (name_end s p + 1) (c.type ∷ (comma ∷ [])) from_count type_stands)

  key_stands : drop (count_end s p + 1) s ≡ from_key
  key_stands = field_next s (name_end s p + 3) comma c.count from_key count_stands (count_lacks c w)

  description_stands : drop (count_end s p + 3) s ≡ from_description
  description_stands = moved s (count_end s p + 1 + 2) (count_end s p + 3) from_description (omega arith)
      (stands_past s (count_end s p + 1) (c.key ∷ (comma ∷ [])) from_description key_stands)

  value_table_stands : drop (description_end s p + 1) s ≡ from_value_table
  value_table_stands = field_next s (count_end s p + 3) comma c.description from_value_table description_stands (description_lacks c w)

  thematic_index_stands : drop (value_table_end s p + 1) s ≡ from_thematic_index
  thematic_index_stands = field_next s (description_end s p + 1) comma
      c.value_table from_thematic_index value_table_stands (value_table_lacks c w)

  narrative_stands : drop (thematic_index_end s p + 1) s ≡ from_narrative
  narrative_stands = field_next s (value_table_end s p + 1) comma c.thematic_index from_narrative thematic_index_stands
      (thematic_index_lacks c w)

  -- the ends of the fields
  name_end_lem : name_end s p ≡ p + length c.name
  name_end_lem = seek_to s p equals c.name (c.type ∷ (comma ∷ from_count)) name_stands (name_lacks_equals c w)

  count_end_lem : count_end s p ≡ name_end s p + 3 + length c.count
  count_end_lem = seek_to s (name_end s p + 3) comma c.count from_key count_stands (count_lacks c w)

  description_end_lem : description_end s p ≡ count_end s p + 3 + length c.description
  description_end_lem = seek_to s (count_end s p + 3) comma c.description from_value_table description_stands (description_lacks c w)

  value_table_end_lem : value_table_end s p ≡ description_end s p + 1 + length c.value_table
  value_table_end_lem = seek_to s (description_end s p + 1) comma c.value_table from_thematic_index value_table_stands (value_table_lacks c w)

  thematic_index_end_lem : thematic_index_end s p ≡ value_table_end s p + 1 + length c.thematic_index
  thematic_index_end_lem = seek_to s (value_table_end s p + 1) comma c.thematic_index from_narrative thematic_index_stands (thematic_index_lacks c w)

  column_end_lem : column_end s p ≡ thematic_index_end s p + 1 + length (c.narrative ++ printed_comma c.form)
  column_end_lem = seek_to s (thematic_index_end s p + 1) colon (c.narrative ++ printed_comma c.form) rest
      (narrative_stands ∙ sym (append_assoc c.narrative (printed_comma c.form) (colon ∷ rest))) (last_lacks_colon c w)

  last_shown : (narrative_end s p ≡ thematic_index_end s p + 1 + length c.narrative)
      × ((ltb (narrative_end s p) (column_end s p) ≡ true) ↔ (c.form ≡ with_comma))
  last_shown = last_ends s (thematic_index_end s p + 1) c.narrative w.narrative.least-bytes (narrative_lacks c w) c.form
      (colon ∷ rest) (column_end s p) narrative_stands column_end_lem

  narrative_part : part s (span (thematic_index_end s p + 1) (narrative_end s p)) ≡ c.narrative
  narrative_part =
      let q : narrative_end s p - (thematic_index_end s p + 1) ≡ length c.narrative = omega (arith, last_shown.0) in
      ap (λ (k : ℕ). take k (drop (thematic_index_end s p + 1) s)) q
      ∙ stands_part s (thematic_index_end s p + 1) c.narrative (printed_comma c.form ++ (colon ∷ rest)) narrative_stands

  after_print : column_end s p + 1 ≡ p + length (printed_column c)
  after_print =
      omega (
        arith,
        name_end_lem,
        count_end_lem,
        description_end_lem,
        value_table_end_lem,
        thematic_index_end_lem,
        column_end_lem,
        length-append c.narrative (printed_comma c.form),
        print_length c,
      )

  count_shown : Numeral c.count → count_of s (name_end s p + 3) (count_end s p) ≡ decimal 0 c.count
  unfolding count_of
  count_shown v =
      let q = field_part s (name_end s p + 3) comma c.count from_key count_stands (count_lacks c w) in
      ap (λ (l : List ℕ). decimal 0 (take 5 l)) q ∙ ap (decimal 0) (take_all 5 c.count v.digits.most_bytes)

  star_byte : get_or s (name_end s p + 3) 0 ≡ get_or from_count 0 0
  star_byte = ap (λ (k : ℕ). get_or s k 0) (sym (add-zero (name_end s p + 3))) ∙ sym (get_or-drop (name_end s p + 3) s 0 0)
      ∙ ap (λ (l : List ℕ). get_or l 0 0) count_stands

  -- THE DEFINITION at the place of a column's print shows the column
  pub shows : Shows s p c (definition s p)
  unfolding definition
  shows = record {
    name-at = refl;
    name = field_part s p equals c.name (c.type ∷ (comma ∷ from_count)) name_stands (name_lacks_equals c w);
    type = stands_byte s (name_end s p + 1) c.type (comma ∷ from_count) type_stands;
    star = rw star_byte (star_first c.count (comma ∷ from_key) w.count);
    count = count_shown;
    key = stands_byte s (count_end s p + 1) c.key (comma ∷ from_description) key_stands;
    description = field_part s (count_end s p + 3) comma c.description from_value_table description_stands (description_lacks c w);
    value_table = field_part s (description_end s p + 1) comma c.value_table from_thematic_index value_table_stands (value_table_lacks c w);
    thematic_index = field_part s (value_table_end s p + 1) comma c.thematic_index from_narrative thematic_index_stands
        (thematic_index_lacks c w);
    narrative = narrative_part;
    form = last_shown.1;
    after = after_print;
  }

  -- and what follows the print stands after it
  pub after_stands : drop (definition s p).after s ≡ rest
  after_stands = rw shows.after (stands_past s p (printed_column c) rest e)

-- ---- the columns of a head whose text is read as h

pub column_well_formed : (cs : List Column) → WellFormedColumns cs → (k : ℕ) → k < length cs → WellFormedColumn (get_or cs k no_column)
column_well_formed [] w k l = absurd (omega arith)
column_well_formed (c ∷ cs) w zero l = w.0
column_well_formed (c ∷ cs) w (suc k) l = column_well_formed cs w.1 k (omega arith)

module _ (s : List ℕ) (h : Reading) (r : Reads (drop 4 s) h) where
  -- where the table's own fields end
  abbrev mark_end : ℕ
  mark_end = seek s 4 semicolon

  abbrev table_end : ℕ
  table_end = seek s (mark_end + 1) semicolon

  abbrev from_columns : List ℕ
  from_columns = printed_columns h.columns ++ (semicolon ∷ [])

  mark_stands : drop 4 s ≡ printed h
  mark_stands = sym r.print

  table_stands : drop (mark_end + 1) s ≡ h.description ++ (semicolon ∷ (h.narrative ++ (semicolon ∷ from_columns)))
  table_stands = field_next s 4 semicolon (printed_mark h.mark) _ mark_stands (mark_lacks_semicolon h.mark)

  table_narrative_stands : drop (table_end + 1) s ≡ h.narrative ++ (semicolon ∷ from_columns)
  table_narrative_stands = field_next s (mark_end + 1) semicolon h.description _ table_stands (table_description_lacks h r.well_formed)

  -- THE FIRST DEFINITION'S PLACE is that of the first column's print
  pub first_stands : drop (first_place s) s ≡ from_columns
  unfolding first_place
  first_stands = field_next s (table_end + 1) semicolon h.narrative from_columns table_narrative_stands
      (table_narrative_lacks h r.well_formed)

  pub first_place_lem : first_place s ≡ 4 + length (printed_mark h.mark) + length h.description + length h.narrative + 3
  unfolding first_place
  first_place_lem =
      omega (
        arith,
        seek_to s 4 semicolon (printed_mark h.mark) _ mark_stands (mark_lacks_semicolon h.mark),
        seek_to s (mark_end + 1) semicolon h.description _ table_stands (table_description_lacks h r.well_formed),
        seek_to s (table_end + 1) semicolon h.narrative from_columns table_narrative_stands (table_narrative_lacks h r.well_formed),
      )

  abbrev from_column : ℕ → List ℕ
  from_column k = printed_columns (drop k h.columns) ++ (semicolon ∷ [])

  -- the first of them is the next column's print
  print_first : (k : ℕ) → k < length h.columns → from_column k ≡ printed_column (column_at h (suc k)) ++ from_column (suc k)
  print_first k l = rw (drop-cons h.columns k no_column l)
      (append_assoc (printed_column (column_at h (suc k))) (printed_columns (drop (suc k) h.columns)) (semicolon ∷ []))

  -- after k columns stand the prints of the others
  pub columns_stand : (k : ℕ) → k ≤ length h.columns → drop (place_after s k) s ≡ from_column k
  unfolding place_after
  columns_stand zero l = first_stands
  columns_stand (suc k) l =
      after_stands s (place_after s k) (column_at h (suc k)) (from_column (suc k))
      (column_well_formed h.columns r.well_formed.columns k l) (columns_stand k (omega arith) ∙ print_first k l)

  -- EACH COLUMN IS SHOWN: the definition after k columns shows column k + 1
  pub column_shown : (k : ℕ) → k < length h.columns → Shows s (place_after s k) (column_at h (suc k)) (column s (suc k))
  column_shown k l =
      shows s (place_after s k) (column_at h (suc k)) (from_column (suc k))
      (column_well_formed h.columns r.well_formed.columns k l) (columns_stand k (omega arith) ∙ print_first k l)

  -- THE LAST PLACE is that of the `;` that ends the columns, and the text
  pub last_stands : drop (place_after s (length h.columns)) s ≡ semicolon ∷ []
  last_stands = columns_stand (length h.columns) (omega arith)
      ∙ ap (λ (l : List Column). printed_columns l ++ (semicolon ∷ [])) (drop-length h.columns)

  -- a definition is passed exactly, and is not empty: each place is beyond the one before
  pub place_next : (k : ℕ) → k < length h.columns → place_after s (suc k) ≡ place_after s k + length (printed_column (column_at h (suc k)))
  unfolding place_after
  place_next k l = (column_shown k l).after

  pub place_further : (k : ℕ) → k < length h.columns → place_after s k < place_after s (suc k)
  place_further k l = omega (arith, place_next k l, print_length (column_at h (suc k)))
