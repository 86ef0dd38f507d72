-- Each test of a header in document 01's words: it refuses nothing exactly where the words hold, and else its number at the place
-- that the paper names.
use mathlib.Core.Path.{◌≡◌, refl, sym, ap, subst, ◌∙◌}
use mathlib.Core.Logic.{◌↔◌, ◌⊎◌, inl, inr, ⊎_elim}
use mathlib.Core.Bool.{false, not, true≢false}
use mathlib.Core.List.{List}
use Prim.Native.Nat.{ℕ, ◌+◌, ◌-◌, ◌≤◌, ◌<◌}
use native.Mathlib.Omega.{arith}
use borrow.Author.Tests.{eqb-true, ltb-true, ltb-false}
use lib.Dec.{eqb, ltb}
use lib.ListN.{length}
use Rattle.laws.specs.Lowest.{lowest, In}
use Rattle.laws.proofs.TestLaws.{denied, clash}
use Rattle.laws.proofs.LowestLaws.{bool_cases}
use Rattle.laws.proofs.PlaceLaws.{drop-take}
use Rattle.refusal.specs.Order.{refused_if, located, lowest_of}
use Rattle.refusal.proofs.JudgedLaws.{Judged, judged_lowest, judged_lowest_of, judged_once}
use Rattle.number.specs.declared.Order.{Order}
use Rattle.number.specs.declared.Order.TheVariants.{Least, Most}
use Rattle.std.specs.Prelude.{Some, None, Ok, Err}
use Rattle.number.specs.Bytes.{order_of}
use Rattle.grammar.specs.Words.{Reading, Reads}
use Rattle.grammar.specs.Scan.{Scan, scan_of}
use Rattle.grammar.proofs.GrammarExact.{grammar_exact}
use Rattle.grammar.proofs.FirstBadByte.{first_bad_byte}
use Rattle.grammar.proofs.OneReading.{reads_once}
use Rattle.header.specs.Places.{column}
use Rattle.header.specs.Names.{named_before}
use Rattle.limits.specs.Limits.{most_text, most_columns}
use Rattle.header.specs.Judge.{order_byte, listed, order_of_file, text_length, head_of, text_of, grammar_refusal}
use Rattle.header.specs.Judge.{column_count, sound, column_refusal, id_wrong}
use Rattle.header.specs.Words.{column_at, OrderIs, by_l, by_m, by_none, ColumnSound, OneId}
use Rattle.header.specs.Refusals.{SaysLength, text_in, TextReads, OfLength, OfReading, LeavesGrammar, NotNamedBefore, NamesDiffer}
use Rattle.header.specs.Refusals.{five_bytes, order_letter, text_fits, text_limit, in_grammar, columns_sound, columns_limit, names_differ}
use Rattle.header.specs.Refusals.{one_id, Holds, FailsAt}
use Rattle.header.proofs.ColumnsJudged.{sound_at, named_exactly, id_exactly}

-- ---- the order that byte 4 gives

pub order_is : (b : ℕ) (o : Order) → OrderIs b o → order_of b ≡ Some o
unfolding order_of
order_is b o by_l = refl
order_is b o by_m = refl
order_is b o by_none = refl

is_order : (b : ℕ) → ((o : Order) × OrderIs b o) ⊎ (order_of b ≡ None)
unfolding order_of
is_order b =
    bool_cases (eqb b 76) (λ t. inl (Least, subst (λ (x : ℕ). OrderIs x Least) (sym (eqb-true b 76 t)) by_l))
    (λ t.
    bool_cases (eqb b 77) (λ u. inl (Most, subst (λ (x : ℕ). OrderIs x Most) (sym (eqb-true b 77 u)) by_m))
    (λ u.
    bool_cases (eqb b 59) (λ v. inl (Least, subst (λ (x : ℕ). OrderIs x Least) (sym (eqb-true b 59 v)) by_none))
    (λ v. inr (rw (t, u, v)))))

module _ (file : List ℕ) where
  letter_exactly : (not (listed (order_of (order_byte file))) ≡ false) ↔ Holds file order_letter
  letter_exactly =
      ⊎_elim
      (λ w. (λ e. w, λ h. rw (order_is _ w.0 w.1)))
      (λ w. (λ e. let z = rw w at e in absurd (true≢false z), λ h. clash (cc (w, order_is _ h.0 h.1))))
      (is_order (order_byte file))

  -- ---- L, and the text

  pub order_of_file_lem : (o : Order) → OrderIs (order_byte file) o → order_of_file file ≡ o
  unfolding order_of_file
  order_of_file_lem o w = rw (order_is (order_byte file) o w)

  pub length_said : (l : ℕ) → SaysLength file l → text_length file ≡ l
  unfolding text_length
  length_said l w = rw (order_of_file_lem w.order w.letter) w.says

  pub says-length : Holds file order_letter → SaysLength file (text_length file)
  unfolding text_length
  says-length w = record { order = w.0; letter = w.1; says = rw (order_of_file_lem w.0 w.1) }

  pub text_is : text_of file ≡ text_in file (text_length file)
  unfolding head_of
  text_is =
      let e : text_length file + 4 - 4 ≡ text_length file = omega arith in
      drop-take 4 (text_length file + 4) file ∙ ap (text_in file) e

  pub reads_text : (h : Reading) → TextReads file h → Reads (text_of file) h
  reads_text h t = subst (λ (s : List ℕ). Reads s h) (ap (text_in file) (sym (length_said t.text_length t.says)) ∙ sym text_is) t.reads

  pub text_reads : (h : Reading) → Holds file order_letter → Reads (text_of file) h → TextReads file h
  text_reads h w r = record { text_length = text_length file; says = says-length w; reads = subst (λ (s : List ℕ). Reads s h) text_is r }

  -- one reading
  pub one_text : (h k : Reading) → TextReads file h → TextReads file k → h ≡ k
  one_text h k t u = reads_once (text_of file) h k (reads_text h t) (reads_text k u)

  pub column_count_lem : (h : Reading) → TextReads file h → column_count file ≡ length h.columns
  unfolding column_count
  column_count_lem h t = rw ((grammar_exact (length h.columns) (text_of file)).1 (h, reads_text h t, refl))

  -- ---- 1, 2, 1, 15

  pub judged_five : Judged (refused_if (ltb (length file) 5) 1 (length file)) (Holds file five_bytes) (FailsAt file five_bytes)
  judged_five = judged_once (ltb (length file) 5) 1 (length file) (5 ≤ length file) (length file < 5) (λ e. omega arith)
      (ltb-false (length file) 5) (ltb-true (length file) 5)

  pub judged_letter : Judged (refused_if (not (listed (order_of (order_byte file)))) 2 4) (Holds file order_letter) (FailsAt file order_letter)
  judged_letter =
      judged_once (not (listed (order_of (order_byte file)))) 2 4 (Holds file order_letter) (Holds file order_letter → ⊥) (λ e. omega arith)
      letter_exactly.0 (λ e h. true≢false (sym e ∙ letter_exactly.1 h))

  module _ (w : Holds file order_letter) where
    of_length : (P : ℕ → Type 0) → P (text_length file) → OfLength file P
    of_length P h = (text_length file, says-length w, h)

    pub judged_fits : Judged (refused_if (ltb (length file) (text_length file + 4)) 1 (length file))
        (Holds file text_fits) (FailsAt file text_fits)
    judged_fits =
        judged_once (ltb (length file) (text_length file + 4)) 1 (length file) (Holds file text_fits)
        (OfLength file (λ l. length file < l + 4)) (λ e. omega arith)
        (λ e. of_length (λ l. l + 4 ≤ length file) (ltb-false (length file) (text_length file + 4) e))
        (λ e. of_length (λ l. length file < l + 4) (ltb-true (length file) (text_length file + 4) e))

    pub judged_limit : Judged (refused_if (ltb most_text (text_length file)) 15 0) (Holds file text_limit) (FailsAt file text_limit)
    judged_limit =
        judged_once (ltb most_text (text_length file)) 15 0 (Holds file text_limit) (OfLength file (λ l. most_text < l)) (λ e. omega arith)
        (λ e. of_length (λ l. l ≤ most_text) (ltb-false most_text (text_length file) e))
        (λ e. of_length (λ l. most_text < l) (ltb-true most_text (text_length file) e))

    -- ---- 3

    judged_scan : (c : Scan) → scan_of (text_of file) ≡ c → Judged (grammar_refusal c) (Holds file in_grammar) (FailsAt file in_grammar)
    judged_scan (Ok n) e = let r = (grammar_exact n (text_of file)).0 e in inl (refl, (r.0, text_reads r.0 w r.1))
    judged_scan (Err i) e =
        inr (
          λ z. omega arith,
          (
            refl,
            of_length (λ l. LeavesGrammar (text_in file l) (i + 4))
                (subst (λ (s : List ℕ). LeavesGrammar s (i + 4)) text_is
                (record { byte = i; place = refl; leaves = (first_bad_byte (text_of file) i).0 e })),
          ),
        )

    pub judged_grammar : Judged (grammar_refusal (scan_of (text_of file))) (Holds file in_grammar) (FailsAt file in_grammar)
    judged_grammar = judged_scan (scan_of (text_of file)) refl

  -- ---- 4, 5, 5, 6, of the reading

  module _ (h : Reading) (t : TextReads file h) where
    abbrev n : ℕ
    n = length h.columns

    of_reading : (P : Reading → Type 0) → P h → OfReading file P
    of_reading P x = (h, t, x)

    judged_column : (k : ℕ) → In n k → Judged (column_refusal (head_of file) k) (ColumnSound (column_at h k))
        (λ m p. (p ≡ k) × (m ≡ 4) × (ColumnSound (column_at h k) → ⊥))
    judged_column k i =
        let x = denied _ (sound_at (head_of file) h (reads_text h t) k i) in
        ⊎_elim inl (λ f. inr (f.0, (f.1.1, f.1.0, f.1.2)))
        (judged_once (not (sound (column (head_of file) k))) 4 k (ColumnSound (column_at h k))
        (ColumnSound (column_at h k) → ⊥) (λ e. omega arith) x.0 (λ e c. true≢false (sym e ∙ x.1 c)))

    pub judged-sound : Judged (lowest_of (column_refusal (head_of file)) (column_count file)) (Holds file columns_sound) (FailsAt file columns_sound)
    judged-sound =
        rw (column_count_lem h t)
        (⊎_elim (λ f. inl (f.0, of_reading _ f.1)) (λ f. inr (f.0, (f.1.0, of_reading _ f.1.1)))
        (judged_lowest_of (λ k. ColumnSound (column_at h k)) n (λ k m. m ≡ 4) (column_refusal (head_of file)) judged_column))

    pub judged_columns : Judged (refused_if (ltb most_columns (column_count file)) 5 (most_columns + 1))
        (Holds file columns_limit) (FailsAt file columns_limit)
    judged_columns =
        rw (column_count_lem h t)
        (judged_once (ltb most_columns n) 5 (most_columns + 1) (Holds file columns_limit)
        (OfReading file (λ h. most_columns < length h.columns)) (λ e. omega arith)
        (λ e. of_reading _ (ltb-false most_columns n e)) (λ e. of_reading _ (ltb-true most_columns n e)))

    pub judged_names : Judged (located 5 (lowest (named_before (head_of file)) (column_count file)))
        (Holds file names_differ) (FailsAt file names_differ)
    judged_names =
        rw (column_count_lem h t)
        (⊎_elim (λ f. inl (f.0, of_reading _ f.1)) (λ f. inr (f.0, (f.1.0, of_reading _ f.1.1)))
        (judged_lowest (NotNamedBefore h) n 5 (λ e. omega arith) (named_before (head_of file)) (named_exactly (head_of file) h (reads_text h t))))

    pub judged_id : NamesDiffer h → Judged (refused_if (id_wrong (head_of file) (column_count file)) 6 0) (Holds file one_id) (FailsAt file one_id)
    judged_id d =
        let x = id_exactly (head_of file) h (reads_text h t) d in
        rw (column_count_lem h t)
        (judged_once (id_wrong (head_of file) n) 6 0 (Holds file one_id) (OfReading file (λ h. OneId h → ⊥)) (λ e. omega arith)
        (λ e. of_reading _ (x.0 e)) (λ e. of_reading _ (λ o. true≢false (sym e ∙ x.1 o))))
