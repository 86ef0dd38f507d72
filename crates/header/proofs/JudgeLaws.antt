-- The tests of a header, stage by stage, as the code makes them.
use Rattle.std.specs.Prelude.{Option, Some, None as Nothing, Result, Ok, Err}
use mathlib.Core.Path.{◌≡◌, refl, sym, ap, ◌∙◌}
use mathlib.Core.Bool.{Bool, true, false}
use mathlib.Core.List.{List, [], ◌∷◌}
use Prim.Native.Nat.{ℕ, suc, min, ◌+◌, ◌-◌, ◌≤◌, ◌<◌}
use native.Mathlib.Omega.{arith}
use native.Mathlib.Nat.{min-le_left, min-eq_left, min-eq_right, le_of_lt}
use borrow.Author.Tests.{eq-eqb, ne_eqb, lt-ltb, le-ltb, ltb-false, eqb-true, eqb-false}
use lib.Dec.{eqb, ltb}
use lib.ListN.{length, get_or, take, drop, length-drop}
use lib.Seq.{length-take-le, take_all}
use Rattle.laws.specs.Lowest.{found, lowest}
use Rattle.laws.proofs.LowestLaws.{bool_cases, lowest_le}
use Rattle.refusal.specs.declared.Refusal.{Refusal}
use Rattle.refusal.specs.Order.{refusal, Answer, answered, refused_at, fine, first, refused_if, located, lowest_of, first_of, unless}
use Rattle.refusal.proofs.OrderLaws.{first_passes, first-refuses, located-zero, located-at, located_passes, passed_all}
use Rattle.refusal.proofs.AnswerLaws.{refused_at-found, ok-fine, err-is, err-refuses}
use Rattle.number.specs.declared.Order.{Order}
use Rattle.number.specs.Bytes.{order_of, number}
use Rattle.grammar.specs.Scan.{Scan, scan_of}
use Rattle.header.specs.declared.Judged.{Judged}
use Rattle.header.specs.declared.Kept.{Kept}
use Rattle.header.specs.declared.Names.{Names}
use Rattle.header.specs.Places.{place_after}
use Rattle.header.specs.Names.{named_before, is_among}
use Rattle.header.specs.Layouts.{blank_column}
use Rattle.laws.proofs.TestLaws.{clash}
use Rattle.limits.specs.Limits.{most_text, most_columns}
use Rattle.header.specs.Judge.{order_byte, order_of_file, text_length, head_of, text_of, column_count}
use Rattle.header.specs.Judge.{column_refusal, id_name, id_column, id_wrong, tests, header_refusal}
use Rattle.header.specs.Serving.Stages.{most_head, unsound, kept_of, gathered_of, id_wrong_at, name_tests, column_tests, text_tests}
use Rattle.header.specs.Serving.Stages.{judged_from, accepted_of, Judgement, judged_text, judged_file}
use Rattle.laws.proofs.FoundLaws.{some_found, none_found}
use Rattle.header.proofs.GatherLaws.{each_is, wrong_is, kept_is, wrong_of_more, kept_names, kept_after, kept_there, id_kept}
use Rattle.header.proofs.NameLaws.{named_among}

-- what is given unless this refuses
pub given : {T : Type 0} → (q : Refusal) (x y : T) → unless q x ≡ Ok y → (q.number ≡ 0) × (y ≡ x)
given q x y e =
    bool_cases (eqb q.number 0)
    (λ t. let w = rw t at e in (eqb-true q.number 0 t, cc))
    (λ t. let w = rw t at e in clash (cc))

pub refused_of : {T : Type 0} → (q : Refusal) (x : T) (r : Refusal) → unless q x ≡ Err r → (r ≡ q) × (q.number ≡ 0 → ⊥)
refused_of q x r e =
    bool_cases (eqb q.number 0)
    (λ t. let w = rw t at e in clash (cc))
    (λ t. let w = rw t at e in (cc, eqb-false q.number 0 t))

-- a test that refuses is the answer, whatever follows; one that passes leaves the answer to the rest
stops : (a b : Refusal) (n p : ℕ) → a ≡ refusal (suc n) p → first a b ≡ refusal (suc n) p
stops a b n p e = first-refuses a b (λ z. omega (arith, z, ap (λ (r : Refusal). r.number) e)) ∙ e

passes : (a b : Refusal) → a ≡ fine → first a b ≡ b
passes a b e = first_passes a b (ap (λ (r : Refusal). r.number) e)

-- ---- 5 for a name, then 6
module _ (s : List ℕ) (n j : ℕ) (e : j ≡ lowest (named_before s) n) where
  module _ (z : j ≡ 0) where
    rest : first_of (name_tests s n) ≡ first (refused_if (id_wrong s n) 6 0) fine
    unfolding name_tests
    rest = rw (← e) (passes (located 5 j) _ (located-zero 5 j z))

    names_id : id_wrong s n ≡ true → refusal 6 0 ≡ first_of (name_tests s n)
    names_id h = rw (rest, h) (sym (stops (refusal 6 0) fine 5 0 refl))

    names-fine : id_wrong s n ≡ false → fine ≡ first_of (name_tests s n)
    names-fine h = rw (rest, h) (sym (passes fine fine refl))

-- ---- 4, 5 for the limit, then the names
module _ (s : List ℕ) (n : ℕ) where
  pub columns-wrong : (k : ℕ) → lowest (unsound s) n ≡ k → (k ≡ 0 → ⊥) → refusal 4 k ≡ first_of (column_tests s n)
  unfolding column_tests
  columns-wrong k e z = rw (each_is s n, e) (sym (stops (located 4 k) _ 3 k (located-at 4 k z)))

  module _ (z : lowest (unsound s) n ≡ 0) where
    few : first_of (column_tests s n) ≡ first (refused_if (ltb most_columns n) 5 (most_columns + 1)) (first_of (name_tests s n))
    unfolding column_tests
    few = passes (lowest_of (column_refusal s) n) _ (each_is s n ∙ located-zero 4 (lowest (unsound s) n) z)

    pub columns_many : most_columns < n → refusal 5 (most_columns + 1) ≡ first_of (column_tests s n)
    columns_many h = rw (few, lt-ltb most_columns n h) (sym (stops (refusal 5 (most_columns + 1)) _ 4 (most_columns + 1) refl))

    columns_named : n ≤ most_columns → first_of (name_tests s n) ≡ first_of (column_tests s n)
    columns_named h = rw (few, le-ltb most_columns n h) (sym (passes fine (first_of (name_tests s n)) refl))

-- ---- an answer by its first refusal
refuses_unless : (q : Refusal) (f : Judged) → (q.number ≡ 0 → ⊥) → unless q f ≡ Err q
refuses_unless q f z = rw (ne_eqb q.number 0 z)

-- as the code gives it: r is what it refuses with, q what the tests say
pub gives_refusal : (r q : Refusal) (f : Judged) → r ≡ q → (r.number ≡ 0 → ⊥) → Err r ≡ unless q f
gives_refusal r q f e z = rw (← e) (sym (refuses_unless r f z))

gives_numbered : (r q : Refusal) (f : Judged) (n p : ℕ) → r ≡ refusal (suc n) p → refusal (suc n) p ≡ q → Err r ≡ unless q f
gives_numbered r q f n p e h = gives_refusal r q f (e ∙ h) (λ z. omega (arith, z, ap (λ (x : Refusal). x.number) e))

gives_facts : (q : Refusal) (f g : Judged) → fine ≡ q → f ≡ g → Ok f ≡ unless q g
gives_facts q f g b e = rw (← b) (ap Ok e)

-- ---- the names and `id` of no more columns than the limit, each sound: `tried` and `id` are what the code finds
module _ (s : List ℕ) (n : ℕ) (kept : Kept) (K : kept ≡ kept_of s n) (Z : lowest (unsound s) n ≡ 0) (tried : Answer)
    (D : tried ≡ refused_at 5 (found (lowest (named_before s) n))) where
  names_tested : tried ≡ answered (located 5 (lowest (named_before s) n))
  names_tested = D ∙ refused_at-found 5 (lowest (named_before s) n) (λ z. omega (arith, z))

  pub kept_doubled : (f : Judged) (r : Refusal) → tried ≡ Err r → Err r ≡ unless (first_of (name_tests s n)) f
  unfolding name_tests
  kept_doubled f r e =
      let q = located 5 (lowest (named_before s) n) in
      let t = sym names_tested ∙ e in
      gives_refusal r (first_of (name_tests s n)) f
      (sym (err-is q r t) ∙ sym (first-refuses q (first_of (refused_if (id_wrong s n) 6 0 ∷ [])) (err-refuses q r t)))
      (λ z. err-refuses q r t (ap (λ (x : Refusal). x.number) (err-is q r t) ∙ z))

  module _ (D0 : tried ≡ Ok tt) where
    single : 0 ≡ lowest (named_before s) n
    single =
        sym (located_passes 5 (lowest (named_before s) n) (λ z. omega (arith, z))
        (ok-fine (located 5 (lowest (named_before s) n)) (sym names_tested ∙ D0)))

    module _ (sought : Option ℕ) (I : sought ≡ found (lowest (is_among s kept.names id_name) n)) where
      lowest_id : lowest (is_among s kept.names id_name) n ≡ id_column s n
      unfolding id_column
      lowest_id =
          ap (λ (x : Names). lowest (is_among s x id_name) n) (kept_names s n kept K) ∙ named_among s s (λ x h. refl) n id_name

      pub kept_missing : (f : Judged) (r : Refusal) → sought ≡ Nothing → r ≡ refusal 6 0 → Err r ≡ unless (first_of (name_tests s n)) f
      unfolding id_wrong
      kept_missing f r h e =
          let z : id_column s n ≡ 0 = sym lowest_id ∙ none_found (lowest (is_among s kept.names id_name) n) (sym I ∙ h) in
          gives_numbered r (first_of (name_tests s n)) f 5 0 e (names_id s n 0 single refl (rw (eq-eqb (id_column s n) 0 z)))

      module _ (id : ℕ) (h : sought ≡ Some id) where
        is_found : (id ≡ lowest (is_among s kept.names id_name) n) × (0 < id)
        is_found = some_found (lowest (is_among s kept.names id_name) n) id (sym I ∙ h)

        pub id_within : (0 < id) × (id ≤ n)
        id_within = (is_found.1, rw is_found.0 (lowest_le (is_among s kept.names id_name) n))

        tested : (b : Bool) → b ≡ id_wrong_at (get_or kept.cols (id - 1) blank_column) kept.keys n id → id_wrong s n ≡ b
        tested b t =
            sym (kept_there kept n id (λ z. omega (arith, z, id_within.0)) b t
            ∙ id_kept s n Z kept id K (is_found.0 ∙ lowest_id) id_within.1)

        module _ (b : Bool) (t : b ≡ id_wrong_at (get_or kept.cols (id - 1) blank_column) kept.keys n id) where
          pub kept_wrong : (f : Judged) (r : Refusal) → b ≡ true → r ≡ refusal 6 0 → Err r ≡ unless (first_of (name_tests s n)) f
          kept_wrong f r y e = gives_numbered r (first_of (name_tests s n)) f 5 0 e (names_id s n 0 single refl (tested b t ∙ y))

          pub kept_fine : (order : Order) → b ≡ false
              → Ok (judged_from order (length s) n id kept) ≡ unless (first_of (name_tests s n)) (accepted_of order (length s) s n)
          kept_fine order y =
              gives_facts (first_of (name_tests s n)) _ (accepted_of order (length s) s n) (names-fine s n 0 single refl (tested b t ∙ y))
              (λ u. judged_from order (length s) n ((is_found.0 ∙ lowest_id) u) (K u))

-- ---- what was gathered of the columns, up to the limit
module _ (s : List ℕ) (n m : ℕ) (M : m ≡ min n most_columns) (got : Result Kept Refusal) (e : got ≡ gathered_of s m) where
  pub found_wrong : (f : Judged) (r : Refusal) → got ≡ Err r → Err r ≡ unless (first_of (column_tests s n)) f
  found_wrong f r h =
      let w = wrong_is s m got e r h in
      let k = wrong_of_more s m n (rw M (min-le_left n most_columns)) w.1 in
      gives_numbered r (first_of (column_tests s n)) f 3 (lowest (unsound s) m) w.0 (columns-wrong s n (lowest (unsound s) m) k w.1)

  module _ (kept : Kept) (h : got ≡ Ok kept) where
    all_kept : (lowest (unsound s) m ≡ 0) × (kept ≡ kept_of s m)
    all_kept = kept_is s m got e kept h

    pub found_many : most_columns < n → (kept.after ≡ place_after s most_columns) × (lowest (unsound s) most_columns ≡ 0)
    found_many l =
        let q : m ≡ most_columns = M ∙ min-eq_right (le_of_lt l) in
        (rw q at (kept_after s m kept all_kept.1), rw q at all_kept.0)

    module _ (l : n ≤ most_columns) where
      all_of_them : m ≡ n
      all_of_them = M ∙ min-eq_left l

      pub found_few : (kept ≡ kept_of s n) × (lowest (unsound s) n ≡ 0)
      found_few = (all_kept.1 ∙ ap (kept_of s) all_of_them, rw all_of_them at all_kept.0)

      pub few_judged : (f : Judged) → unless (first_of (name_tests s n)) f ≡ unless (first_of (column_tests s n)) f
      few_judged f = ap (λ (q : Refusal). unless q f) (columns_named s n found_few.1 l)

-- ---- 3, then the columns
-- what the scan said of the text, as the code lends it
pub scanned : (s : List ℕ) (r x : Scan) → r ≡ scan_of (take (length s - 4) (drop 4 s)) → r ≡ x → scan_of (drop 4 s) ≡ x
scanned s r x e q = ap scan_of (sym (take_all (length s - 4) (drop 4 s) (omega (arith, length-drop 4 s)))) ∙ sym e ∙ q

module _ (order : Order) (s : List ℕ) (scan : Scan) where
  pub text_bad : (i : ℕ) → scan ≡ Err i → (r : Refusal) → r ≡ refusal 3 (i + 4) → Err r ≡ judged_text order s scan
  unfolding judged_text text_tests
  text_bad i e r h =
      rw e
      (let q = stops (refusal 3 (i + 4)) (first_of (column_tests s 0)) 2 (i + 4) refl in
      rw (q, h))

  pub text_columns : (n : ℕ) → scan ≡ Ok n → unless (first_of (column_tests s n)) (accepted_of order (length s) s n) ≡ judged_text order s scan
  unfolding judged_text text_tests
  text_columns n e = rw e (rw (passes fine (first_of (column_tests s n)) refl))

-- ---- the file: 1, 2, 1, 15, then the text
module _ (file : List ℕ) where
  refused_with : (n p : ℕ) → header_refusal file ≡ refusal (suc n) p → (r : Refusal) → r ≡ refusal (suc n) p → Err r ≡ judged_file file
  unfolding judged_file
  refused_with n p e r h = gives_numbered r (header_refusal file) _ n p h (sym e)

  pub file-short : length file < 5 → (r : Refusal) → r ≡ refusal 1 (length file) → Err r ≡ judged_file file
  unfolding header_refusal
  file-short h = refused_with 0 (length file) (stops _ _ 0 (length file) (rw (lt-ltb (length file) 5 h)))

  module _ (five : 5 ≤ length file) where
    pub file_unlisted : order_of (order_byte file) ≡ Nothing → (r : Refusal) → r ≡ refusal 2 4 → Err r ≡ judged_file file
    unfolding header_refusal
    file_unlisted e = refused_with 1 4 (passes _ _ (rw (le-ltb (length file) 5 five)) ∙ stops _ _ 1 4 (rw e))

    module _ (order : Order) (e : order_of (order_byte file) ≡ Some order) (size : ℕ) (q : size ≡ number order file 0 4) where
      in_order : order_of_file file ≡ order
      unfolding order_of_file
      in_order = rw e

      long : text_length file ≡ size
      unfolding text_length
      long = rw (in_order, q)

      sized : header_refusal file
          ≡ first (refused_if (ltb (length file) (size + 4)) 1 (length file))
          (first (refused_if (ltb most_text size) 15 0) (first_of (text_tests (head_of file) (scan_of (text_of file)))))
      unfolding header_refusal text_tests column_tests name_tests column_count
      sized = passes _ _ (rw (le-ltb (length file) 5 five)) ∙ passes _ _ (rw e) ∙ rw long

      pub file_cut : length file < size + 4 → (r : Refusal) → r ≡ refusal 1 (length file) → Err r ≡ judged_file file
      file_cut h = refused_with 0 (length file) (sized ∙ stops _ _ 0 (length file) (rw (lt-ltb (length file) (size + 4) h)))

      module _ (fits : size + 4 ≤ length file) where
        whole : header_refusal file ≡ first (refused_if (ltb most_text size) 15 0) (first_of (text_tests (head_of file) (scan_of (text_of file))))
        whole = sized ∙ passes _ _ (rw (le-ltb (length file) (size + 4) fits))

        pub file_long : most_text < size → (r : Refusal) → r ≡ refusal 15 0 → Err r ≡ judged_file file
        file_long h = refused_with 14 0 (whole ∙ stops _ _ 14 0 (rw (lt-ltb most_text size h)))

        pub file_text_lem : size ≤ most_text → judged_text order (take (size + 4) file) (scan_of (drop 4 (take (size + 4) file))) ≡ judged_file file
        unfolding judged_file judged_text head_of column_count
        file_text_lem h =
            let limit : header_refusal file ≡ first_of (text_tests (head_of file) (scan_of (text_of file))) = whole
            ∙ passes (refused_if (ltb most_text size) 15 0) _ (rw (le-ltb most_text size h)) in
            rw (limit, in_order, long, length-take-le (size + 4) file fits)

-- ---- what an answer says of the header
pub record Passed (file : List ℕ) (f : Judged) : Type 0 where
  pub number : (header_refusal file).number ≡ 0
  pub facts_are : f ≡ accepted_of (order_of_file file) (text_length file + 4) (head_of file) (column_count file)
  pub fits : f.header.layout.start ≤ length file
  pub short : f.header.layout.start ≤ most_head
  pub few : f.header.layout.columns ≤ most_columns

module _ (file : List ℕ) where
  refusal_passes : (b : Bool) (n p : ℕ) → (refused_if b (suc n) p).number ≡ 0 → b ≡ false
  refusal_passes true n p e = absurd (omega (arith, e))
  refusal_passes false n p e = refl

  pub passed : (header_refusal file).number ≡ 0
      → Passed file (accepted_of (order_of_file file) (text_length file + 4) (head_of file) (column_count file))
  unfolding header_refusal
  passed z =
      let t = passed_all (tests file) z in
      record {
        number = z;
        facts_are = refl;
        fits = ltb-false (length file) (text_length file + 4) (refusal_passes _ 0 (length file) t.1.1.0);
        short = let h = ltb-false most_text (text_length file) (refusal_passes _ 14 0 t.1.1.1.0) in omega arith;
        few = ltb-false most_columns (column_count file) (refusal_passes _ 4 (most_columns + 1) t.1.1.1.1.1.1.0);
      }

  module _ (r : Judgement) (e : r ≡ judged_file file) where
    pub sound_passed : (f : Judged) → r ≡ Ok f → Passed file f
    unfolding judged_file
    sound_passed f h = let w = given (header_refusal file) _ f (sym e ∙ h) in rw w.1 (passed w.0)

    pub refused_by : (q : Refusal) → r ≡ Err q → (q ≡ header_refusal file) × ((header_refusal file).number ≡ 0 → ⊥)
    unfolding judged_file
    refused_by q h = refused_of (header_refusal file) _ q (sym e ∙ h)
