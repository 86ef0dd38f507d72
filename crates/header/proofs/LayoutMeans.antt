-- WHAT THE ROWS TAKE FROM AN ACCEPTED HEADER is what its reading says: the order, where the rows start, the columns with their
-- types, counts, bytes and places, the `id` column, and the one width of the rows or none.
use mathlib.Core.Path.{◌≡◌, refl, sym, ap, subst, ◌∙◌}
use mathlib.Core.Logic.{◌↔◌, by_cases, inl, inr, ⊎_elim}
use mathlib.Core.Bool.{true, false, true≢false}
use mathlib.Core.List.{List, [], ◌∷◌, ◌++◌, append_assoc}
use Prim.Native.Nat.{ℕ, zero, suc, pred, ◌+◌, ◌-◌, ◌*◌, ◌≤◌, ◌<◌}
use native.Mathlib.Decide.{dec_lt, dec_le}
use native.Mathlib.Omega.{arith}
use borrow.Author.Tests.{eq-eqb, eqb-true}
use lib.ListN.{length, get_or, replicate, length-append}
use lib.Seq.{get_or_at, drop_at}
use Rattle.laws.specs.Lowest.{In, Each}
use Rattle.laws.proofs.TestLaws.{clash}
use Rattle.laws.specs.Sums.{sum}
use Rattle.laws.proofs.LowestLaws.{bool_cases}
use Rattle.laws.proofs.SumLaws.{sum_ext, sum_part}
use Rattle.number.specs.Bytes.{number}
use Rattle.grammar.specs.Words as words
use Rattle.grammar.specs.Words.{star, Column, Reading, Numeral}
use Rattle.field.specs.Letters.{letter_k}
use Rattle.field.specs.declared.FieldType.{FieldType}
use Rattle.field.specs.declared.FieldType.TheVariants.{Integer, Triplet}
use Rattle.std.specs.Prelude.{Some, Ok}
use Rattle.field.specs.Fields.{letter_of, type_of, width_of, is_triplet}
use Rattle.field.proofs.TableRule.{type_of-letter, letter_of_type}
use Rattle.header.specs.declared.Definition.{Definition}
use Rattle.header.specs.declared.ColumnLayout.{ColumnLayout}
use Rattle.header.specs.declared.Layout.{Layout}
use Rattle.header.specs.Places.{decimal, place_after, column}
use Rattle.header.specs.Names.{same_text}
use Rattle.limits.specs.Limits.{most_columns}
use Rattle.header.specs.Judge.{order_of_file, text_length, head_of, id_name, id_column}
use Rattle.header.specs.Layouts.{kind_of, varies, count_kept, field_size, some_varies, bytes_of_all, column_layout, blank_column, fixed_bytes, laid_out, row_width}
use Rattle.header.specs.declared.Header.{Header}
use Rattle.header.specs.Layouts.{layout_of, header_of}
use Rattle.header.specs.Words.{column_at, OrderIs, Shows, AcceptedHeader}
use Rattle.header.specs.Refusals.{RefusedWith}
use Rattle.header.specs.LayoutWords.{Starred, Varies, layout_at, ColumnLaidOut, LaidOut}
use Rattle.header.proofs.ColumnsJudged.{numeral_not-star, shown, column_named_lem}
use Rattle.header.proofs.TestsInWords.{order_of_file_lem, length_said}
use Rattle.header.proofs.AcceptedExactly.{accepted_says}
use Rattle.header.proofs.RefusedExactly.{refused_test}
use Rattle.header.proofs.StepsInOrder.{head_reads, accepted_count}

-- ---- a column that varies: `*`, or type K

module _ (s : List ℕ) (p : ℕ) (c : Column) (d : Definition) (w : Shows s p c d) (t : FieldType) (e : type_of c.type ≡ Some t) where
  kind_is : kind_of (type_of d.kind) ≡ t
  kind_is = rw (w.type, e)

  triplet_exactly : (is_triplet t ≡ true) ↔ (c.type ≡ letter_k)
  triplet_exactly =
      let l = letter_of_type c.type t e in
      (λ q. sym l ∙ eqb-true (letter_of t) letter_k q, λ q. eq-eqb (letter_of t) letter_k (l ∙ q))

  pub varies_exactly : (varies d ≡ true) ↔ Varies c
  unfolding varies
  varies_exactly =
      rw kind_is
      (bool_cases d.star
      (λ b. rw b (λ q. inl (w.star.0 b), λ v. refl))
      (λ b.
      rw b (
        λ q. inr (triplet_exactly.0 q),
        ⊎_elim (λ q. absurd (true≢false (sym (w.star.1 q) ∙ b))) triplet_exactly.1,
      )))

  pub count_kept_lem : (Starred c → ⊥) → count_kept d ≡ d.count
  count_kept_lem f = bool_cases d.star (λ b. absurd (f (w.star.0 b))) (λ b. rw b)

  -- a star's count is 0, and a triplet has no width
  pub bytes_vary : Varies c → count_kept d * width_of t ≡ 0
  bytes_vary =
      ⊎_elim
      (λ z. rw (w.star.1 z) (omega arith))
      (λ z.
      let q = sym e ∙ ap type_of z ∙ type_of-letter Triplet in
      let kind : t ≡ Triplet = cc in
      rw kind (omega arith))

-- ---- sums and lists over the columns

bytes-sum : (s : List ℕ) (n : ℕ) → bytes_of_all s n ≡ sum (λ k. field_size (column s k)) n
bytes-sum s zero = refl
bytes-sum s (suc n) = ap (λ (x : ℕ). x + field_size (column s (suc n))) (bytes-sum s n)

none_varies : (s : List ℕ) (n : ℕ) → Each n (λ k. varies (column s k) ≡ false) → some_varies s n ≡ false
none_varies s zero f = refl
none_varies s (suc n) f = rw (none_varies s n (λ k i. f k (i.0, omega (arith, i.1)))) (f (suc n) (omega arith, omega arith))

one-varies : (s : List ℕ) (n k : ℕ) → In n k → varies (column s k) ≡ true → some_varies s n ≡ true
one-varies s zero k i e = absurd (omega (arith, i.0, i.1))
one-varies s (suc n) k i e =
    by_cases (dec_le k n)
    (λ c. rw (one-varies s n k (i.0, c) e))
    (λ c.
    let q : k ≡ suc n = omega (arith, i.1) in
    bool_cases (some_varies s n) (λ b. rw b) (λ b. rw b (subst (λ (x : ℕ). varies (column s x) ≡ true) q e)))

length_laid : (s : List ℕ) (n : ℕ) → length (laid_out s n) ≡ n
length_laid s zero = refl
length_laid s (suc n) = simp (length-append, length_laid s n) (omega arith)

laid_at : (s : List ℕ) (n : ℕ) (r : List ColumnLayout) (k : ℕ) → k < n → get_or (laid_out s n ++ r) k blank_column ≡ column_layout s (suc k)
laid_at s zero r k l = absurd (omega arith)
laid_at s (suc n) r k l =
    rw (append_assoc (laid_out s n) (column_layout s (suc n) ∷ []) r)
    (by_cases (dec_lt k n) (λ c. laid_at s n (column_layout s (suc n) ∷ r) k c)
    (λ c. let q : n ≡ k = omega arith in get_or_at (laid_out s n) (column_layout s (suc n)) r blank_column k
    (length_laid s n ∙ q) ∙ ap (λ (j : ℕ). column_layout s (suc j)) q))

-- ---- the layout of an accepted header

module _ (file : List ℕ) (h : Reading) (a : AcceptedHeader file h) where
  abbrev s : List ℕ
  s = head_of file

  abbrev n : ℕ
  n = length h.columns

  abbrev sound_kind : (k : ℕ) → In n k → FieldType
  sound_kind k i = (a.rules.sound k i).kind

  column-laid_out : (k : ℕ) (i : In n k) → ColumnLaidOut (column_at h k) (column_layout s k)
  unfolding column_layout
  column-laid_out k i =
      let w = shown s h (head_reads file h a) k i in
      let c = column_at h k in
      let d = column s k in
      let t = sound_kind k i in
      let e = (a.rules.sound k i).listed in
      let p = place_after s (pred k) in
      let q = kind_is s p c d w t e in
      record {
        kind = e ∙ ap Some (sym q);
        star = w.star;
        count = λ v. count_kept_lem s p c d w t e (λ z. numeral_not-star (subst Numeral z v)) ∙ w.count v;
        no_count = λ z. rw (w.star.1 z);
        no_bytes = λ v. rw q (bytes_vary s p c d w t e v);
      }

  varies-at : (k : ℕ) → In n k → (varies (column s k) ≡ true) ↔ Varies (column_at h k)
  varies-at k i = varies_exactly s (place_after s (pred k)) (column_at h k) (column s k)
      (shown s h (head_reads file h a) k i) (sound_kind k i) (a.rules.sound k i).listed

  -- the layout, with the reading's number of columns
  abbrev counted : Layout
  counted = record {
    order = order_of_file file;
    start = text_length file + 4;
    columns = n;
    id = id_column s n;
    width = row_width s n;
    cols = laid_out s n ++ replicate (most_columns - n) blank_column;
  }

  layout-counted : layout_of file ≡ counted
  unfolding layout_of
  layout-counted = rw (accepted_count file h a)

  at : (k : ℕ) → In n k → layout_at counted k ≡ column_layout s k
  at zero i = absurd (omega (arith, i.0))
  at (suc k) i = laid_at s n (replicate (most_columns - n) blank_column) k (omega (arith, i.1))

  size_at : (k : ℕ) → In n k → field_size (column s k) ≡ fixed_bytes (layout_at counted k)
  unfolding column_layout field_size
  size_at k i = ap fixed_bytes (sym (at k i))

  bytes_are : (m : ℕ) → m ≤ n → bytes_of_all s m ≡ sum (λ k. fixed_bytes (layout_at counted k)) m
  bytes_are m l = bytes-sum s m ∙ sum_ext (λ k. field_size (column s k)) (λ k. fixed_bytes (layout_at counted k)) m (λ k u v. size_at k (u, omega arith))

  -- the `id` column is the one that the rules speak of
  id_found : (In n (id_column s n)) × (id_column s n ≡ a.rules.one_id.id)
  unfolding id_column
  id_found =
      let o = a.rules.one_id in
      ⊎_elim (λ w. absurd (w.1 o.id o.within o.named))
      (λ w. (w.0, o.only _ w.0 w.1))
      (column_named_lem s h (head_reads file h a) id_name)

  -- its field has four bytes
  id_size : (k : ℕ) → In n k → (column_at h k).type ≡ 73 → (column_at h k).count ≡ 49 ∷ [] → field_size (column s k) ≡ 4
  unfolding field_size
  id_size k i e q =
      let w = shown s h (head_reads file h a) k i in
      let v : Numeral (column_at h k).count = one_numeral (column_at h k).count q in
      let p = place_after s (pred k) in
      let t = ap type_of e ∙ type_of-letter Integer in
      let one : count_kept (column s k) ≡ 1 =
      count_kept_lem s p (column_at h k) (column s k) w Integer t (λ z. numeral_not-star (subst Numeral z v)) ∙ w.count v ∙ ap (decimal 0) q in
      rw (kind_is s p (column_at h k) (column s k) w Integer t, one)
    where
      digit_one : (j : ℕ) → j < 1 → words.Digit (get_or (49 ∷ []) j 0)
      digit_one zero l = (omega arith, omega arith)
      digit_one (suc j) l = absurd (omega arith)

      one_numeral : (l : List ℕ) → l ≡ 49 ∷ [] → Numeral l
      one_numeral l q = subst Numeral (sym q) (record { digits = record { least-bytes = omega arith; most_bytes = omega arith; bytes = digit_one }; first_not_0 = λ z. omega arith })

  laid_out-counted : LaidOut file h counted
  unfolding column_layout row_width
  laid_out-counted =
      let o = a.rules.one_id in
      let L : text_length file ≡ number a.order file 0 4 = length_said file (number a.order file 0 4) (accepted_says file h a) in
      record {
        order = subst (OrderIs (get_or file 4 0)) (sym (order_of_file_lem file a.order a.letter)) a.letter;
        start = rw (order_of_file_lem file a.order a.letter, L);
        start_inside = omega (arith, a.text_fits);
        columns = refl;
        columns_limit = a.rules.columns_limit;
        id_within = id_found.0;
        id_named = subst (λ (k : ℕ). same_text (column_at h k).name id_name ≡ true) (sym id_found.1) o.named;
        id_only = λ k i e. o.only k i e ∙ sym id_found.1;
        each = λ k i. subst (ColumnLaidOut (column_at h k)) (sym (at k i)) (column-laid_out k i);
        offset = λ k i. offset_at k i;
        no_width = λ k i v. rw (one-varies s n k i ((varies-at k i).1 v));
        width = λ f. rw (no_varying f) (bytes_are n (omega arith));
        width_some = λ f. rw (no_varying f) (omega (arith, id_bytes, bytes-sum s n));
        others = drop_at (laid_out s n) (replicate (most_columns - n) blank_column) n (length_laid s n);
      }
    where
      no_varying : Each n (λ k. Varies (column_at h k) → ⊥) → some_varies s n ≡ false
      no_varying f = none_varies s n (λ k i. bool_cases (varies (column s k)) (λ b. absurd (f k i ((varies-at k i).0 b))) (λ b. b))

      offset_at : (k : ℕ) → In n k → (layout_at counted k).offset ≡ sum (λ j. fixed_bytes (layout_at counted j)) (pred k)
      offset_at k i = ap (λ (l : ColumnLayout). l.offset) (at k i) ∙ bytes_are (pred k) (omega (arith, i.1))

      id_bytes : 4 ≤ sum (λ k. field_size (column s k)) n
      id_bytes = let o = a.rules.one_id in omega (
        arith,
        sum_part (λ k. field_size (column s k)) n o.id o.within.0 o.within.1,
        id_size o.id o.within o.type_i o.count_1,
      )

  -- THE LAYOUT MEANS WHAT THE READING SAYS
  pub laid_out_lem : LaidOut file h (layout_of file)
  laid_out_lem = rw layout-counted laid_out-counted

-- a refused header hands no layout on
pub refused_no_layout : (file : List ℕ) (n p : ℕ) → RefusedWith file n p → (head : Header) → header_of file ≡ Ok head → ⊥
unfolding header_of
refused_no_layout file n p w head e = let q = rw (refused_test file n p w) at e in clash (cc)
