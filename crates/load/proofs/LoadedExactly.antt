-- A TILE IS LOADED EXACTLY WHEN its four tables open, the ten columns are there, no face or ring table is empty, there is room, and every
-- row is right; and a finding is given exactly when a test fails so and all earlier ones hold.
--
-- The plan. The twelve tests have names and ranks (`Test`, `rank`), in document 01's order. Of each it is shown that its finding is exact
-- (`Exactly`): nothing is found exactly where the test holds, and q exactly where it fails with q. The openings have this from crate
-- `opening` (`opening_exactly`). The others are shown where all four tables have opened, for only then do columns and rows mean anything:
-- 17 at the lowest place without its column (`columns_exactly`, over `there_exactly`), 15 (`some_exactly`), 14 (`room_exactly`), and the
-- lowest row that is not right, which crate `table` judges exactly (`rows_exactly`). `in_order` lines the twelve up; by the law of
-- FoundInOrder the first finding of all is then exact too (`all_hold_exactly`, `finding_exactly`). What is left are the counts: the rows
-- with which the tables opened are those that the words name (`holds_loads`, `loads_holds`). So `loaded_exactly` and `refused-exactly`.
use mathlib.Core.Path.{◌≡◌, refl, sym, ap, subst, ◌∙◌}
use mathlib.Core.Logic.{◌↔◌, ◌⊎◌, inl, inr, ⊎_elim}
use mathlib.Core.Bool.{true, false, true≢false}
use mathlib.Core.List.{List, [], ◌∷◌}
use Prim.Native.Nat.{ℕ, zero, suc, min, ◌≤◌, ◌<◌}
use native.Mathlib.Omega.{arith}
use borrow.Author.Tests.{eq-eqb, ne_eqb, eqb-true, eqb-false, ltb-true, ltb-false, le-ltb, leb-true, leb-false}
use lib.Dec.{eqb, ltb, leb}
use Rattle.std.proofs.Common.{Ok, Err}
use lib.ListN.{length, get_or}
use Rattle.laws.specs.Lowest.{lowest, In, Each, LowestFailing}
use Rattle.laws.proofs.LowestLaws.{bool_cases, lowest_le}
use Rattle.laws.proofs.TestLaws.{clash, not_above}
use Rattle.refusal.specs.declared.Refusal.{Refusal}
use Rattle.refusal.specs.Order.{refusal, refuses, at_row, lowest_of}
use Rattle.grammar.specs.Words.{Reading}
use Rattle.field.specs.declared.FieldType.{FieldType}
use Rattle.field.specs.Letters.{letter_i, letter_k}
use Rattle.field.specs.Fields.{letter_of, is_integer}
use Rattle.field.proofs.TableRule.{letter_of_type}
use Rattle.header.specs.declared.Layout.{Layout}
use Rattle.header.specs.Steps.{column_of}
use Rattle.header.specs.Words as read
use Rattle.header.proofs.AcceptedExactly.{accepted_once}
use Rattle.header.proofs.LayoutMeans.{laid_out_lem}
use Rattle.header.proofs.ColumnOfName.{Named, column_of-name, column_of-name_only}
use Rattle.opening.specs.declared.Table.{Table}
use Rattle.limits.specs.Limits.{most_rows}
use Rattle.opening.specs.Opening.{table_refusal}
use Rattle.table.specs.Rows as rows
use Rattle.table.specs.Rows.{no_such_column, column_at, row_judged, rows_refusal}
use Rattle.opening.specs.Words as opening
use Rattle.table.specs.Words as table
use Rattle.table.proofs.RowLaws.{such}
use Rattle.opening.proofs.OpeningInOrder.{refused_exactly_when}
use Rattle.opening.proofs.RowWidth.{in_layout}
use Rattle.opening.proofs.OpenedExactly.{opened_exactly, opened_table, opened_rows}
use Rattle.table.proofs.RowExactly.{there, columns_all, inside-file, row_exactly}
use Rattle.table.proofs.RowRefusedExactly.{row_refused_exactly}
use Rattle.load.specs.declared.TableName.{TableName}
use Rattle.load.specs.declared.TableName.TheVariants.{Edg, Fac, Rng, Cnd}
use Rattle.load.specs.declared.Finding.{Finding}
use Rattle.load.specs.declared.Counts.{Counts}
use Rattle.header.specs.Layouts.{layout_of}
use Rattle.load.specs.Sources.{given, Files, Tables, file_of, index_of, table_in, tables_of, name_at, table_at, triplets_too, type_fits, fitting}
use Rattle.load.specs.Sources.{column_for, number_at_place, rows_for}
use Rattle.load.specs.Load.{finding, found_at, opening, missing, column_wrong, column_finding, empty_finding, too_short, room_needed, room_finding, rows_finding}
use Rattle.load.specs.Sources.{columns_of}
use Rattle.load.specs.Load.{tests, load_finding, counts, unless_found, load_of}
use Rattle.load.specs.Words.{OpensWith, rows_of, TakesTriplets, TypeRight, ColumnThere, RoomFor, layout_in, row_end, row_start, RowRight}
use Rattle.load.specs.Words.{IsEmpty, count_of, Loads, Test, opened, columns_there, faces_some, rings_some, room_enough, rows_right}
use Rattle.load.specs.Words.{turn, rank, Holds, FailsWith, RefusedWith}
use Rattle.load.proofs.FitLaws.{found_there}
use Rattle.load.proofs.TopLaws.{number_of, table_in_lem, column_at_place, rows_at_place}
use Rattle.load.proofs.FoundInOrder.{Exactly, InOrder, nothing_exactly, found_exactly, exactly_of, exactly_empty, exactly_lowest}

-- ---- the tests one after the other
order : List Test
order =
    opened Edg ∷ opened Fac ∷ opened Rng ∷ opened Cnd ∷ columns_there ∷ faces_some ∷ rings_some ∷ room_enough
    ∷ rows_right Edg ∷ rows_right Fac ∷ rows_right Rng ∷ rows_right Cnd ∷ []

at-rank : (x : Test) → get_or order (rank x) columns_there ≡ x
unfolding order
at-rank (opened Edg) = refl
at-rank (opened Fac) = refl
at-rank (opened Rng) = refl
at-rank (opened Cnd) = refl
at-rank columns_there = refl
at-rank faces_some = refl
at-rank rings_some = refl
at-rank room_enough = refl
at-rank (rows_right Edg) = refl
at-rank (rows_right Fac) = refl
at-rank (rows_right Rng) = refl
at-rank (rows_right Cnd) = refl

apart : (x y : Test) → rank x ≡ rank y → x ≡ y
apart x y e = sym (at-rank x) ∙ ap (λ (k : ℕ). get_or order k columns_there) e ∙ at-rank y

turn_below : (n : TableName) → turn n < 4
turn_below Edg = omega arith
turn_below Fac = omega arith
turn_below Rng = omega arith
turn_below Cnd = omega arith

rank_below : (x : Test) → rank x < 12
rank_below (opened n) = omega (arith, turn_below n)
rank_below columns_there = omega arith
rank_below faces_some = omega arith
rank_below rings_some = omega arith
rank_below room_enough = omega arith
rank_below (rows_right n) = omega (arith, turn_below n)

-- ---- 17: the type at a place
triplets_exactly : (k : ℕ) → (triplets_too k ≡ true) ↔ TakesTriplets k
unfolding triplets_too
triplets_exactly k =
    bool_cases (ltb k 3)
    (λ a.
    let x = ltb-true k 3 a in
    rw a (λ e. absurd (true≢false (sym e)), ⊎_elim (λ w. absurd (omega (arith, w.0))) (λ w. absurd (omega (arith, w)))))
    (λ a.
    bool_cases (leb k 6)
    (λ b. rw (a, b) (λ e. inl (ltb-false k 3 a, leb-true k 6 b), λ w. refl))
    (λ b. rw (a, b) (λ e. inr (eqb-true k 10 e), ⊎_elim (λ w. absurd (omega (arith, leb-false k 6 b, w.1))) (eq-eqb k 10))))

-- of a column whose type's letter is b
type_exactly : (k : ℕ) (t : FieldType) (b : ℕ) → letter_of t ≡ b → (type_fits k t ≡ true) ↔ ((b ≡ letter_i) ⊎ (TakesTriplets k × (b ≡ letter_k)))
unfolding type_fits
type_exactly k t b e =
    let w = triplets_exactly k in
    bool_cases (is_integer t)
    (λ c. let q = eqb-true (letter_of t) letter_i c in rw c (λ z. inl (sym e ∙ q), λ z. refl))
    (λ c.
    let q = eqb-false (letter_of t) letter_i c in
    bool_cases (triplets_too k)
    (λ d.
    rw (c, d) (
      λ z. inr (w.0 d, sym e ∙ eqb-true (letter_of t) letter_k z),
      ⊎_elim (λ z. absurd (q (e ∙ z))) (λ z. eq-eqb (letter_of t) letter_k (e ∙ z.1)),
    ))
    (λ d.
    rw (c, d) (
      λ z. absurd (true≢false (sym z)),
      ⊎_elim (λ z. absurd (q (e ∙ z))) (λ z. absurd (true≢false (sym (w.1 z.0) ∙ d))),
    )))

-- a column that the layout has and whose type fits
fitting_is : (l : Layout) (k c : ℕ) → no_such_column l c ≡ false → type_fits k (column_at l c).kind ≡ true → fitting l k c ≡ c
unfolding fitting
fitting_is l k c a b = rw (a, b)

fitting_some : (l : Layout) (k c : ℕ) → (fitting l k c ≡ 0 → ⊥) → (no_such_column l c ≡ false) × (type_fits k (column_at l c).kind ≡ true)
unfolding fitting
fitting_some l k c n =
    bool_cases (no_such_column l c)
    (λ a. absurd (n (rw a refl)))
    (λ a. bool_cases (type_fits k (column_at l c).kind) (λ b. (a, b)) (λ b. absurd (n (rw (a, b) refl))))

-- the refusal of a row that is not 0
at_row_lem : (g : ℕ → Refusal) (i : ℕ) → 0 < i → at_row g i ≡ g i
at_row_lem g zero h = absurd (omega arith)
at_row_lem g (suc i) h = refl

-- what is found, said in other words
said_as : (a : Finding) (H : Type 0) (F K : Finding → Type 0) → Exactly a H F → ((q : Finding) → (number_of q ≡ 0 → ⊥) → F q → K q)
    → ((q : Finding) → K q → F q) → Exactly a H K
said_as a H F K e u v = (e.0, λ q. (λ w. u q w.1 ((e.1 q).0 w), λ w. (e.1 q).1 (v q w)))

module _ (f : Files) (most : ℕ) where
  abbrev tables : Tables
  tables = tables_of f most

  -- ---- a table that opens
  module _ (n : TableName) (h : Reading) (m : ℕ) (o : opening.Opens (file_of f n) (index_of f n) most h m) where
    abbrev file : List ℕ
    file = file_of f n

    abbrev index : List ℕ
    index = index_of f n

    pub opened_as : table_in tables n ≡ record { layout = layout_in f n; rows = m }
    opened_as =
        let t = opened_table file index most h m o in
        table_in_lem f most n ∙ ap (λ r. (given r).table) t.1 ∙ t.2

    rows_said : rows_of f n ≡ m
    rows_said = opened_rows file index most h m o

    pub opened_said : table_in tables n ≡ record { layout = layout_in f n; rows = rows_of f n }
    opened_said = opened_as ∙ (λ i. record { layout = layout_in f n; rows = sym rows_said i })

    pub said_rows : (table_in tables n).rows ≡ rows_of f n
    said_rows = ap (λ (t : Table). t.rows) opened_said

    -- its column for place k
    module _ (k : ℕ) where
      abbrev l : Layout
      l = layout_in f n

      abbrev name : List ℕ
      name = name_at k

      abbrev c : ℕ
      c = column_of file name

      -- a column with a place's name is that which is looked for, and its type is told by its letter
      type_told : (j : ℕ) → In (length h.columns) j → (type_fits k (column_at l j).kind ≡ true) ↔ TypeRight k (read.column_at h j)
      type_told j w =
          let means = laid_out_lem file h o.header in
          let e = letter_of_type (read.column_at h j).type (column_at l j).kind (means.each j (in_layout file h o.header j w)).kind in
          type_exactly k (column_at l j).kind (read.column_at h j).type e

      is_there : (j : ℕ) → In (length h.columns) j → no_such_column l j ≡ false
      is_there j w = rw (columns_all file index most h m o) (there l.columns j (in_layout file h o.header j w))

      fits_there : (fitting l k c ≡ 0 → ⊥) → Named h name c × TypeRight k (read.column_at h c)
      fits_there z =
          let w = fitting_some l k c z in
          let p = such (layout_of file).columns c (rw (columns_all file index most h m o) at w.0) in
          let d : Named h name c = ⊎_elim (λ q. absurd (omega (arith, q.0, p.0))) (λ q. q) (column_of-name file h o.header name) in
          (d, (type_told c d.0).0 w.1)

      there_fits : (j : ℕ) → Named h name j → TypeRight k (read.column_at h j) → fitting l k c ≡ j
      there_fits j d t =
          let e = column_of-name_only file h o.header name j d in
          rw e (fitting_is l k j (is_there j d.0) ((type_told j d.0).1 t))

    -- ---- its rows
    row_told : (i : ℕ) → In (rows_of f n) i → (refuses (row_judged file index (layout_in f n)) i ≡ false) ↔ RowRight f n i
    row_told i w =
        let r : In m i = (w.0, omega (arith, w.1, rows_said)) in
        let x = row_exactly file index most h m o i r file (inside-file file index most h m o i r) in (
          λ e. x.0 (omega (arith, ltb-false 0 (row_judged file index (layout_in f n) i).number e)),
          λ e. le-ltb 0 (row_judged file index (layout_in f n) i).number (omega (arith, x.1 e)),
        )

    rows_as : rows_finding f tables n ≡ finding n (lowest_of (row_judged file index (layout_in f n)) (rows_of f n))
    unfolding rows_refusal
    rows_as =
        let q : min (rows_of f n) most_rows ≡ rows_of f n = omega (arith, rows_said, o.row_limit) in
        ap (λ (t : Table). finding n (lowest_of (row_judged file index t.layout) (rows.rows_of t))) opened_said
        ∙ ap (λ (r : ℕ). finding n (lowest_of (row_judged file index (layout_in f n)) r)) q

    -- the lowest row that is not right
    lowest_row : Exactly (finding n (lowest_of (row_judged file index (layout_in f n)) (rows_of f n))) (Each (rows_of f n) (RowRight f n))
        (λ q. (i : ℕ) × LowestFailing (rows_of f n) (RowRight f n) i × (finding n (row_judged file index (layout_in f n) i) ≡ q))
    unfolding lowest_of
    lowest_row =
        let g = row_judged file index (layout_in f n) in
        exactly_lowest (RowRight f n) (rows_of f n) (refuses g) row_told (finding n (lowest_of g (rows_of f n))) (λ i. finding n (g i))
        (λ e. ap (λ (i : ℕ). (at_row g i).number) e)
        (λ u. ap (finding n) (at_row_lem g (lowest (refuses g) (rows_of f n)) u))
        (λ k i e z. omega (arith, ltb-true 0 (g k).number e))

    rows_exactly : Exactly (rows_finding f tables n) (Each (rows_of f n) (RowRight f n)) (FailsWith f most [] (rows_right n))
    rows_exactly =
        let g = row_judged file index (layout_in f n) in
        let x : (i : ℕ) → In (rows_of f n) i → (a b : ℕ)
        → ((g i ≡ refusal a b) × (a ≡ 0 → ⊥)) ↔ table.RowRefused file (layout_in f n) (row_start f n i) (row_end f n i) i a b =
        λ i w a b. row_refused_exactly file index most h m o i (w.0, omega (arith, w.1, rows_said)) a b in
        subst (λ (a : Finding). Exactly a (Each (rows_of f n) (RowRight f n)) (FailsWith f most [] (rows_right n))) (sym rows_as)
        (said_as _ _ _ _ lowest_row
        (λ q z w. (
          w.0,
          w.1,
          ap (λ (q : Finding). q.table) w.2,
          (x w.0 w.1.within q.refusal.number q.refusal.place).0 (ap (λ (q : Finding). q.refusal) w.2, z),
        ))
        (λ q w. let e = (x w.0 w.1.within q.refusal.number q.refusal.place).1 w.3 in
        (w.0, w.1, λ i. record { table = w.2 i; refusal = e.0 i })))

    -- ---- F, or R, zero
    some_exactly : Exactly (empty_finding n (table_in tables n).rows) (0 < rows_of f n) (IsEmpty f n)
    some_exactly =
        subst (λ (r : ℕ). Exactly (empty_finding n (table_in tables n).rows) (0 < r) (λ q. (r ≡ 0) × (finding n (refusal 15 0) ≡ q))) said_rows
        (exactly_empty n (table_in tables n).rows)

  -- ---- opening
  opening_exactly : (n : TableName) → Exactly (opening f most n)
      ((h : Reading) × (rows : ℕ) × OpensWith f most n h rows) (FailsWith f most [] (opened n))
  opening_exactly n =
      exactly_of n (table_refusal (file_of f n) (index_of f n) most)
      ((h : Reading) × (rows : ℕ) × OpensWith f most n h rows) (opening.RefusedWith (file_of f n) (index_of f n) most)
      (opened_exactly (file_of f n) (index_of f n) most) (refused_exactly_when (file_of f n) (index_of f n) most)

  -- ---- all four open
  module _ (opens : (n : TableName) → (h : Reading) × (rows : ℕ) × OpensWith f most n h rows) where
    -- 17, by place
    place_fits : (k : ℕ) → In 10 k → number_at_place (columns_of f tables) k ≡ fitting (layout_in f (table_at k)) k
        (column_of (file_of f (table_at k)) (name_at k))
    unfolding column_for
    place_fits k i =
        let o = opens (table_at k) in
        column_at_place f tables k i
        ∙ ap (λ (t : Table). fitting t.layout k (column_of (file_of f (table_at k)) (name_at k))) (opened_as (table_at k) o.0 o.1 o.2)

    there_exactly : (k : ℕ) → In 10 k → (missing (columns_of f tables) k ≡ false) ↔ ColumnThere f k
    there_exactly k i =
        let n = table_at k in
        let h = (opens n).0 in
        let m = (opens n).1 in
        let o = (opens n).2 in
        let e = place_fits k i in (
          λ z.
              let d = fits_there n h m o k (λ y. eqb-false (number_at_place (columns_of f tables) k) 0 z (e ∙ y)) in
              record {
                reading = h;
                header = o.header;
                column = column_of (file_of f n)
                    (name_at k);
                within = d.0.0;
                named = d.0.1;
                type = d.1;
              },
          λ w.
              let q = accepted_once (file_of f n) w.reading h w.header o.header in
              let d = subst (λ (x : Reading). Named x (name_at k) w.column
              × TypeRight k (read.column_at x w.column)) q ((w.within, w.named), w.type) in
              let p = there_fits n h m o k w.column d.0 d.1 in
              ne_eqb (number_at_place (columns_of f tables) k) 0 (λ z. omega (arith, w.within.0, e, p)),
        )

    -- a column that is there is that of the name
    pub place_found : (k : ℕ) → In 10 k → ColumnThere f k
        → (number_at_place (columns_of f tables) k ≡ column_of (file_of f (table_at k)) (name_at k))
        × In (layout_in f (table_at k)).columns (column_of (file_of f (table_at k)) (name_at k))
    place_found k i w =
        let n = table_at k in
        let h = (opens n).0 in
        let o = (opens n).2 in
        let e = place_fits k i in
        let z = eqb-false (number_at_place (columns_of f tables) k) 0 ((there_exactly k i).1 w) in
        let d = fits_there n h (opens n).1 o k (λ y. z (e ∙ y)) in (
          e ∙ there_fits n h (opens n).1 o k (column_of (file_of f n) (name_at k)) d.0 d.1,
          in_layout (file_of f n) h o.header (column_of (file_of f n) (name_at k)) d.0.0,
        )

    columns_exactly : Exactly (column_finding (columns_of f tables)) (Each 10 (ColumnThere f)) (FailsWith f most [] columns_there)
    unfolding column_finding
    columns_exactly =
        let p = lowest (missing (columns_of f tables)) 10 in
        exactly_lowest (ColumnThere f) 10 (missing (columns_of f tables)) there_exactly (column_finding (columns_of f tables)) column_wrong
        (λ e. ap (λ (k : ℕ). number_of (found_at column_wrong k)) e)
        (λ u. found_there column_wrong p (λ e. omega arith))
        (λ k i e z. omega (arith, z))

    -- 14, by place
    rows_for_lem : (k : ℕ) → In 10 k → number_at_place (rows_for tables) k ≡ rows_of f (table_at k)
    rows_for_lem k i = let o = opens (table_at k) in rows_at_place tables k i ∙ said_rows (table_at k) o.0 o.1 o.2

    module _ (lengths : List ℕ) where
      room_told : (k : ℕ) → In 10 k → (too_short lengths (rows_for tables) k ≡ false) ↔ RoomFor f lengths k
      room_told k i = rw (rows_for_lem k i) (not_above (number_at_place lengths k) (rows_of f (table_at k)))

      room_exactly : Exactly (room_finding lengths (rows_for tables)) (Each 10 (RoomFor f lengths)) (FailsWith f most lengths room_enough)
      unfolding room_finding
      room_exactly =
          let p = lowest (too_short lengths (rows_for tables)) 10 in
          exactly_lowest (RoomFor f lengths) 10 (too_short lengths (rows_for tables)) room_told (room_finding lengths (rows_for tables))
          (λ k. finding (table_at k) (refusal 14 (rows_of f (table_at k))))
          (λ e. ap (λ (k : ℕ). number_of (found_at (room_needed (rows_for tables)) k)) e)
          (λ u.
          found_there (room_needed (rows_for tables)) p (λ e. omega arith)
          ∙ ap (λ (r : ℕ). finding (table_at p) (refusal 14 r)) (rows_for_lem p (u, lowest_le (too_short lengths (rows_for tables)) 10)))
          (λ k i e z. omega (arith, z))

  -- ---- in order
  module _ (lengths : List ℕ) where
    all_open : (k : ℕ) → 4 ≤ k → ((x : Test) → rank x < k → Holds f most lengths x) → (n : TableName)
        → (h : Reading) × (rows : ℕ) × OpensWith f most n h rows
    all_open k a e n = e (opened n) (omega (arith, turn_below n))

    in_order : InOrder Test rank apart (Holds f most lengths) (FailsWith f most lengths) (tests f most lengths) 0
    in_order = (
      (opened Edg, refl, λ e. opening_exactly Edg),
      (
        (opened Fac, refl, λ e. opening_exactly Fac),
        (
          (opened Rng, refl, λ e. opening_exactly Rng),
          (
            (opened Cnd, refl, λ e. opening_exactly Cnd),
            (
              (columns_there, refl, λ e. columns_exactly (all_open 4 (omega arith) e)),
              (
                (faces_some, refl, λ e. let o = all_open 5 (omega arith) e Fac in some_exactly Fac o.0 o.1 o.2),
                (
                  (rings_some, refl, λ e. let o = all_open 6 (omega arith) e Rng in some_exactly Rng o.0 o.1 o.2),
                  (
                    (room_enough, refl, λ e. room_exactly (all_open 7 (omega arith) e) lengths),
                    (
                      (rows_right Edg, refl, λ e. let o = all_open 8 (omega arith) e Edg in rows_exactly Edg o.0 o.1 o.2),
                      (
                        (rows_right Fac, refl, λ e. let o = all_open 9 (omega arith) e Fac in rows_exactly Fac o.0 o.1 o.2),
                        (
                          (rows_right Rng, refl, λ e. let o = all_open 10 (omega arith) e Rng in rows_exactly Rng o.0 o.1 o.2),
                          ((rows_right Cnd, refl, λ e. let o = all_open 11 (omega arith) e Cnd in rows_exactly Cnd o.0 o.1 o.2), tt),
                        ),
                      ),
                    ),
                  ),
                ),
              ),
            ),
          ),
        ),
      ),
    )

    -- NOTHING IS FOUND EXACTLY WHERE ALL TESTS HOLD
    pub all_hold_exactly : (number_of (load_finding f most lengths) ≡ 0) ↔ ((x : Test) → Holds f most lengths x)
    unfolding load_finding
    all_hold_exactly = nothing_exactly Test rank apart (Holds f most lengths) (FailsWith f most lengths)
        (tests f most lengths) in_order rank_below

    finding_exactly : (q : Finding) → ((load_finding f most lengths ≡ q) × (number_of q ≡ 0 → ⊥)) ↔ RefusedWith f most lengths q
    unfolding load_finding
    finding_exactly q =
        let w = found_exactly Test rank apart (Holds f most lengths) (FailsWith f most lengths) (tests f most lengths) in_order rank_below q in (
          λ e. let x = w.0 e in record { test = x.test; earlier = x.earlier; fails = x.fails },
          λ x. w.1 (record { test = x.test; earlier = x.earlier; fails = x.fails }),
        )

    -- ---- the counts
    count_in : (n : TableName) → count_of (counts tables) n ≡ (table_in tables n).rows
    count_in Edg = refl
    count_in Fac = refl
    count_in Rng = refl
    count_in Cnd = refl

    module _ (c : Counts) where
      holds_loads : ((x : Test) → Holds f most lengths x) → ((n : TableName) → rows_of f n ≡ count_of c n) → Loads f most lengths c
      holds_loads all e =
          record {
            opens = λ n.
                let o = all (opened n) in
                (o.0, subst (OpensWith f most n o.0) (sym (rows_said n o.0 o.1 o.2) ∙ e n) o.2);
            columns = all columns_there;
            faces = subst (λ (r : ℕ). 0 < r) (e Fac) (all faces_some);
            rings = subst (λ (r : ℕ). 0 < r) (e Rng) (all rings_some);
            room = λ k i. subst (λ (r : ℕ). r ≤ number_at_place lengths k) (e (table_at k)) (all room_enough k i);
            rows = λ n. subst (λ (r : ℕ). Each r (RowRight f n)) (e n) (all (rows_right n));
          }

      loads_rows : Loads f most lengths c → (n : TableName) → rows_of f n ≡ count_of c n
      loads_rows w n = rows_said n (w.opens n).0 (count_of c n) (w.opens n).1

      loads_holds : Loads f most lengths c → (x : Test) → Holds f most lengths x
      loads_holds w (opened n) = ((w.opens n).0, count_of c n, (w.opens n).1)
      loads_holds w columns_there = w.columns
      loads_holds w faces_some = subst (λ (r : ℕ). 0 < r) (sym (loads_rows w Fac)) w.faces
      loads_holds w rings_some = subst (λ (r : ℕ). 0 < r) (sym (loads_rows w Rng)) w.rings
      loads_holds w room_enough = λ k i. subst (λ (r : ℕ). r ≤ number_at_place lengths k) (sym (loads_rows w (table_at k))) (w.room k i)
      loads_holds w (rows_right n) = subst (λ (r : ℕ). Each r (RowRight f n)) (sym (loads_rows w n)) (w.rows n)

      counted : ((x : Test) → Holds f most lengths x) → (n : TableName) → rows_of f n ≡ count_of (counts tables) n
      counted all n = let o = all (opened n) in sym (said_rows n o.0 o.1 o.2) ∙ sym (count_in n)

      tile_exactly : (load_of f most lengths ≡ Ok c) ↔ ((number_of (load_finding f most lengths) ≡ 0) × (counts tables ≡ c))
      unfolding load_of unless_found
      tile_exactly =
          let q = load_finding f most lengths in
          bool_cases (eqb (number_of q) 0)
          (λ t. rw t (λ e. (eqb-true (number_of q) 0 t, cc), λ w. ap Ok w.1))
          (λ t. rw t (λ e. clash (cc), λ w. absurd (eqb-false (number_of q) 0 t w.0)))

      -- A TILE IS LOADED EXACTLY WHEN it is in words, and these are its counts
      pub loaded_exactly : (load_of f most lengths ≡ Ok c) ↔ Loads f most lengths c
      loaded_exactly = (
        λ e.
            let w = tile_exactly.0 e in
            let all = all_hold_exactly.0 w.0 in
            holds_loads all (λ n. counted all n ∙ ap (λ (c : Counts). count_of c n) w.1),
        λ w.
            let all = loads_holds w in
            let e : (n : TableName) → count_of (counts tables) n ≡ count_of c n = λ n. sym (counted all n) ∙ loads_rows w n in
            tile_exactly.1 (all_hold_exactly.1 all, λ i. record { edges = e Edg i; faces = e Fac i; rings = e Rng i; nodes = e Cnd i }),
      )

    -- A TILE IS REFUSED WITH THE FINDING q EXACTLY WHEN a test fails so and all earlier ones hold
    pub refused-exactly : (q : Finding) → (load_of f most lengths ≡ Err q) ↔ RefusedWith f most lengths q
    unfolding load_of unless_found
    refused-exactly q =
        let a = load_finding f most lengths in
        bool_cases (eqb (number_of a) 0)
        (λ t.
        rw t (
          λ e. clash (cc),
          λ w. let x = (finding_exactly q).1 w in absurd (x.1 (ap number_of (sym x.0) ∙ eqb-true (number_of a) 0 t)),
        ))
        (λ t.
        rw t (
          λ e. let x : a ≡ q = cc in (finding_exactly q).0 (x, λ z. eqb-false (number_of a) 0 t (ap number_of x ∙ z)),
          λ w. ap Err ((finding_exactly q).1 w).0,
        ))
