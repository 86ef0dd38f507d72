-- What all tests found, and what follows for the writing.
--
-- The plan. The first of two findings is associative (`found_joined`), so the first of the whole list is that of the openings, else of what
-- fits (17, 15, 14), else of the rows (`load_in_three`). `judge` goes by these (`finds_opening`, `finds_fit`, `finds_rows`, `finds_nothing`).
-- Of what was judged, a finding is the answer (`load_refused`). Where nothing was found the answer is the counts (`load_tile`), and `both_found` takes
-- the parts apart into what the writing needs (`writable`): no table has over 1,000,000 rows, all rows are accepted, each of the ten columns
-- is there, each lent column has room. What is written over the judged tables is what the definition has (`written`).
use mathlib.Core.Path.{◌≡◌, refl, sym, ap, subst, ◌∙◌}
use mathlib.Core.Bool.{false}
use mathlib.Core.List.{List, [], ◌∷◌, ◌++◌}
use Prim.Native.Nat.{ℕ, zero, suc, ◌≤◌}
use native.Mathlib.Omega.{arith}
use borrow.Author.Tests.{eq-eqb, ne_eqb, eqb-true, eqb-false, ltb-false, le-leb}
use lib.Dec.{eqb}
use Rattle.std.proofs.Common.{Ok, Err}
use Rattle.laws.specs.Lowest.{None, In}
use Rattle.laws.specs.Buffer.{front}
use Rattle.laws.proofs.LowestLaws.{bool_cases, lowest-zero}
use Rattle.refusal.specs.Order.{refuses}
use Rattle.refusal.proofs.OrderLaws.{all_passed}
use Rattle.header.specs.declared.Layout.{Layout}
use Rattle.opening.specs.declared.Table.{Table}
use Rattle.opening.specs.declared.Opened.{Opened}
use Rattle.limits.specs.Limits.{most_rows}
use Rattle.std.proofs.Common.{Result, Ok, Err}
use Rattle.refusal.specs.declared.Refusal.{Refusal}
use Rattle.header.proofs.JudgeLaws.{given as accepted}
use Rattle.opening.specs.Opening.{table_refusal, opened, opened_of}
use Rattle.table.specs.Rows.{rows_of, column_at, no_such_column, row_judged, rows_refusal}
use Rattle.opening.proofs.OpenedExactly.{opened_rows, opened_exactly, opened_table}
use Rattle.load.specs.declared.TableName.{TableName}
use Rattle.load.specs.declared.TableName.TheVariants.{Edg, Fac, Rng, Cnd}
use Rattle.load.specs.declared.OfTables.{OfTables}
use Rattle.load.specs.declared.Finding.{Finding}
use Rattle.load.specs.declared.Judged.{Judged}
use Rattle.load.specs.Sources.{given, Files, Tables, file_of, index_of, table_in, table_of, tables_of, table_at, type_fits, fitting, column_for, columns_of}
use Rattle.load.specs.Sources.{number_at_place, rows_for}
use Rattle.load.specs.Serving.Named.{opened_four, tables_among, columns_by}
use Rattle.load.specs.Cells.{cell_of, EdgeColumns}
use Rattle.load.specs.Load.{no_finding, first_found, first_finding, found_at, opening_tests, missing, column_wrong, column_finding, empty_finding, too_short}
use Rattle.load.specs.Load.{room_needed, room_finding, fit_tests, RowsJudged, rows_finding, row_tests}
use Rattle.load.specs.Load.{load_finding, counts, unless_found, reported, load_of, cells_of}
use Rattle.load.specs.Serving.Stages.{opened_all, fit_finding, fitted, all_rows_finding, judged_of}
use Rattle.load.proofs.NamedLaws.{columns_found, tables_found}

-- ---- the first of two, of three, of lists

abbrev pub number_of : Finding → ℕ
number_of a = a.refusal.number

pub found_passes : (a b : Finding) → number_of a ≡ 0 → first_found a b ≡ b
unfolding first_found
found_passes a b z = rw (eq-eqb (number_of a) 0 z) refl

pub found_stops : (a b : Finding) → (number_of a ≡ 0 → ⊥) → first_found a b ≡ a
unfolding first_found
found_stops a b n = rw (ne_eqb (number_of a) 0 n) refl

pub both_found : (a b : Finding) → number_of (first_found a b) ≡ 0 → (number_of a ≡ 0) × (number_of b ≡ 0)
both_found a b h =
    bool_cases (eqb (number_of a) 0)
    (λ t. let z = eqb-true (number_of a) 0 t in (z, ap number_of (sym (found_passes a b z)) ∙ h))
    (λ t. let n = eqb-false (number_of a) 0 t in absurd (n (ap number_of (sym (found_stops a b n)) ∙ h)))

found_joined : (a b c : Finding) → first_found (first_found a b) c ≡ first_found a (first_found b c)
found_joined a b c =
    bool_cases (eqb (number_of a) 0)
    (λ t. let z = eqb-true (number_of a) 0 t in ap (λ (x : Finding). first_found x c) (found_passes a b z)
    ∙ sym (found_passes a (first_found b c) z))
    (λ t.
    let n = eqb-false (number_of a) 0 t in
    ap (λ (x : Finding). first_found x c) (found_stops a b n) ∙ found_stops a c n ∙ sym (found_stops a (first_found b c) n))

found_append : (a b : List Finding) → first_finding (a ++ b) ≡ first_found (first_finding a) (first_finding b)
found_append [] b = sym (found_passes no_finding (first_finding b) refl)
found_append (x ∷ a) b = ap (first_found x) (found_append a b) ∙ sym (found_joined x (first_finding a) (first_finding b))

-- ---- what is given where nothing is found

pub given_fine : {A : Type 0} (a : Finding) (x z : A) → unless_found a x ≡ Ok z → (number_of a ≡ 0) × (x ≡ z)
unfolding unless_found
given_fine a x z e =
    bool_cases (eqb (number_of a) 0)
    (λ t. (eqb-true (number_of a) 0 t, let w = rw t at e in cc))
    (λ t. let w = rw t at e in absurd cc)

pub given_found : {A : Type 0} (a r : Finding) (x : A) → unless_found a x ≡ Err r → (number_of a ≡ 0 → ⊥) × (a ≡ r)
unfolding unless_found
given_found a r x e =
    bool_cases (eqb (number_of a) 0)
    (λ t. let w = rw t at e in absurd cc)
    (λ t. (eqb-false (number_of a) 0 t, let w = rw t at e in cc))

pub given_at : {A : Type 0} (a : Finding) (x : A) → number_of a ≡ 0 → unless_found a x ≡ Ok x
unfolding unless_found
given_at a x z = rw (eq-eqb (number_of a) 0 z) refl

-- of tests in order: one that passes leaves the answer to the rest, and one that finds something is the answer
pub passes : {A B : Type 0} (a b : Finding) (x z : A) (y : B) → unless_found a x ≡ Ok z → unless_found (first_found a b) y ≡ unless_found b y
passes a b x z y e = ap (λ (q : Finding). unless_found q y) (found_passes a b (given_fine a x z e).0)

pub finds : {A B : Type 0} (a b r : Finding) (x : A) (y : B) → unless_found a x ≡ Err r → unless_found (first_found a b) y ≡ Err r
unfolding unless_found
finds a b r x y e =
    let w = given_found a r x e in
    rw (found_stops a b w.0, ne_eqb (number_of a) 0 w.0) (ap Err w.1)

-- the last test's answer is what is left
pub alone : (a : Finding) → reported (first_found a no_finding) ≡ reported a
unfolding first_found unless_found
alone a = bool_cases (eqb (number_of a) 0) (λ t. rw t refl) (λ t. rw (t, t) refl)

-- what a test that passes gives
pub gives : {A : Type 0} (a : Finding) (x z : A) → unless_found a x ≡ Ok z → x ≡ z
gives a x z e = (given_fine a x z e).1

-- ---- all tests

module _ (f : Files) (most : ℕ) (lengths : List ℕ) where
  abbrev tables : Tables
  tables = tables_of f most

  abbrev columns : List ℕ
  columns = columns_of f tables

  load_in_three : load_finding f most lengths
      ≡ first_found (first_finding (opening_tests f most)) (first_found (fit_finding tables columns lengths) (all_rows_finding f tables))
  unfolding load_finding fit_finding all_rows_finding
  load_in_three =
      found_append (opening_tests f most) (fit_tests tables columns lengths ++ row_tests f tables)
      ∙ ap (first_found (first_finding (opening_tests f most))) (found_append (fit_tests tables columns lengths) (row_tests f tables))

  -- as `judge` runs them
  abbrev all : Judged
  all = record { opened = opened_four f most; columns = columns }

  judged_in_three : judged_of f most lengths
      ≡ unless_found (first_found (first_finding (opening_tests f most)) (first_found (fit_finding tables columns lengths) (all_rows_finding f tables))) all
  unfolding judged_of
  judged_in_three = ap (λ (q : Finding). unless_found q all) load_in_three

  pub finds_opening : (r : Finding) → opened_all f most ≡ Err r → judged_of f most lengths ≡ Err r
  unfolding opened_all
  finds_opening r e = judged_in_three ∙ finds _ _ _ _ _ e

  module _ (o : OfTables Opened) (po : opened_all f most ≡ Ok o) where
    same_opened : opened_four f most ≡ o
    unfolding opened_all
    same_opened = (given_fine (first_finding (opening_tests f most)) (opened_four f most) o po).1

    same_tables : tables ≡ tables_among o
    same_tables = sym (tables_found f most) ∙ ap tables_among same_opened

    same_columns : columns ≡ columns_by f o
    same_columns = sym (columns_found f most) ∙ ap (columns_by f) same_opened

    fit_next : judged_of f most lengths ≡ unless_found (first_found (fit_finding (tables_among o) (columns_by f o) lengths) (all_rows_finding f (tables_among o)))
        (record { opened = o; columns = columns_by f o })
    unfolding opened_all
    fit_next =
        judged_in_three ∙ passes _ _ _ _ _ po
        ∙ (λ i. unless_found (first_found (fit_finding (same_tables i) (same_columns i) lengths) (all_rows_finding f (same_tables i)))
        (record { opened = same_opened i; columns = same_columns i }))

    pub finds_fit : (r : Finding) → fitted f o lengths ≡ Err r → judged_of f most lengths ≡ Err r
    unfolding fitted
    finds_fit r e = fit_next ∙ finds _ _ _ _ _ e

    module _ (k : List ℕ) (pk : fitted f o lengths ≡ Ok k) where
      rows_next : judged_of f most lengths ≡ unless_found (all_rows_finding f (tables_among o)) (record { opened = o; columns = k })
      unfolding fitted
      rows_next =
          fit_next ∙ passes _ _ _ _ _ pk
          ∙ ap (λ (k : List ℕ). unless_found (all_rows_finding f (tables_among o)) (record { opened = o; columns = k })) (given_fine _ _ k pk).1

      pub finds_rows : (r : Finding) → reported (all_rows_finding f (tables_among o)) ≡ Err r → judged_of f most lengths ≡ Err r
      unfolding unless_found
      finds_rows r e =
          let w = given_found (all_rows_finding f (tables_among o)) r tt e in
          rows_next ∙ rw (ne_eqb _ 0 w.0) (ap Err w.1)

      pub finds_nothing : reported (all_rows_finding f (tables_among o)) ≡ Ok tt → judged_of f most lengths ≡ Ok (record { opened = o; columns = k })
      finds_nothing e = rows_next ∙ given_at _ _ (given_fine (all_rows_finding f (tables_among o)) tt tt e).0

-- ---- no opened table has over 1,000,000 rows

few_given : (file index : List ℕ) (most : ℕ) (r : Result Opened Refusal) → opened_of file index most ≡ r → (given r).table.rows ≤ most_rows
unfolding opened_of
few_given file index most (Ok o) e =
    let p = accepted (table_refusal file index most) (opened file index) o e in
    let w = (opened_exactly file index most).0 p.0 in
    let n = opened_rows file index most w.0 w.1 w.2 in
    let q = ap (λ (o : Opened). o.table.rows) p.1 in
    omega (arith, n, q, w.2.row_limit)
few_given file index most (Err q) e = omega arith

few : (file index : List ℕ) (most : ℕ) → (given (opened_of file index most)).table.rows ≤ most_rows
few file index most = few_given file index most (opened_of file index most) refl

-- the rows of a table that is not too long are all judged
all_judged : (file index : List ℕ) (t : Table) → t.rows ≤ most_rows → (rows_refusal file index t).number ≡ 0 → RowsJudged file index t
unfolding rows_refusal
all_judged file index t h e =
    let q : rows_of t ≡ t.rows = omega arith in
    subst (λ (n : ℕ). None (refuses (row_judged file index t.layout)) n) q (all_passed (row_judged file index t.layout) (rows_of t) e)

-- ---- by the tables' names, and by the ten places

pub table_in_lem : (f : Files) (most : ℕ) (n : TableName) → table_in (tables_of f most) n ≡ table_of f most n
unfolding tables_of
table_in_lem f most Edg = refl
table_in_lem f most Fac = refl
table_in_lem f most Rng = refl
table_in_lem f most Cnd = refl

-- what holds of one of ten
ten : (P : ℕ → Type 0) → P 1 → P 2 → P 3 → P 4 → P 5 → P 6 → P 7 → P 8 → P 9 → P 10 → (k : ℕ) → In 10 k → P k
ten P a b c d e f g h i j zero w = absurd (omega (arith, w.0))
ten P a b c d e f g h i j (suc zero) w = a
ten P a b c d e f g h i j (suc (suc zero)) w = b
ten P a b c d e f g h i j (suc (suc (suc zero))) w = c
ten P a b c d e f g h i j (suc (suc (suc (suc zero)))) w = d
ten P a b c d e f g h i j (suc (suc (suc (suc (suc zero))))) w = e
ten P a b c d e f g h i j (suc (suc (suc (suc (suc (suc zero)))))) w = f
ten P a b c d e f g h i j (suc (suc (suc (suc (suc (suc (suc zero))))))) w = g
ten P a b c d e f g h i j (suc (suc (suc (suc (suc (suc (suc (suc zero)))))))) w = h
ten P a b c d e f g h i j (suc (suc (suc (suc (suc (suc (suc (suc (suc zero))))))))) w = i
ten P a b c d e f g h i j (suc (suc (suc (suc (suc (suc (suc (suc (suc (suc zero)))))))))) w = j
ten P a b c d e f g h i j (suc (suc (suc (suc (suc (suc (suc (suc (suc (suc (suc k))))))))))) w = absurd (omega (arith, w.1))

pub column_at_place : (f : Files) (t : Tables) (k : ℕ) → In 10 k
    → number_at_place (columns_of f t) k ≡ column_for (file_of f (table_at k)) (table_in t (table_at k)) k
unfolding columns_of table_at
column_at_place f t =
    ten (λ k. number_at_place (columns_of f t) k ≡ column_for (file_of f (table_at k)) (table_in t (table_at k)) k)
    refl refl refl refl refl refl refl refl refl refl

pub rows_at_place : (t : Tables) (k : ℕ) → In 10 k → number_at_place (rows_for t) k ≡ (table_in t (table_at k)).rows
unfolding rows_for table_at
rows_at_place t = ten (λ k. number_at_place (rows_for t) k ≡ (table_in t (table_at k)).rows) refl refl refl refl refl refl refl refl refl refl

-- ---- nothing found: every test is passed

-- a column that fits is there
fitting_there : (l : Layout) (k c : ℕ) → (fitting l k c ≡ 0 → ⊥) → no_such_column l (fitting l k c) ≡ false
unfolding fitting
fitting_there l k c n =
    bool_cases (no_such_column l c)
    (λ a. absurd (n (rw a refl)))
    (λ a.
    bool_cases (type_fits k (column_at l c).kind)
    (λ b. rw (a, b) a)
    (λ b. absurd (n (rw (a, b) refl))))

found_column : (file : List ℕ) (t : Table) (k : ℕ) → (column_for file t k ≡ 0 → ⊥) → no_such_column t.layout (column_for file t k) ≡ false
unfolding column_for
found_column file t k n = fitting_there t.layout k _ n

-- a test by place that finds nothing fails at none
nowhere : (g : ℕ → Finding) → ((k : ℕ) → number_of (g k) ≡ 0 → ⊥) → (k : ℕ) → number_of (found_at g k) ≡ 0 → k ≡ 0
nowhere g refuses zero z = refl
nowhere g refuses (suc k) z = absurd (refuses (suc k) z)

-- what the writing needs of what was judged
pub record Writable (f : Files) (lengths : List ℕ) (j : Judged) : Type 0 where
  pub few : (n : TableName) → (table_in (tables_among j.opened) n).rows ≤ most_rows
  pub judged : (n : TableName) → RowsJudged (file_of f n) (index_of f n) (table_in (tables_among j.opened) n)
  pub there : (k : ℕ) → In 10 k → no_such_column (table_in (tables_among j.opened) (table_at k)).layout (number_at_place j.columns k) ≡ false
  pub room : (k : ℕ) → In 10 k → (table_in (tables_among j.opened) (table_at k)).rows ≤ number_at_place lengths k

-- the first six places are those of edges
edge_place : (k : ℕ) → k ≤ 6 → table_at k ≡ Edg
unfolding table_at
edge_place k h = rw (le-leb k 6 h) refl

pub edge_columns : (f : Files) (lengths : List ℕ) (j : Judged) → Writable f lengths j → EdgeColumns j.opened.edg.table.layout j.columns
edge_columns f lengths j w k a b =
    subst (λ (n : TableName). no_such_column (table_in (tables_among j.opened) n).layout (number_at_place j.columns k) ≡ false) (edge_place k b)
    (w.there k (a, omega arith))

module _ (f : Files) (most : ℕ) (lengths : List ℕ) where
  -- something found: that is the answer
  pub load_refused : (r : Finding) → judged_of f most lengths ≡ Err r → Err r ≡ load_of f most lengths
  unfolding load_of judged_of unless_found
  load_refused r p =
      let w = given_found (load_finding f most lengths) r _ p in
      rw (ne_eqb _ 0 w.0) (ap Err (sym w.1))

  module _ (j : Judged) (p : judged_of f most lengths ≡ Ok j) where
    nothing_found : number_of (load_finding f most lengths) ≡ 0
    unfolding judged_of
    nothing_found = (given_fine (load_finding f most lengths) _ j p).0

    same_judged : record { opened = opened_four f most; columns = columns_of f (tables_of f most) } ≡ j
    unfolding judged_of
    same_judged = (given_fine (load_finding f most lengths) _ j p).1

    same_tables-judged : tables_among j.opened ≡ tables_of f most
    same_tables-judged = ap (λ (j : Judged). tables_among j.opened) (sym same_judged) ∙ tables_found f most

    same_columns-judged : j.columns ≡ columns_of f (tables_of f most)
    same_columns-judged = ap (λ (j : Judged). j.columns) (sym same_judged)

    pub load_tile : Ok (counts (tables_among j.opened)) ≡ load_of f most lengths
    unfolding load_of
    load_tile = ap (λ (t : Tables). Ok (counts t)) same_tables-judged ∙ sym (given_at _ _ nothing_found)

    -- a column as it is written is that of the definition
    pub written : (n : TableName) (k : ℕ) (d e : List ℕ)
        → e ≡ front (cell_of (file_of f n) (index_of f n) (table_in (tables_among j.opened) n).layout (number_at_place j.columns k)) (table_in (tables_among j.opened) n).rows d
        → e ≡ front (cells_of f most n k) (table_in (tables_of f most) n).rows d
    unfolding cells_of
    written n k d e h =
        h
        ∙ ap (λ (t : Tables). front (cell_of (file_of f n) (index_of f n) (table_in t n).layout (number_at_place j.columns k))
        (table_in t n).rows d) same_tables-judged
        ∙ ap (λ (c : List ℕ). front (cell_of (file_of f n) (index_of f n) (table_in (tables_of f most) n).layout
        (number_at_place c k)) (table_in (tables_of f most) n).rows d)
        same_columns-judged

    -- also where the column was written over another that says the same
    pub written_over : (n : TableName) (k : ℕ) (d d′ e : List ℕ) → d′ ≡ d
        → e ≡ front (cell_of (file_of f n) (index_of f n) (table_in (tables_among j.opened) n).layout (number_at_place j.columns k))
        (table_in (tables_among j.opened) n).rows d′
        → e ≡ front (cells_of f most n k) (table_in (tables_of f most) n).rows d
    written_over n k d d′ e q h = rw (sym q) (written n k d′ e h)

    passed : number_of (first_found (first_finding (opening_tests f most))
        (first_found (fit_finding (tables_among j.opened) j.columns lengths) (all_rows_finding f (tables_among j.opened)))) ≡ 0
    passed = rw (same_columns-judged, same_tables-judged) (ap number_of (sym (load_in_three f most lengths)) ∙ nothing_found)

    fit_passed : number_of (fit_finding (tables_among j.opened) j.columns lengths) ≡ 0
    fit_passed = (both_found _ _ (both_found _ _ passed).1).0

    rows_passed : number_of (all_rows_finding f (tables_among j.opened)) ≡ 0
    rows_passed = (both_found _ _ (both_found _ _ passed).1).1

    -- each of the ten columns is there
    none_missing : None (missing j.columns) 10
    unfolding fit_finding column_finding
    none_missing =
        let h = (both_found (column_finding j.columns) _ fit_passed).0 in
        lowest-zero (missing j.columns) 10 (nowhere column_wrong (λ k e. omega (arith, e)) _ h)

    found_there : (k : ℕ) → In 10 k → no_such_column (table_in (tables_among j.opened) (table_at k)).layout (number_at_place j.columns k) ≡ false
    found_there k i =
        let file = file_of f (table_at k) in
        let table = table_in (tables_of f most) (table_at k) in
        let q : number_at_place j.columns k ≡ column_for file table k = ap (λ (c : List ℕ). number_at_place c k) same_columns-judged
        ∙ column_at_place f (tables_of f most) k i in
        let some = eqb-false (number_at_place j.columns k) 0 (none_missing.fails k i.0 i.1) in
        subst (λ (t : Tables). no_such_column (table_in t (table_at k)).layout (number_at_place j.columns k) ≡ false) (sym same_tables-judged)
        (rw q (found_column file table k (λ w. some (q ∙ w))))

    -- each lent column has room
    none_short : None (too_short lengths (rows_for (tables_among j.opened))) 10
    unfolding fit_finding room_finding
    none_short =
        let a = (both_found (column_finding j.columns) _ fit_passed).1 in
        let b = (both_found (empty_finding Fac (tables_among j.opened).fac.rows) _ a).1 in
        let c = (both_found (empty_finding Rng (tables_among j.opened).rng.rows) _ b).1 in
        let d = (both_found (room_finding lengths (rows_for (tables_among j.opened))) no_finding c).0 in
        lowest-zero _ 10 (nowhere (room_needed (rows_for (tables_among j.opened))) (λ k e. omega (arith, e)) _ d)

    -- every row is accepted
    few_judged : (n : TableName) → (table_in (tables_among j.opened) n).rows ≤ most_rows
    few_judged n =
        subst (λ (t : Tables). (table_in t n).rows ≤ most_rows) (sym same_tables-judged)
        (rw (table_in_lem f most n) (few (file_of f n) (index_of f n) most))

    row_passed : (n : TableName) → number_of (rows_finding f (tables_among j.opened) n) ≡ 0
    unfolding all_rows_finding
    row_passed Edg = (both_found _ _ rows_passed).0
    row_passed Fac = (both_found _ _ (both_found _ _ rows_passed).1).0
    row_passed Rng = (both_found _ _ (both_found _ _ (both_found _ _ rows_passed).1).1).0
    row_passed Cnd = (both_found _ _ (both_found _ _ (both_found _ _ (both_found _ _ rows_passed).1).1).1).0

    pub writable : Writable f lengths j
    writable =
        record {
          few = few_judged;
          judged = λ n. all_judged (file_of f n) (index_of f n) (table_in (tables_among j.opened) n) (few_judged n) (row_passed n);
          there = found_there;
          room = λ k i.
              subst (λ (r : ℕ). r ≤ number_at_place lengths k) (rows_at_place (tables_among j.opened) k i)
              (ltb-false (number_at_place lengths k) (number_at_place (rows_for (tables_among j.opened)) k) (none_short.fails k i.0 i.1));
        }
