-- A row judged by plain numbers is judged as its layout says, and its columns are found where they start by the layout; and a loop that
-- judges the rows so answers for the lowest.
use mathlib.Core.Path.{◌≡◌, refl, sym, ap, ◌∙◌}
use mathlib.Core.Logic.{by_cases}
use mathlib.Core.Bool.{true, false}
use mathlib.Core.List.{List}
use Prim.Native.Nat.{ℕ, zero, suc, pred, min, ◌+◌, ◌-◌, ◌≤◌, ◌<◌}
use native.Mathlib.Omega.{arith}
use native.Mathlib.Numerals.{add-one}
use native.Mathlib.Decide.{ℕ_discrete}
use lib.Dec.{eqb}
use lib.ListN.{length, get_or, set, replicate}
use borrow.Author.Tests.{eq-eqb, ne_eqb}
use Rattle.laws.specs.Lowest.{None}
use Rattle.laws.proofs.LowestLaws.{bool_cases, none_start}
use Rattle.laws.proofs.BufferLaws.{front_low}
use Rattle.refusal.specs.declared.Refusal.{Refusal}
use Rattle.refusal.specs.Order.{answered, fine, refuses, lowest_of}
use Rattle.refusal.proofs.AnswerLaws.{ok-fine}
use Rattle.opening.specs.declared.Table.{Table}
use Rattle.table.proofs.AnsweredRows.{unless_err, unless_ok}
use Rattle.refusal.proofs.OrderLaws.{first-refuses, both, on_next, found, all_fine}
use Rattle.number.specs.declared.Order.{Order}
use Rattle.header.specs.declared.Layout.{Layout}
use Rattle.limits.specs.Limits.{most_columns, most_rows}
use Rattle.std.specs.Prelude.{Ok, Err}
use Rattle.table.specs.declared.Unreached.{Unreached}
use Rattle.table.specs.declared.Unreached.TheVariants.{Short, BadTriplet}
use Rattle.opening.specs.Opening.{end_at}
use Rattle.table.specs.Rows.{Reach, between, rows_of, no_such_row, unless_refused, row_of, columns_of, column_at, no_such, no_such_column, bound_of, outside, field_end, onward, reach}
use Rattle.table.specs.Rows.{place_of, offset_place, column_place, used_up, id_judged, place_judged, place_refusal, fields_refusal, row_refusal, row_judged}
use Rattle.table.specs.declared.rows.Rows.{Rows}
use Rattle.table.specs.Plans.{bound_by, id_offset, rows_by, code_at, plan_of, code_end, plan_reach, places_left, places_after}
use Rattle.table.specs.Serving.RowPlans.{fixed_row, planned_fields, planned_row, planned_places, judged_by, places_by, place_by}
use Rattle.table.proofs.FieldLaws.{code_says}
use Rattle.table.proofs.WalkLaws.{stays_so, passed_so, length_left, left_next, left_stays, left_at, passed}
use Rattle.table.proofs.RowLaws.{end_refused, end_passes, such, place_fine, missing_refused, first_same}

-- the codes of a plan
plan_at : (l : Layout) (n : ℕ) → n < columns_of l → get_or (plan_of l) n 0 ≡ code_at l n
unfolding plan_of
plan_at l n h = front_low (code_at l) (columns_of l) (replicate most_columns 0) n h

-- ---- a walk by the plan
module _ (o : Order) (s plan : List ℕ) (start end : ℕ) where
  abbrev gone : ℕ → Reach
  gone n = plan_reach o s plan start end n

  -- the next column, from where the last ended
  pub plan_next : (j at : ℕ) (x : Reach) → gone j ≡ Ok at → x ≡ code_end o s end (get_or plan j 0) at → gone (j + 1) ≡ x
  plan_next j at x e f = rw (add-one j, e, f)

  -- a walk that stopped at column j + 1 has come as far, and left the places, as one past all n columns
  module _ (x : Unreached) (j n at : ℕ) (a : j < n) (e : gone j ≡ Ok at) (f : Err x ≡ code_end o s end (get_or plan j 0) at) where
    abbrev stopped : Reach
    stopped = Err x

    so : (m : ℕ) → j + 1 ≤ m → gone m ≡ stopped
    so = stays_so gone (λ n p. code_end o s end (get_or plan n 0) p) (λ n. refl) stopped (λ f. refl) (j + 1) (plan_next j at stopped e f)

    pub plan_stopped : stopped ≡ gone n
    plan_stopped = sym (so n (omega arith))

    pub plan_left : (old places : List ℕ) → places ≡ places_left gone j old → set places j at ≡ places_left gone n old
    plan_left old places g =
        left_next gone old j at places e g ∙ sym (left_stays gone old stopped (λ places k. refl) (j + 1) so n (omega arith))

  -- THE FIELDS of a row by the place that the walk left for its id
  module _ (n id i : ℕ) (old : List ℕ) (z : 0 < id) (h : id ≤ n) (room : n ≤ length old) where
    id_left : (x : Reach) → gone n ≡ x → used_up x end i (id_judged o s (get_or (places_left gone n old) (pred id) 0) i)
        ≡ used_up x end i (id_judged o s (place_of (gone (pred id))) i)
    id_left (Ok p) e =
        let f = passed_so gone (λ n p. code_end o s end (get_or plan n 0) p) (λ n. refl) n p e (pred id) (omega arith) in
        ap (λ (v : ℕ). used_up (Ok p) end i (id_judged o s v i)) (left_at gone old n id _ z h room f)
    id_left (Err Short) e = refl
    id_left (Err (BadTriplet q)) e = refl

    -- those that the walk does not come through are refused as it says, and those that it does by their id
    module _ (reach : Reach) (a : reach ≡ gone n) where
      pub walk_refused : (r : Refusal) → answered (used_up reach end i fine) ≡ Err r
          → answered (planned_fields o s plan n id start end i) ≡ Err r
      unfolding planned_fields
      walk_refused r e = rw a at (end_refused reach end i (id_judged o s (place_of (gone (pred id))) i) r e)

      pub walk_passed : (places : List ℕ) → places ≡ places_left gone n old → answered (used_up reach end i fine) ≡ Ok tt
          → id_judged o s (get_or places (id - 1) 0) i ≡ planned_fields o s plan n id start end i
      unfolding planned_fields
      walk_passed places b e =
          let k : id - 1 ≡ pred id = omega arith in
          sym (end_passes reach end i (id_judged o s (get_or places (id - 1) 0) i) e) ∙ rw (a, b, k) (id_left (gone n) refl)

  pub length_planned : (n id i : ℕ) (old : List ℕ) → length (planned_places o s plan n id start end i old) ≡ length old
  unfolding planned_places
  length_planned n id i old = bool_cases (eqb (place_judged s (no_such n id) start end i).number 0)
      (λ t. rw t (length_left gone old n)) (λ t. rw t)

  pub length_after : (n : ℕ) (old : List ℕ) → length (places_after o s plan n start end old) ≡ length old
  unfolding places_after
  length_after n old = bool_cases (outside s start end) (λ t. rw t) (λ t. rw t (length_left gone old (min n most_columns)))

-- a judgement leaves the places as many as they were
pub length_by : (s : List ℕ) (r : Rows) (start end i : ℕ) (old : List ℕ) → length (places_by r s start end i old) ≡ length old
unfolding places_by
length_by s r start end i old =
    bool_cases (eqb r.width 0) (λ t. rw t (length_planned r.order s r.plan start end r.columns r.id i old)) (λ t. rw t)

-- ---- a row by its plan, and by its layout
module _ (s : List ℕ) (l : Layout) (start end : ℕ) where
  -- a walk by the plan comes as far as one by the layout
  pub plan_reach_lem : (n : ℕ) → n ≤ columns_of l → plan_reach l.order s (plan_of l) start end n ≡ reach s l start end n
  plan_reach_lem zero h = refl
  plan_reach_lem (suc n) h =
      let e : (p : ℕ) → code_end l.order s end (get_or (plan_of l) n 0) p ≡ field_end l.order s end (column_at l (suc n)) p =
      λ p. rw (plan_at l n (omega arith)) (code_says l.order s end p (column_at l (suc n))) in
      ap (λ (x : Reach). onward x (λ p. code_end l.order s end (get_or (plan_of l) n 0) p)) (plan_reach_lem n (omega arith))
      ∙ ap (onward (reach s l start end n)) (λ t p. e p t)

  module _ (i : ℕ) where
    -- A ROW BY ITS PLAN is judged as its layout says
    pub planned_row_lem : l.width ≡ 0 → planned_row l.order s (plan_of l) (columns_of l) l.id start end i ≡ row_refusal s l start end i
    unfolding planned_row planned_fields row_refusal fields_refusal column_place
    planned_row_lem z =
        first_same (place_refusal s l start end i) _ _
        (λ f.
        let h = such (columns_of l) l.id (place_fine s (no_such_column l l.id) start end i _ refl f).1 in
        rw (eq-eqb l.width 0 z, plan_reach_lem (columns_of l) (omega arith), plan_reach_lem (pred l.id) (omega (arith, h.1))))

    -- A ROW OF ONE WIDTH likewise
    pub fixed_row_lem : (l.width ≡ 0 → ⊥) → fixed_row l.order s (id_offset l) start end i ≡ row_refusal s l start end i
    unfolding id_offset row_refusal fields_refusal column_place
    fixed_row_lem z =
        bool_cases (no_such_column l l.id)
        (λ t. rw t (sym (first-refuses (place_judged s true start end i) (fields_refusal s l start end i) (missing_refused s start end i))))
        (λ t. rw (t, ne_eqb l.width 0 z))

    -- A ROW BY WHAT IS TAKEN OF ITS LAYOUT likewise
    pub judged_by_lem : judged_by (rows_by l) s start end i ≡ row_refusal s l start end i
    unfolding judged_by
    judged_by_lem =
        by_cases (ℕ_discrete l.width 0)
        (λ z. rw (eq-eqb l.width 0 z) (planned_row_lem z))
        (λ z. rw (ne_eqb l.width 0 z) (fixed_row_lem z))

    -- ---- a row that is not refused
    module _ (judged : (row_refusal s l start end i).number ≡ 0) where
      pub judged_inside : outside s start end ≡ false
      unfolding row_refusal
      judged_inside = (place_fine s (no_such_column l l.id) start end i _ refl
          (both (place_refusal s l start end i) (fields_refusal s l start end i) judged).0).0

      -- its walk comes past each column
      module _ (z : l.width ≡ 0) where
        used : (x : Reach) (rest : Refusal) → (used_up x end i rest).number ≡ 0 → x ≡ Ok (place_of x)
        used (Ok p) rest e = refl
        used (Err Short) rest e = absurd (omega arith)
        used (Err (BadTriplet q)) rest e = absurd (omega arith)

        through : reach s l start end (columns_of l) ≡ Ok (place_of (reach s l start end (columns_of l)))
        unfolding row_refusal fields_refusal
        through =
            let f = (both (place_refusal s l start end i) (fields_refusal s l start end i) judged).1 in
            used (reach s l start end (columns_of l)) _ (rw (eq-eqb l.width 0 z) at f)

        -- THE PLACE that a walk past column k leaves for it is where it starts
        pub left_place : (k m : ℕ) (old : List ℕ) → no_such_column l k ≡ false → k ≤ m → m ≤ length old
            → get_or (places_left (plan_reach l.order s (plan_of l) start end) m old) (pred k) 0 ≡ column_place s l start end k
        unfolding column_place
        left_place k m old there a b =
            let h = such (columns_of l) k there in
            let e = plan_reach_lem (pred k) (omega (arith, h.1)) ∙ passed s l start end (columns_of l) _ through (pred k) (omega (arith, h.1)) in
            rw (eq-eqb l.width 0 z) (left_at (plan_reach l.order s (plan_of l) start end) old m k _ h.0 a b e)

      pub walked_place : l.width ≡ 0 → (k n : ℕ) (old : List ℕ) → no_such_column l k ≡ false → k ≤ n → length old ≡ most_columns
          → get_or (places_after l.order s (plan_of l) n start end old) (pred k) 0 ≡ column_place s l start end k
      unfolding places_after
      walked_place z k n old there a b =
          let h = such (columns_of l) k there in
          rw judged_inside (left_place z k (min n most_columns) old there (omega (arith, h.1)) (omega arith))

      -- where all rows have one width it starts at its offset
      pub fixed_place : (l.width ≡ 0 → ⊥) → (k : ℕ) → offset_place l start end k ≡ column_place s l start end k
      unfolding column_place
      fixed_place z k = rw (ne_eqb l.width 0 z)

      -- so that either way the judgement has found it
      pub judged_place : (k offset : ℕ) (old : List ℕ) → no_such_column l k ≡ false → length old ≡ most_columns
          → offset ≡ (column_at l k).offset
          → place_by (places_by (rows_by l) s start end i old) k l.width offset start end ≡ column_place s l start end k
      unfolding place_by places_by planned_places row_refusal
      judged_place k offset old there b c =
          by_cases (ℕ_discrete l.width 0)
          (λ z.
          let h = such (columns_of l) k there in
          let g = (both (place_refusal s l start end i) (fields_refusal s l start end i) judged).0 in
          rw (eq-eqb l.width 0 z, g) (left_place z k (columns_of l) old there h.1 (omega arith)))
          (λ z. rw (ne_eqb l.width 0 z, c) (fixed_place z k))

-- ---- where rows lie

module _ (index : List ℕ) (l : Layout) where
  -- row 1 starts where the header says
  pub bound_first : l.start ≡ bound_of l index 0
  unfolding bound_of end_at
  bound_first = bool_cases (eqb l.width 0) (λ t. rw t) (λ t. rw t (omega arith))

  -- THE BOUND by plain numbers
  pub bound_by_lem : (k : ℕ) → bound_by l.order index l.start l.width k ≡ bound_of l index k
  unfolding bound_by bound_of end_at
  bound_by_lem k = bool_cases (eqb l.width 0) (λ t. rw t) (λ t. rw t)

-- ---- all rows, as the two loops judge them
module _ (s index : List ℕ) (l : Layout) where
  -- those up to row i are fine, and the last of them ends here
  pub record FineTo (i start : ℕ) : Type 0 where
    pub ends : start ≡ bound_of l index i
    pub fine : None (refuses (row_judged s index l)) i

  -- row i + 1 ends and is judged as the layout says
  pub record NextRow (i end : ℕ) (q : Refusal) : Type 0 where
    pub ends : end ≡ bound_of l index (i + 1)
    pub judged : q ≡ row_judged s index l (i + 1)

  pub fine_first : FineTo 0 l.start
  fine_first = record { ends = bound_first index l; fine = none_start (refuses (row_judged s index l)) }

  module _ (i start end : ℕ) (from : FineTo i start) where
    next_row : (q : Refusal) → end ≡ bound_of l index (i + 1) → q ≡ row_refusal s l start end (i + 1) → NextRow i end q
    next_row q to e =
        let p : pred (i + 1) ≡ i = omega arith in
        record { ends = to; judged = e ∙ rw (from.ends, to, p) }

    pub next_by : (r : Rows) → r ≡ rows_by l → end ≡ bound_by r.order index r.first r.width (i + 1)
        → NextRow i end (judged_by r s start end (i + 1))
    next_by r of a = next_row (judged_by r s start end (i + 1)) (a ∙ rw of (bound_by_lem index l (i + 1))) (rw of (judged_by_lem s l start end (i + 1)))

    -- it is fine too, or it is the lowest that is refused
    module _ (q : Refusal) (w : NextRow i end q) where
      pub fine_next : q.number ≡ 0 → FineTo (i + 1) end
      fine_next z = record { ends = w.ends; fine = on_next (row_judged s index l) i q from.fine w.judged z }

      pub lowest_refused : (n : ℕ) → i < n → (q.number ≡ 0 → ⊥) → q ≡ lowest_of (row_judged s index l) n
      lowest_refused n a z = found (row_judged s index l) n i q a from.fine w.judged z

  -- all are fine
  pub none_refused : (n i start : ℕ) → FineTo i start → n ≤ i → i ≤ n → fine ≡ lowest_of (row_judged s index l) n
  none_refused n i start w a b = all_fine (row_judged s index l) n i a b w.fine

-- ---- one row, as it is asked for

-- a row between two bounds by plain numbers is the row of the table
module _ (file index : List ℕ) (t : Table) (i : ℕ) (r : Rows) (of : r ≡ rows_by t.layout) (here : no_such_row t i ≡ false) (start end : ℕ)
    (a : start ≡ bound_by r.order index r.first r.width (min (i - 1) most_rows))
    (b : end ≡ bound_by r.order index r.first r.width (min i most_rows)) where
  row_start : start ≡ bound_of t.layout index (pred i)
  row_start =
      let h = such (rows_of t) i here in
      let q : min (i - 1) most_rows ≡ pred i = omega (arith, h.1) in
      a ∙ rw (of, q) (bound_by_lem index t.layout (pred i))

  row_end : end ≡ bound_of t.layout index i
  row_end =
      let h = such (rows_of t) i here in
      let q : min i most_rows ≡ i = omega (arith, h.1) in
      b ∙ rw (of, q) (bound_by_lem index t.layout i)

  pub row_is : row_of file index t i ≡ unless_refused (judged_by r file start end i) start end
  unfolding row_of
  row_is = rw (here, of, judged_by_lem file t.layout start end i, row_start, row_end)

  pub row_refused : (q : Refusal) → answered (judged_by r file start end i) ≡ Err q → row_of file index t i ≡ Err q
  row_refused q e = row_is ∙ unless_err (judged_by r file start end i) q start end e

  module _ (e : answered (judged_by r file start end i) ≡ Ok tt) where
    pub row_passed : row_of file index t i ≡ between start end
    row_passed = row_is ∙ unless_ok (judged_by r file start end i) start end e

    pub row_fine : (row_refusal file t.layout start end i).number ≡ 0
    row_fine = rw (of, judged_by_lem file t.layout start end i) at (ok-fine (judged_by r file start end i) e)
