-- A ROW OF AN OPENED TABLE IS FINE EXACTLY WHEN its fields, read in column order, use exactly its bytes and its id is its number; and in
-- a table of one width the places by offset are those of the walk.
use mathlib.Core.Path.{◌≡◌, refl, sym, ap, ◌∙◌}
use mathlib.Core.Logic.{◌↔◌, inl, inr}
use mathlib.Core.Bool.{false, not}
use mathlib.Core.List.{List}
use Prim.Native.Nat.{ℕ, zero, suc, pred, min, ◌+◌, ◌≤◌}
use native.Mathlib.Omega.{arith}
use borrow.Author.Tests.{eq-eqb, ne_eqb, eqb-true, eqb-false, le-ltb}
use lib.Dec.{eqb}
use lib.ListN.{length}
use Rattle.laws.specs.Lowest.{In}
use Rattle.laws.specs.Sums.{sum}
use Rattle.laws.proofs.LowestLaws.{bool_cases}
use Rattle.laws.proofs.SumLaws.{sum_first}
use Rattle.laws.proofs.TestLaws.{clash, not_unequal}
use Rattle.refusal.specs.declared.Refusal.{Refusal}
use Rattle.refusal.specs.Order.{fine}
use Rattle.refusal.proofs.OrderLaws.{first_passes, refused_if_passes}
use Rattle.number.specs.Bytes.{number}
use Rattle.grammar.specs.Words.{Reading}
use Rattle.field.specs.Fields.{letter_of}
use Rattle.field.specs.declared.FieldType.TheVariants as type
use Rattle.field.proofs.TableRule.{letter_of_type}
use Rattle.header.specs.declared.Layout.{Layout}
use Rattle.header.specs.Layouts.{fixed_bytes, layout_of}
use Rattle.header.specs.Words as read
use Rattle.header.specs.LayoutWords.{layout_at, LaidOut}
use Rattle.header.proofs.LayoutMeans.{laid_out_lem}
use Rattle.opening.specs.declared.Table.{Table}
use Rattle.std.specs.Prelude.{Ok, Err}
use Rattle.table.specs.declared.Unreached.TheVariants.{Short, BadTriplet}
use Rattle.limits.specs.Limits.{most_rows}
use Rattle.opening.specs.Opening.{needs_index}
use Rattle.table.specs.Rows.{Reach, between, columns_of, no_such, no_such_row, outside, reach, place_of, place_of_column}
use Rattle.table.specs.Rows.{id_at, id_refusal, used_up, offset_place, column_place, fields_refusal, row_refusal, row_of}
use Rattle.opening.specs.Words.{Opens}
use Rattle.table.specs.Words.{RowRight}
use Rattle.table.specs.Serving.OpenedRows.{opened_row}
use Rattle.opening.proofs.RowWidth.{OneWidth, one_width_exactly, in_reading}
use Rattle.table.proofs.RowsPartition.{row_inside, row_width}
use Rattle.table.proofs.FieldExactly.{next_field, walk_fields, fields_end, place_found}

-- one of 1..n is there, and a row that ends inside the file and not before it starts is not outside
pub there : (n k : ℕ) → In n k → no_such n k ≡ false
there n k i = rw (ne_eqb k 0 (λ z. omega (arith, i.0)), le-ltb n k i.1)

pub not-outside : (s : List ℕ) (start end : ℕ) → start ≤ end → end ≤ length s → outside s start end ≡ false
not-outside s start end a b = rw (le-ltb (length s) end b, le-ltb end start a)

-- nothing is refused where the walk comes to the end and the rest is fine
used_up_exactly : (x : Reach) (end i : ℕ) (rest : Refusal) → ((used_up x end i rest).number ≡ 0) ↔ ((x ≡ Ok end) × (rest.number ≡ 0))
used_up_exactly (Ok p) end i rest =
    bool_cases (eqb p end)
    (λ t. let q = eqb-true p end t in rw t (λ e. (ap Ok q, e), λ w. w.1))
    (λ t. rw t (λ e. absurd (omega (arith, e)), λ w. let q : p ≡ end = cc w.0 in absurd (eqb-false p end t q)))
used_up_exactly (Err Short) end i rest = (λ e. absurd (omega (arith, e)), λ w. clash (cc w.0))
used_up_exactly (Err (BadTriplet q)) end i rest = (λ e. absurd (omega (arith, e)), λ w. clash (cc w.0))

id_exactly : (s : List ℕ) (l : Layout) (p i : ℕ) → ((id_refusal s l p i).number ≡ 0) ↔ (number l.order s p 4 ≡ i)
id_exactly s l p i =
    let w = not_unequal (id_at s l p) i in (
      λ e. w.0 (refused_if_passes (not (eqb (id_at s l p) i)) 9 i (λ z. omega arith) e),
      λ e. rw (w.1 e),
    )

module _ (file index : List ℕ) (most : ℕ) (h : Reading) (n : ℕ) (o : Opens file index most h n) where
  abbrev l : Layout
  l = layout_of file

  abbrev sizes : ℕ → ℕ
  sizes k = fixed_bytes (layout_at l k)

  pub means : LaidOut file h l
  means = laid_out_lem file h o.header

  pub columns_all : columns_of l ≡ l.columns
  columns_all = omega (arith, means.columns_limit)

  -- where no column varies, none has `*` or type K
  fixed_column : OneWidth file → (k : ℕ) → In l.columns k → ((layout_at l k).kind ≡ type.Triplet → ⊥) × ((layout_at l k).star ≡ false)
  fixed_column w k i =
      let c = means.each k i in
      let f = (one_width_exactly file h o.header).0 w k (in_reading file h o.header k i) in (
        λ e. f (inr (sym (letter_of_type (read.column_at h k).type (layout_at l k).kind c.kind) ∙ ap letter_of e)),
        bool_cases (layout_at l k).star (λ b. absurd (f (inl (c.star.0 b)))) (λ b. b),
      )

  width_sum : OneWidth file → l.width ≡ sum sizes l.columns
  width_sum w = means.width (λ k i. (one_width_exactly file h o.header).0 w k (in_reading file h o.header k i))

  module _ (i : ℕ) (r : In n i) where
    open opened_row file index n i use {start, end}

    pub forward : start ≤ end
    forward = (row_inside file index most h n o i r).1

    pub inside-file : end ≤ length file
    inside-file = (row_inside file index most h n o i r).2

    -- a table of one width: the fields, one after the other by their sizes, end with the row
    sizes_fit : OneWidth file → (k : ℕ) → k ≤ l.columns → start + sum sizes k ≤ end
    sizes_fit w k a = omega (arith, row_width file index most h n o w i r, width_sum w, sum_first sizes l.columns k a)

    -- ---- the bytes s of the row: the file's, or any others that reach as far
    module _ (s : List ℕ) (inside : end ≤ length s) where
      reach_fixed : OneWidth file → (k : ℕ) → k ≤ l.columns → reach s l start end k ≡ Ok (start + sum sizes k)
      reach_fixed w zero a = ap Ok (omega arith)
      reach_fixed w (suc k) a =
          let f = fixed_column w (suc k) (omega arith, a) in
          (next_field s l start end forward inside k (start + sum sizes k) (start + sum sizes (suc k)) (reach_fixed w k (omega arith))).1
          (inr (inr (record { kind = f.0; no_star = f.1; ends = omega arith; inside = sizes_fit w (suc k) a })))

      -- BY THE OPENING the walk comes to the end of such a row
      pub fixed_reach : OneWidth file → reach s l start end l.columns ≡ Ok end
      fixed_reach w =
          reach_fixed w l.columns (omega arith) ∙ ap Ok (omega (arith, row_width file index most h n o w i r, width_sum w))

      -- THE PLACE BY OFFSET IS THAT OF THE WALK
      fixed_place : OneWidth file → (k : ℕ) → In l.columns k → offset_place l start end k ≡ place_of_column s l start end k
      fixed_place w k c =
          let e = ap place_of (reach_fixed w (pred k) (omega (arith, c.1))) in
          omega (arith, e, means.offset k c, sizes_fit w (pred k) (omega (arith, c.1)))

      pub place-by_walk : (k : ℕ) → In l.columns k → column_place s l start end k ≡ place_of_column s l start end k
      unfolding column_place
      place-by_walk k c =
          bool_cases (needs_index l) (λ t. rw t) (λ t. let z = eqb-false l.width 0 t in rw t (fixed_place (omega arith) k c))

      -- THE JUDGEMENT OF A ROW is that of its walk, whatever the width
      abbrev by_walk : Refusal
      by_walk = used_up (reach s l start end l.columns) end i (id_refusal s l (place_of_column s l start end l.id) i)

      fields_by_walk : fields_refusal s l start end i ≡ by_walk
      unfolding fields_refusal
      fields_by_walk =
          bool_cases (needs_index l)
          (λ t. rw (t, columns_all, place-by_walk l.id means.id_within))
          (λ t.
          let z = eqb-false l.width 0 t in
          rw (t, place-by_walk l.id means.id_within, fixed_reach (omega arith), eq-eqb end end refl))

      pub row_by_walk : row_refusal s l start end i ≡ by_walk
      unfolding row_refusal
      row_by_walk =
          rw (not-outside s start end forward inside, columns_all, there l.columns l.id means.id_within)
          (first_passes fine (fields_refusal s l start end i) refl ∙ fields_by_walk)

      -- A ROW IS FINE EXACTLY WHEN it is right in words
      pub row_exactly : ((row_refusal s l start end i).number ≡ 0) ↔ RowRight s l start end i
      row_exactly =
          let w = used_up_exactly (reach s l start end l.columns) end i (id_refusal s l (place_of_column s l start end l.id) i) in
          let d = id_exactly s l (place_of_column s l start end l.id) i in (
            λ e.
                let q = w.0 (ap (λ (x : Refusal). x.number) (sym row_by_walk) ∙ e) in
                record {
                  place = place_of_column s l start end;
                  fields = walk_fields s l start end forward inside q.0;
                  id = d.0 q.1;
                },
            λ x.
                let p = place_found s l start end forward inside x.place x.fields l.id
                (means.id_within.0, omega (arith, means.id_within.1)) in
                ap (λ (x : Refusal). x.number) row_by_walk
                ∙ w.1 (
                  fields_end s l start end forward inside x.place x.fields,
                  d.1 (ap (λ (k : ℕ). number l.order s k 4) p ∙ x.id),
                ),
          )

    -- THE ROW is handed out where it lies exactly when it is right
    abbrev opened : Table
    opened = record { layout = l; rows = n }

    pub row_there : no_such_row opened i ≡ false
    row_there = there (min n most_rows) i (r.0, omega (arith, r.1, o.row_limit))

    pub row_of_exactly : (row_of file index opened i ≡ between start end) ↔ RowRight file l start end i
    unfolding row_of
    row_of_exactly =
        rw row_there
        (bool_cases (eqb (row_refusal file l start end i).number 0)
        (λ t. rw t (λ e. (row_exactly file inside-file).0 (eqb-true (row_refusal file l start end i).number 0 t), λ x. refl))
        (λ t. rw t (λ e. clash (cc), λ x. absurd (eqb-false (row_refusal file l start end i).number 0 t ((row_exactly file inside-file).1 x)))))
