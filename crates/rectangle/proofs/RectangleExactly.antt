-- WHAT THE RECTANGLE OF A COLUMN IN A ROW IS: one is answered exactly when the row is accepted, the column is there and of C, Z, B or
-- Y, there is a coordinate and every x and y is finite; then it is the rectangle of these coordinates and no other; and which
-- refusal is given instead, exactly when. Over any table, opened or made by anybody.
use mathlib.Core.Path.{◌≡◌, refl, sym, ap, subst, ◌∙◌}
use mathlib.Core.Logic.{◌↔◌, ◌⊎◌, inl, inr, ⊎_elim}
use mathlib.Core.Bool.{Bool, true, false, true≢false}
use mathlib.Core.List.{List}
use Prim.Native.Nat.{ℕ}
use native.Mathlib.Nat.{eq-zero-or-pos}
use lib.Ieee.{Format, binary32, binary64}
use Rattle.laws.specs.Lowest.{At}
use Rattle.laws.proofs.LowestLaws.{bool_cases}
use Rattle.refusal.specs.declared.Refusal.{Refusal}
use Rattle.refusal.specs.Order.{refusal}
use Rattle.number.specs.declared.Order.{Order}
use Rattle.field.specs.declared.FieldType.{FieldType}
use Rattle.bounds.specs.declared.Parts.{Parts}
use Rattle.bounds.specs.declared.Parts.TheVariants.{Two, Three}
use Rattle.bounds.specs.Bounds.{Rectangle, Bounds, Coordinates, coordinates, count, unfit, not_finite_or_none, bounds_of}
use Rattle.bounds.proofs.BoundsExactly as exactly
use Rattle.header.specs.declared.ColumnLayout.{ColumnLayout}
use Rattle.header.specs.declared.Layout.{Layout}
use Rattle.opening.specs.declared.Table.{Table}
use Rattle.std.specs.Prelude.{Ok, Err}
use Rattle.table.specs.Rows.{Row, between, rows_of, columns_of, no_such_row, no_such_column, column_at, row_of}
use Rattle.table.specs.Values.{ValueRead, in_row as row_value, field_in, part_of}
use Rattle.table.specs.Words.{RowThere, ColumnThere, NoRow}
use Rattle.table.proofs.RowExactly.{there}
use Rattle.table.proofs.RowLaws.{such}
use Rattle.table.proofs.ValueRefusedExactly.{none_there, accepted_there, value_in_row}
use Rattle.rectangle.specs.Rectangles.{Answer, short, double, refused_with, in_short, in_double, by_type, is_coordinates, in_row, coordinates_in, rectangle_of}
use Rattle.rectangle.specs.Words.{type_with, in_width, RowAccepted, line, Drawn, RectangleIs, NoColumn, RowBad, LineBad, RefusedWith}
use Rattle.rectangle.proofs.RectangleLaws.{coordinates_are, kind_cases}

-- ---- the types with coordinates
other_type : (x : FieldType) → is_coordinates x ≡ false → (f : Format) (p : Parts) → x ≡ type_with f p → ⊥
other_type x e f p u = true≢false (sym (coordinates_are f p) ∙ ap is_coordinates (sym u) ∙ e)

-- ---- the bounds in their width, and the ways to an answer
abbrev bounded : Format → Bounds → Answer
bounded binary32 b = in_short b
bounded binary64 b = in_double b

bounded-within : (f : Format) (r : Rectangle) → bounded f (Ok r) ≡ in_width f r
bounded-within binary32 r = refl
bounded-within binary64 r = refl

bounded-refused : (f : Format) (q : Refusal) → bounded f (Err q) ≡ refused_with q
bounded-refused binary32 q = refl
bounded-refused binary64 q = refl

by_width : (f : Format) (p : Parts) (o : Order) (s : List ℕ) (k : ℕ) → by_type (type_with f p) o s k ≡ bounded f (bounds_of (coordinates f p o s))
unfolding by_type
by_width binary32 Two o s k = refl
by_width binary32 Three o s k = refl
by_width binary64 Two o s k = refl
by_width binary64 Three o s k = refl

-- what refused bounds say
bounds-refused : (c : Coordinates) (q : Refusal) → bounds_of c ≡ Err q
    → (q.number ≡ not_finite_or_none) × (((count c ≡ 0) × (q.place ≡ 0)) ⊎ At (unfit c) (count c) q.place)
bounds-refused c q e =
    let n = exactly.refused-number c q e in
    let u : bounds_of c ≡ Err (refusal not_finite_or_none q.place) = e ∙ ap (λ (n : ℕ). Err (refusal n q.place)) n in (
      n,
      ⊎_elim
          (λ z. inl ((exactly.none_exactly c).0 (u ∙ ap (λ (p : ℕ). Err (refusal not_finite_or_none p)) z), z))
          (λ p. inr ((exactly.refused-exactly c q.place p).0 u))
          (eq-zero-or-pos q.place),
    )

module _ (file index : List ℕ) (t : Table) (i k : ℕ) where
  abbrev l : Layout
  l = t.layout

  abbrev answered : Answer
  answered = rectangle_of file index t i k

  abbrev column : ColumnLayout
  column = column_at l k

  -- an accepted row is there
  row_is_there : RowAccepted file index t i k → no_such_row t i ≡ false
  row_is_there w = there (rows_of t) i (accepted_there file index t i w.0 w.1 w.2)

  at_no_row : no_such_row t i ≡ true → answered ≡ refused_with (refusal 13 i)
  unfolding rectangle_of
  at_no_row e = rw e

  at_no_column : no_such_row t i ≡ false → no_such_column l k ≡ true → answered ≡ refused_with (refusal 13 k)
  unfolding rectangle_of
  at_no_column a b = rw (a, b)

  module _ (a : no_such_row t i ≡ false) (b : no_such_column l k ≡ false) where
    at_other : is_coordinates column.kind ≡ false → answered ≡ refused_with (refusal 13 k)
    unfolding rectangle_of
    at_other e = rw (a, b, e)

    module _ (f : Format) (p : Parts) (h : column.kind ≡ type_with f p) where
      abbrev found : ℕ → ℕ → Answer
      found start end = by_type column.kind l.order (coordinates_in file l k start end) k

      answered_at_row : answered ≡ in_row (row_of file index t i) found
      unfolding rectangle_of
      answered_at_row = let c : is_coordinates column.kind ≡ true = ap is_coordinates h ∙ coordinates_are f p in rw (a, b, c)

      at_bad : (q : Refusal) → row_of file index t i ≡ Err q → answered ≡ refused_with q
      at_bad q e = answered_at_row ∙ ap (λ (x : Row). in_row x found) e

      at_line : (start end : ℕ) → row_of file index t i ≡ between start end → answered ≡ bounded f (bounds_of (line file index t i k f p))
      at_line start end e =
          let v = value_in_row file index t i k (such (rows_of t) i a) (such (columns_of l) k b) in
          answered_at_row
          ∙ ap (λ (x : Row). in_row x found) e
          ∙ ap (λ (x : FieldType). by_type x l.order (coordinates_in file l k start end) k) h
          ∙ by_width f p l.order (coordinates_in file l k start end) k
          ∙ ap (λ (v : ValueRead). bounded f (bounds_of (coordinates f p l.order (part_of file v))))
          (sym (v ∙ ap (λ (x : Row). row_value x (field_in file l k)) e))

  -- what an answer means
  abbrev Means : Answer → Type 0
  Means (short r) = RectangleIs file index t i k binary32 r
  Means (double r) = RectangleIs file index t i k binary64 r
  Means (refused_with q) = RefusedWith file index t i k q.number q.place

  means_width : (f : Format) (r : Rectangle) → RectangleIs file index t i k f r → Means (in_width f r)
  means_width binary32 r w = w
  means_width binary64 r w = w

  width_means : (f : Format) (r : Rectangle) → Means (in_width f r) → RectangleIs file index t i k f r
  width_means binary32 r w = w
  width_means binary64 r w = w

  module _ (a : no_such_row t i ≡ false) (b : no_such_column l k ≡ false) where
    -- an accepted row and a column of coordinates: the bounds decide
    drawn_or_bad : (start end : ℕ) → row_of file index t i ≡ between start end → (f : Format) (p : Parts) → column.kind ≡ type_with f p
        → (x : Bounds) → bounds_of (line file index t i k f p) ≡ x → Means (bounded f x)
    drawn_or_bad start end e f p h (Ok r) u =
        let w = (exactly.rectangle_exactly (line file index t i k f p) r).0 u in
        subst Means (sym (bounded-within f r))
        (means_width f r (record {
          drawn = record { row = (start, end, e); column = such (columns_of l) k b; parts = p; kind = h; accepted = w.0 };
          rectangle = w.1;
        }))
    drawn_or_bad start end e f p h (Err q) u =
        let w = bounds-refused (line file index t i k f p) q u in
        subst Means (sym (bounded-refused f q))
        (inr (inr (inr (record {
          row = (start, end, e);
          column = such (columns_of l) k b;
          format = f;
          parts = p;
          kind = h;
          number_12 = w.0;
          place = w.1;
        }))))

    by_row : (f : Format) (p : Parts) → column.kind ≡ type_with f p → (x : Row) → row_of file index t i ≡ x → Means answered
    by_row f p h (Ok lies) e =
        let start = lies.start in
        let end = lies.end in
        subst Means (sym (at_line a b f p h start end e)) (drawn_or_bad start end e f p h (bounds_of (line file index t i k f p)) refl)
    by_row f p h (Err q) e =
        subst Means (sym (at_bad a b f p h q e))
        (inr (inr (inl (record { row = such (rows_of t) i a; column = such (columns_of l) k b; format = f; parts = p; kind = h; refused = e }))))

    by_kind : Means answered
    by_kind =
        ⊎_elim
        (λ w. by_row w.0 w.1 w.2 (row_of file index t i) refl)
        (λ e. subst Means (sym (at_other a b e)) (inr (inl (such (rows_of t) i a, inr (other_type column.kind e), refl, refl))))
        (kind_cases column.kind)

  meant : Means answered
  meant =
      bool_cases (no_such_row t i)
      (λ a. subst Means (sym (at_no_row a)) (inl ((none_there (rows_of t) i).0 a, refl, refl)))
      (λ a.
      bool_cases (no_such_column l k)
      (λ b. subst Means (sym (at_no_column a b)) (inr (inl (such (rows_of t) i a, inl ((none_there (columns_of l) k).0 b), refl, refl))))
      (λ b. by_kind a b))

  -- ---- the theorems

  -- r is answered, in this width, exactly when there is a rectangle and it is r
  pub rectangle_exactly : (f : Format) (r : Rectangle) → (answered ≡ in_width f r) ↔ RectangleIs file index t i k f r
  rectangle_exactly f r = (
    λ e. width_means f r (subst Means e meant),
    λ w.
        let d = w.drawn in
        at_line (row_is_there d.row) (there (columns_of l) k d.column) f d.parts d.kind d.row.0 d.row.1 d.row.2
        ∙ ap (bounded f) ((exactly.rectangle_exactly (line file index t i k f d.parts) r).1 (d.accepted, w.rectangle))
        ∙ bounded-within f r,
  )

  -- a rectangle is answered exactly when the row is accepted, the column is there and of C, Z, B or Y, and its coordinates are accepted
  pub answered-exactly : (f : Format) → ((r : Rectangle) × (answered ≡ in_width f r)) ↔ Drawn file index t i k f
  answered-exactly f = (
    λ w. ((rectangle_exactly f w.0).0 w.1).drawn,
    λ d.
        let w = (exactly.accepted_exactly (line file index t i k f d.parts)).1 d.accepted in
        let q = (exactly.rectangle_exactly (line file index t i k f d.parts) w.0).0 w.1 in
        (w.0, (rectangle_exactly f w.0).1 (record { drawn = d; rectangle = q.1 })),
  )

  refusal_of_lem : (n p n' p' : ℕ) → n ≡ n' → p ≡ p' → refused_with (refusal n' p') ≡ refused_with (refusal n p)
  refusal_of_lem n p n' p' u v = (λ j. refused_with (refusal (sym u j) (sym v j)))

  -- n at p is answered exactly when it is in words
  pub refused-exactly : (n p : ℕ) → (answered ≡ refused_with (refusal n p)) ↔ RefusedWith file index t i k n p
  refused-exactly n p = (
    λ e. subst Means e meant,
    ⊎_elim no_row (⊎_elim no_column (⊎_elim row_bad line_bad)),
  )
    where
      no_row : NoRow t i n p → answered ≡ refused_with (refusal n p)
      no_row w = at_no_row ((none_there (rows_of t) i).1 w.0) ∙ refusal_of_lem n p 13 i w.1 w.2

      other : (b : Bool) → no_such_column l k ≡ b → RowThere t i
          → ((ColumnThere t k → ⊥) ⊎ ((f : Format) (q : Parts) → column.kind ≡ type_with f q → ⊥))
          → answered ≡ refused_with (refusal 13 k)
      other true b r w = at_no_column (there (rows_of t) i r) b
      other false b r w =
          ⊎_elim
          (λ u. absurd (u (such (columns_of l) k b)))
          (λ u. at_other (there (rows_of t) i r) b (⊎_elim (λ x. absurd (u x.0 x.1 x.2)) (λ e. e) (kind_cases column.kind)))
          w

      no_column : NoColumn file index t i k n p → answered ≡ refused_with (refusal n p)
      no_column w = other (no_such_column l k) refl w.0 w.1 ∙ refusal_of_lem n p 13 k w.2 w.3

      row_bad : RowBad file index t i k n p → answered ≡ refused_with (refusal n p)
      row_bad w = at_bad (there (rows_of t) i w.row) (there (columns_of l) k w.column) w.format w.parts
          w.kind (refusal n p) w.refused

      line_bad : LineBad file index t i k n p → answered ≡ refused_with (refusal n p)
      line_bad w =
          let c = line file index t i k w.format w.parts in
          at_line (row_is_there w.row) (there (columns_of l) k w.column) w.format w.parts w.kind
          w.row.0 w.row.1 w.row.2
          ∙ ap (bounded w.format)
          (⊎_elim
          (λ z. (exactly.none_exactly c).1 z.0 ∙ ap (λ (p : ℕ). Err (refusal not_finite_or_none p)) (sym z.1))
          (λ h. (exactly.refused-exactly c p h.pos).1 h)
          w.place)
          ∙ bounded-refused w.format (refusal not_finite_or_none p)
          ∙ refusal_of_lem n p not_finite_or_none p w.number_12 refl
