-- "13: no such row, ring or column" IN WORDS: a row is refused with 13 exactly when it is none of the table's, and a value exactly when its
-- row or else its column is none; and which other refusals a value has, exactly when. Over any table, opened or made by anybody. A value of
-- a right row of an opened table is not refused.
--
-- The plan. No branch of a row's judgement has 13 (`row-not_13`), so a row is refused with 13 only where it is none (`row_13_exactly`). Of
-- what a field shows only a triplet can be refused, by the cases of the type (`shown_refused`). So `value_refused_exactly` goes through the
-- definition's tests, no row, no column, and then the row: it is refused itself, or its field is a triplet that cannot be read, which crate
-- `triplet` says exactly (`by_row`). The other way, each of the four computes to its answer. The fourth is there for tables made by
-- anybody: in a right row of an opened table each field ends within its row, so its triplet is read (`right_value`, from `field_there` and
-- `value-shown` of ValueOfRow), and `opened_value_refused_exactly` has three.
use mathlib.Core.Path.{◌≡◌, refl, sym, ap, ◌∙◌}
use mathlib.Core.Logic.{◌↔◌, ◌⊎◌, inl, inr, ⊎_elim}
use mathlib.Core.Bool.{Bool, true, false, cond, not, true≢false}
use mathlib.Core.List.{List}
use Prim.Native.Nat.{ℕ, pred, ◌-◌}
use native.Mathlib.Omega.{arith}
use borrow.Author.Tests.{eqb-false}
use lib.Dec.{eqb}
use lib.ListN.{take, drop}
use Rattle.laws.specs.Lowest.{In}
use Rattle.laws.proofs.LowestLaws.{bool_cases}
use Rattle.laws.proofs.TestLaws.{clash}
use Rattle.refusal.specs.declared.Refusal.{Refusal}
use Rattle.refusal.specs.Order.{refusal, fine, refused_if, first}
use Rattle.number.specs.declared.Order.{Order}
use Rattle.grammar.specs.Words.{Reading}
use Rattle.field.specs.declared.FieldType.{FieldType}
use Rattle.field.specs.declared.FieldType.TheVariants as type
use Rattle.triplet.specs.Triplet.{Reading as TripletRead, triplet_of}
use Rattle.triplet.proofs.ReadExactly.{read_exactly, refused-exactly}
use Rattle.header.specs.declared.ColumnLayout.{ColumnLayout}
use Rattle.header.specs.declared.Layout.{Layout}
use Rattle.header.specs.LayoutWords.{layout_at}
use Rattle.opening.specs.declared.Table.{Table}
use Rattle.opening.specs.Opening.{needs_index}
use Rattle.header.specs.Layouts.{layout_of}
use Rattle.opening.specs.Words.{Opens}
use Rattle.std.specs.Prelude.{Ok, Err}
use Rattle.table.specs.declared.Unreached.TheVariants.{Short, BadTriplet}
use Rattle.table.specs.Rows.{Reach, Row, between, rows_of, columns_of, no_such, no_such_row, no_such_column, column_at, bound_of, outside, reach, column_place}
use Rattle.table.specs.Rows.{id_at, id_refusal, used_up, fields_refusal, place_refusal, row_refusal, unless_refused, row_of}
use Rattle.table.specs.Values.{ValueRead, triplet_of_read, by_type, shown, in_row, field_in, value_of}
use Rattle.table.specs.Words.{FieldEnds, RowRight, RowThere, ColumnThere, NoRow, NoColumn, RowBad, NoTriplet, ValueRefused}
use Rattle.table.proofs.RowLaws.{such}
use Rattle.table.proofs.RowExactly.{there, row_of_exactly}
use Rattle.table.proofs.RowRefusedExactly.{refusal_parts, parts_refusal}
use Rattle.table.proofs.ValueOfRow.{value-shown, field_there}

-- ---- none of 1..n
pub none_there : (n k : ℕ) → (no_such n k ≡ true) ↔ (In n k → ⊥)
none_there n k = (
  λ e h. true≢false (sym e ∙ there n k h),
  λ f. bool_cases (no_such n k) (λ e. e) (λ e. absurd (f (such n k e))),
)

-- ---- no row that is there is refused with 13
abbrev Not13 : Refusal → Type 0
Not13 q = q.number ≡ 13 → ⊥

fine-not_13 : Not13 fine
fine-not_13 e = omega (arith, e)

either_not_13 : (b : Bool) (q r : Refusal) → Not13 q → Not13 r → Not13 (cond b q r)
either_not_13 true q r u v = u
either_not_13 false q r u v = v

if_not_13 : (b : Bool) (n p : ℕ) → (n ≡ 13 → ⊥) → Not13 (refused_if b n p)
if_not_13 true n p u = u
if_not_13 false n p u = fine-not_13

used_up-not_13 : (x : Reach) (end i : ℕ) (rest : Refusal) → Not13 rest → Not13 (used_up x end i rest)
used_up-not_13 (Ok p) end i rest u = either_not_13 (eqb p end) rest (refusal 10 i) u (λ e. omega (arith, e))
used_up-not_13 (Err Short) end i rest u = λ e. omega (arith, e)
used_up-not_13 (Err (BadTriplet q)) end i rest u = λ e. omega (arith, e)

module _ (s : List ℕ) (l : Layout) (start end i : ℕ) where
  id_not_13 : (p : ℕ) → Not13 (id_refusal s l p i)
  id_not_13 p = if_not_13 (not (eqb (id_at s l p) i)) 9 i (λ e. omega (arith, e))

  fields_not_13 : Not13 (fields_refusal s l start end i)
  unfolding fields_refusal
  fields_not_13 =
      let p = column_place s l start end l.id in
      let x = reach s l start end (columns_of l) in
      either_not_13 (needs_index l) (used_up x end i (id_refusal s l p i)) (id_refusal s l p i)
      (used_up-not_13 x end i (id_refusal s l p i) (id_not_13 p)) (id_not_13 p)

  place_not_13 : Not13 (place_refusal s l start end i)
  place_not_13 =
      either_not_13 (outside s start end) (refusal 10 i) (refused_if (no_such_column l l.id) 9 i) (λ e. omega (arith, e))
      (if_not_13 (no_such_column l l.id) 9 i (λ e. omega (arith, e)))

  row-not_13 : Not13 (row_refusal s l start end i)
  unfolding row_refusal first
  row-not_13 =
      either_not_13 (eqb (place_refusal s l start end i).number 0) (fields_refusal s l start end i)
      (place_refusal s l start end i) fields_not_13 place_not_13

-- the refusal of a row that is there is its judgement
unless_refused_lem : (q r : Refusal) (start end : ℕ) → unless_refused q start end ≡ Err r → q ≡ r
unless_refused_lem q r start end e =
    bool_cases (eqb q.number 0)
    (λ t. let w = rw t at e in clash (cc))
    (λ t. let w : ◌≡◌ {A = Row} (Err q) (Err r) = rw t at e in (cc))

module _ (file index : List ℕ) (t : Table) (i : ℕ) where
  -- A ROW IS REFUSED WITH 13 EXACTLY WHEN it is none of 1..n, at the asked number
  pub row_13_exactly : (p : ℕ) → (row_of file index t i ≡ Err (refusal 13 p)) ↔ ((RowThere t i → ⊥) × (p ≡ i))
  unfolding row_of
  row_13_exactly p =
      let start = bound_of t.layout index (pred i) in
      let end = bound_of t.layout index i in
      let q = row_refusal file t.layout start end i in
      bool_cases (no_such_row t i)
      (λ a.
      rw a (
        λ e. let w : refusal 13 i ≡ refusal 13 p = cc in ((none_there (rows_of t) i).0 a, (refusal_parts 13 i 13 p w).1),
        λ w. ap (λ (p : ℕ). Err (refusal 13 p)) (sym w.1),
      ))
      (λ a.
      rw a (
        λ e. absurd (row-not_13 file t.layout start end i (ap (λ (r : Refusal). r.number) (unless_refused_lem q (refusal 13 p) start end e))),
        λ w. absurd (w.0 (such (rows_of t) i a)),
      ))

  -- a refusal has a number
  pub refused_numbered : (q : Refusal) → row_of file index t i ≡ Err q → q.number ≡ 0 → ⊥
  unfolding row_of
  refused_numbered q e =
      let x = row_refusal file t.layout (bound_of t.layout index (pred i)) (bound_of t.layout index i) i in
      bool_cases (no_such_row t i)
      (λ a. let u : ◌≡◌ {A = Row} (Err (refusal 13 i)) (Err q) = rw a at e in let v : refusal 13 i ≡ q = cc in λ z.
      omega (arith, ap (λ (r : Refusal). r.number) v))
      (λ a.
      bool_cases (eqb x.number 0)
      (λ b. let u = rw (a, b) at e in clash (cc))
      (λ b. let u : ◌≡◌ {A = Row} (Err x) (Err q) = rw (a, b) at e in let v : x ≡ q = cc in λ z.
      eqb-false x.number 0 b (ap (λ (r : Refusal). r.number) v ∙ z)))

  pub accepted_there : (start end : ℕ) → row_of file index t i ≡ between start end → RowThere t i
  unfolding row_of
  accepted_there start end e = bool_cases (no_such_row t i) (λ a. let u = rw a at e in clash (cc)) (λ a. such (rows_of t) i a)

  -- an accepted row lies between its bounds
  pub accepted_between : (start end : ℕ) → row_of file index t i ≡ between start end
      → row_of file index t i ≡ between (bound_of t.layout index (pred i)) (bound_of t.layout index i)
  unfolding row_of
  accepted_between start end e =
      bool_cases (no_such_row t i)
      (λ a. let u = rw a at e in clash (cc))
      (λ a.
      let q = row_refusal file t.layout (bound_of t.layout index (pred i)) (bound_of t.layout index i) i in
      bool_cases (eqb q.number 0) (λ b. rw (a, b)) (λ b. let u = rw (a, b) at e in clash (cc)))

-- ---- a field that is refused is no triplet
read_refused : (x : TripletRead) (q : Refusal) → triplet_of_read x ≡ Err q → x ≡ Err q
read_refused (Ok t) q e = clash (cc)
read_refused (Err r) q e = cc

module _ (o : Order) (s : List ℕ) (c : ColumnLayout) (p end : ℕ) (q : Refusal) where
  abbrev Unread : FieldType → Type 0
  Unread x = (x ≡ type.Triplet) × (triplet_of o (take (end - p) (drop p s)) ≡ Err q)

  type_refused : (x : FieldType) → by_type x o s c p end ≡ Err q → Unread x
  type_refused type.Text e = clash (cc)
  type_refused type.Latin e = clash (cc)
  type_refused type.Float e = clash (cc)
  type_refused type.Double e = clash (cc)
  type_refused type.Short e = clash (cc)
  type_refused type.Integer e = clash (cc)
  type_refused type.ShortPair e = clash (cc)
  type_refused type.ShortTriple e = clash (cc)
  type_refused type.DoublePair e = clash (cc)
  type_refused type.DoubleTriple e = clash (cc)
  type_refused type.Date e = clash (cc)
  type_refused type.NullField e = clash (cc)
  type_refused type.Triplet e = (refl, read_refused (triplet_of o (take (end - p) (drop p s))) q e)

  pub shown_refused : (shown o s c p end ≡ Err q) ↔ Unread c.kind
  unfolding shown
  shown_refused = (
    type_refused c.kind,
    λ w. ap (λ (x : FieldType). by_type x o s c p end) w.0 ∙ ap triplet_of_read w.1,
  )

-- ---- the values
module _ (file index : List ℕ) (t : Table) (i k : ℕ) where
  abbrev l : Layout
  l = t.layout

  abbrev column : ColumnLayout
  column = column_at l k

  -- a row and a column that are there: what the row gives
  pub value_in_row : RowThere t i → ColumnThere t k → value_of file index t i k ≡ in_row (row_of file index t i) (field_in file l k)
  unfolding value_of
  value_in_row a b = rw (there (rows_of t) i a, there (columns_of l) k b)

  module _ (n p : ℕ) where
    abbrev q : Refusal
    q = refusal n p

    refused_parts : (a b : ℕ) → ◌≡◌ {A = ValueRead} (Err (refusal a b)) (Err q) → (n ≡ a) × (p ≡ b)
    refused_parts a b e = let w : refusal a b ≡ q = cc in refusal_parts a b n p w

    no_row : (RowThere t i → ⊥) → value_of file index t i k ≡ Err (refusal 13 i)
    unfolding value_of
    no_row f = rw ((none_there (rows_of t) i).1 f)

    no_column : RowThere t i → (ColumnThere t k → ⊥) → value_of file index t i k ≡ Err (refusal 13 k)
    unfolding value_of
    no_column a f = rw (there (rows_of t) i a, (none_there (columns_of l) k).1 f)

    same_refusal : (a b : ℕ) → n ≡ a → p ≡ b → ◌≡◌ {A = ValueRead} (Err (refusal a b)) (Err q)
    same_refusal a b u v = ap Err (parts_refusal a b n p u v)

    by_row : (x : Row) → row_of file index t i ≡ x → RowThere t i → ColumnThere t k → in_row x (field_in file l k) ≡ Err q
        → RowBad file index t i k n p ⊎ NoTriplet file index t i k n p
    by_row (Err r) u a b e = let w : r ≡ q = cc in inl (a, b, u ∙ ap Err w)
    by_row (Ok lies) u a b e =
        let start = lies.start in
        let end = lies.end in
        let at = column_place file l start end k in
        let w = (shown_refused l.order file column at end q).0 e in
        let z = (refused-exactly l.order (take (end - at) (drop at file)) q).0 w.1 in
        inr (record {
          column = b;
          start = start;
          end = end;
          accepted = u;
          kind = w.0;
          number_11 = ap
              (λ (r : Refusal). r.number) z.0;
          bad = z.1;
        })

    -- A VALUE IS REFUSED WITH n AT p EXACTLY WHEN it is in words
    pub value_refused_exactly : (value_of file index t i k ≡ Err q) ↔ ValueRefused file index t i k n p
    value_refused_exactly = (
      λ e.
          bool_cases (no_such_row t i)
          (λ a.
          let f = (none_there (rows_of t) i).0 a in
          let w = refused_parts 13 i (sym (no_row f) ∙ e) in
          inl (f, w.0, w.1))
          (λ a.
          let x = such (rows_of t) i a in
          bool_cases (no_such_column l k)
          (λ b.
          let f = (none_there (columns_of l) k).0 b in
          let w = refused_parts 13 k (sym (no_column x f) ∙ e) in
          inr (inl (x, f, w.0, w.1)))
          (λ b.
          let y = such (columns_of l) k b in
          inr (inr (by_row (row_of file index t i) refl x y (sym (value_in_row x y) ∙ e))))),
      ⊎_elim
          (λ w. no_row w.0 ∙ same_refusal 13 i w.1 w.2)
          (⊎_elim
          (λ w. no_column w.0 w.1 ∙ same_refusal 13 k w.2 w.3)
          (⊎_elim
          (λ w. value_in_row w.0 w.1 ∙ ap (λ (x : Row). in_row x (field_in file l k)) w.2)
          (λ w.
          let at = column_place file l w.start w.end k in
          value_in_row (accepted_there file index t i w.start w.end w.accepted) w.column
          ∙ ap (λ (x : Row). in_row x (field_in file l k)) w.accepted
          ∙ (shown_refused l.order file column at w.end q).1
          (w.kind, (refused-exactly l.order (take (w.end - at) (drop at file)) q).1 ((λ j. refusal (w.number_11 j) p), w.bad))))),
    )

  -- A VALUE IS REFUSED WITH 13 EXACTLY WHEN there is no such row (its number), or else no such column (its number)
  pub value_13_exactly : (p : ℕ)
      → (value_of file index t i k ≡ Err (refusal 13 p)) ↔
      (((RowThere t i → ⊥) × (p ≡ i)) ⊎ (RowThere t i × (ColumnThere t k → ⊥) × (p ≡ k)))
  value_13_exactly p =
      let w = value_refused_exactly 13 p in (
        λ e.
            ⊎_elim (λ x. inl (x.0, x.2))
            (⊎_elim (λ x. inr (x.0, x.1, x.3))
            (⊎_elim (λ x. absurd (((row_13_exactly file index t i p).0 x.2).0 x.0)) (λ x. absurd (omega (arith, x.number_11)))))
            (w.0 e),
        λ x. w.1 (⊎_elim (λ y. inl (y.0, refl, y.1)) (λ y. inr (inl (y.0, y.1, refl, y.2))) x),
      )

-- ---- the rows of an opened table
module _ (file index : List ℕ) (most : ℕ) (h : Reading) (n : ℕ) (o : Opens file index most h n) (i k : ℕ) where
  abbrev layout : Layout
  layout = layout_of file

  abbrev opened : Table
  opened = record { layout = layout; rows = n }

  abbrev first_byte : ℕ
  first_byte = bound_of layout index (pred i)

  abbrev past_end : ℕ
  past_end = bound_of layout index i

  not_unread : (at p : ℕ) (q : Refusal) → FieldEnds layout.order file past_end (layout_at layout k) at p
      → shown layout.order file (layout_at layout k) at past_end ≡ Err q → ⊥
  not_unread at p q f e =
      let w = (shown_refused layout.order file (layout_at layout k) at past_end q).0 e in
      ⊎_elim
      (λ x.
      let y = (read_exactly layout.order (take (past_end - at) (drop at file)) x.ids x.bytes).1 x.begins in
      let z = w.1 in
      clash (cc))
      (⊎_elim (λ x. x.kind w.0) (λ x. x.kind w.0))
      f

  -- A VALUE OF A RIGHT ROW IS NOT REFUSED
  pub right_value : (r : In n i) → RowRight file layout first_byte past_end i → In layout.columns k → (q : Refusal)
      → value_of file index opened i k ≡ Err q → ⊥
  right_value r right c q e =
      not_unread _ _ q (field_there file index most h n o i r right k c) (sym (value-shown file index most h n o i r right k c) ∙ e)

  -- SO OF AN OPENED TABLE a value is refused where there is no such row, no such column, or the row is refused, and nowhere else
  pub opened_value_refused_exactly : (m p : ℕ)
      → (value_of file index opened i k ≡ Err (refusal m p)) ↔
      (NoRow opened i m p ⊎ (NoColumn opened i k m p ⊎ RowBad file index opened i k m p))
  opened_value_refused_exactly m p =
      let w = value_refused_exactly file index opened i k m p in (
        λ e. ⊎_elim inl (⊎_elim (λ x. inr (inl x)) (⊎_elim (λ x. inr (inr x)) (λ x. absurd (never x e)))) (w.0 e),
        ⊎_elim (λ x. w.1 (inl x)) (⊎_elim (λ x. w.1 (inr (inl x))) (λ x. w.1 (inr (inr (inl x))))),
      )
    where
      never : NoTriplet file index opened i k m p → value_of file index opened i k ≡ Err (refusal m p) → ⊥
      never x e =
          let a = accepted_there file index opened i x.start x.end x.accepted in
          let r : In n i = (a.0, omega (arith, a.1)) in
          let c : In layout.columns k = (x.column.0, omega (arith, x.column.1)) in
          let b = accepted_between file index opened i x.start x.end x.accepted in
          right_value r ((row_of_exactly file index most h n o i r).0 b) c (refusal m p) e
