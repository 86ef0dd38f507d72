-- EACH VALUE IS A FUNCTION OF ITS ROW'S OWN BYTES: two files that have the same bytes there give the row the same judgement and the column
-- the same value, and a part that is shown lies inside the row.
--
-- The plan. In two files with the same bytes from start to end, every part inside is the same (`part_same`), and so is every number
-- (`number_same`). Hence a field ends at the same place (`field_same`), and by induction on the columns the walk comes to the same places
-- (`reach_same`), all inside since it does not go back (`reach-after`). So the row's judgement is the same: it is the walk's and that of
-- the id's four bytes (`row_same`). What a field shows is the same, and a part that it shows lies inside, by the cases of the type
-- (`shown_same`, `shown_inside`). Last the rows of an opened table: the value of a right row is the field where the walk finds it
-- (`value-shown`), which is the place that the words have, where the fields before it end (`column_placed`): `value-at-place`,
-- `value_of_own_bytes`.
use mathlib.Core.Path.{◌≡◌, refl, sym, ap, subst, ◌∙◌}
use mathlib.Core.Bool.{Bool, true, false, cond, not}
use mathlib.Core.List.{List}
use Prim.Native.Nat.{ℕ, zero, suc, pred, ◌+◌, ◌-◌, ◌*◌, ◌≤◌}
use native.Mathlib.Omega.{arith}
use lib.Dec.{eqb, ltb}
use lib.ListN.{length, take, drop}
use lib.Seq.{take-take, drop-drop}
use borrow.Author.Tests.{ltb-false}
use Rattle.laws.specs.Lowest.{In}
use Rattle.laws.proofs.LowestLaws.{bool_cases}
use Rattle.laws.proofs.TestLaws.{clash}
use Rattle.laws.proofs.PlaceLaws.{drop-take}
use Rattle.refusal.specs.Order.{refused_if}
use Rattle.number.specs.declared.Order.{Order}
use Rattle.number.specs.Bytes.{value, number}
use Rattle.number.proofs.NumberLaws.{number_inside}
use Rattle.grammar.specs.Words.{Reading}
use Rattle.field.specs.declared.FieldType.{FieldType}
use Rattle.field.specs.declared.FieldType.TheVariants as type
use Rattle.field.specs.Fields.{width_of, star_of}
use Rattle.field.specs.Nulls.{float_is_null, double_is_null}
use Rattle.triplet.specs.Triplet.{Reading as TripletRead, triplet_of}
use Rattle.header.specs.declared.ColumnLayout.{ColumnLayout}
use Rattle.header.specs.Layouts.{fixed_bytes}
use Rattle.header.specs.declared.Layout.{Layout}
use Rattle.header.specs.LayoutWords.{layout_at}
use Rattle.std.specs.Prelude.{Ok, Err}
use Rattle.table.specs.declared.Unreached.TheVariants.{Short, BadTriplet}
use Rattle.table.specs.declared.Value.{Value}
use Rattle.table.specs.declared.Value.TheVariants as val
use Rattle.table.specs.Rows.{Reach, column_at, star_end, triplet_end, field_end, onward, reach, place_of, place_of_column, id_refusal, used_up, column_place, row_refusal}
use Rattle.table.specs.Values.{part_at, short_of, integer_of, float_of, double_of, elements_start, elements_bytes, triplet_of_read, by_type, shown, value_of}
use Rattle.opening.specs.Words.{Opens}
use Rattle.table.specs.Words.{FieldEnds, Fields, RowRight, SameRow, PartInside}
use Rattle.table.proofs.WalkLaws.{came, passed, reach_within}
use Rattle.table.proofs.FieldExactly.{next_field, field_at, fields_end, place_found}
use Rattle.table.proofs.ColumnBytes.{OneElement, column_one_element, id_kind, ends_after, element_room, star_room, fixed_room}
use Rattle.table.specs.Serving.OpenedRows.{opened_row}
use Rattle.table.proofs.RowExactly.{there, means, columns_all, forward, inside-file, place-by_walk, row_by_walk, row_there, row_of_exactly}

-- the walk does not go back
pub reach-after : (s : List ℕ) (l : Layout) (start end : ℕ) → start ≤ end → end ≤ length s → (k p : ℕ) → reach s l start end k ≡ Ok p → start ≤ p
reach-after s l start end a b zero p e = let q : start ≡ p = cc in omega arith
reach-after s l start end a b (suc k) p e =
    let x = reach s l start end k in
    let q = came x _ p e in
    let f = (next_field s l start end a b k (place_of x) p q).0 e in
    omega (arith, reach-after s l start end a b k (place_of x) q, ends_after l.order s end (column_at l (suc k)) (place_of x) p f)

-- ---- two files with the same bytes from start to end
module _ (s t : List ℕ) (start end : ℕ) (e : SameRow s t start end) (a : start ≤ end) where
  own_part : (r : List ℕ) (at w : ℕ) → start ≤ at → at + w ≤ end
      → take w (drop (at - start) (take (end - start) (drop start r))) ≡ take w (drop at r)
  own_part r at w i j =
      let q : start + (at - start) ≡ at = omega arith in
      ap (take w) (drop-take (at - start) (end - start) (drop start r))
      ∙ take-take w (end - start - (at - start)) (drop (at - start) (drop start r)) (omega arith)
      ∙ ap (take w) (drop-drop (at - start) start r ∙ ap (λ (k : ℕ). drop k r) q)

  pub part_same : (at w : ℕ) → start ≤ at → at + w ≤ end → take w (drop at s) ≡ take w (drop at t)
  part_same at w i j = sym (own_part s at w i j) ∙ ap (λ (r : List ℕ). take w (drop (at - start) r)) e.same ∙ own_part t at w i j

  pub number_same : (o : Order) (at w : ℕ) → start ≤ at → at + w ≤ end → number o s at w ≡ number o t at w
  number_same o at w i j =
      number_inside o s at w (omega (arith, e.in_first)) ∙ ap (value o) (part_same at w i j)
      ∙ sym (number_inside o t at w (omega (arith, e.in_second)))

  field_same : (o : Order) (c : ColumnLayout) (at : ℕ) → start ≤ at → at ≤ end → field_end o s end c at ≡ field_end o t end c at
  unfolding field_end star_end triplet_end
  field_same o c at i j =
      let p = part_same at (end - at) i (omega arith) in
      bool_cases (ltb (end - at) 4)
      (λ b. rw (p, b))
      (λ b. rw (p, number_same o at 4 i (omega (arith, ltb-false (end - at) 4 b))))

  module _ (l : Layout) where
    onward_same : (k : ℕ) (x : Reach) → reach s l start end k ≡ x
        → onward x (λ p. field_end l.order s end (column_at l (suc k)) p) ≡ onward x (λ p. field_end l.order t end (column_at l (suc k)) p)
    onward_same k (Ok p) q =
        field_same l.order (column_at l (suc k)) p (reach-after s l start end a e.in_first k p q)
        (reach_within s l start end k p a e.in_first q)
    onward_same k (Err z) q = refl

    -- THE WALK IS THE SAME
    pub reach_same : (k : ℕ) → reach s l start end k ≡ reach t l start end k
    reach_same zero = refl
    reach_same (suc k) =
        onward_same k (reach s l start end k) refl
        ∙ ap (λ (x : Reach). onward x (λ p. field_end l.order t end (column_at l (suc k)) p)) (reach_same k)

    pub place_same : (k : ℕ) → place_of_column s l start end k ≡ place_of_column t l start end k
    place_same k = ap place_of (reach_same (pred k))

  -- ---- the value of a field
  module _ (o : Order) (c : ColumnLayout) (at p : ℕ) (i : start ≤ at) (j : at ≤ end) (f : FieldEnds o s end c at p) (one : OneElement c) where
    elements_same : (c.kind ≡ type.Triplet → ⊥) → elements_bytes o s c at ≡ elements_bytes o t c at
    elements_same kind =
        bool_cases c.star
        (λ b. ap (λ (n : ℕ). cond c.star (n * width_of c.kind) (fixed_bytes c))
        (number_same o at 4 i (omega (arith, star_room o s end c at p f b kind))))
        (λ b. rw b)

    one_number : (k : FieldType) → c.kind ≡ k → star_of k ≡ false → (k ≡ type.Triplet → ⊥)
        → number o s at (width_of k) ≡ number o t at (width_of k)
    one_number k q none kind = number_same o at (width_of k) i (element_room o s end c at p f one k q none kind)

    type_same : (k : FieldType) → c.kind ≡ k → by_type k o s c at end ≡ by_type k o t c at end
    type_same type.Text q = ap (λ (n : ℕ). Ok (val.Text (part_at (elements_start c at end) n))) (elements_same (λ z. clash (cc)))
    type_same type.Latin q = ap (λ (n : ℕ). Ok (val.Text (part_at (elements_start c at end) n))) (elements_same (λ z. clash (cc)))
    type_same type.Float q = ap (λ (n : ℕ). Ok (float_of n)) (one_number type.Float q refl (λ z. clash (cc)))
    type_same type.Double q = ap (λ (n : ℕ). Ok (double_of n)) (one_number type.Double q refl (λ z. clash (cc)))
    type_same type.Short q = ap (λ (n : ℕ). Ok (short_of n)) (one_number type.Short q refl (λ z. clash (cc)))
    type_same type.Integer q = ap (λ (n : ℕ). Ok (integer_of n)) (one_number type.Integer q refl (λ z. clash (cc)))
    type_same type.ShortPair q = ap (λ (n : ℕ). Ok (val.Coordinates (part_at (elements_start c at end) n))) (elements_same (λ z. clash (cc)))
    type_same type.ShortTriple q = ap (λ (n : ℕ). Ok (val.Coordinates (part_at (elements_start c at end) n))) (elements_same (λ z. clash (cc)))
    type_same type.DoublePair q = ap (λ (n : ℕ). Ok (val.Coordinates (part_at (elements_start c at end) n))) (elements_same (λ z. clash (cc)))
    type_same type.DoubleTriple q = ap (λ (n : ℕ). Ok (val.Coordinates (part_at (elements_start c at end) n))) (elements_same (λ z. clash (cc)))
    type_same type.Date q = refl
    type_same type.NullField q = refl
    type_same type.Triplet q = ap (λ (b : List ℕ). triplet_of_read (triplet_of o b)) (part_same at (end - at) i (omega arith))

    pub shown_same : shown o s c at end ≡ shown o t c at end
    unfolding shown
    shown_same = type_same c.kind refl

-- ---- the part that a value shows
module _ (start end : ℕ) where
  no_part : (b : Bool) (x y : Value) → PartInside start end (Ok x) → PartInside start end (Ok y) → PartInside start end (Ok (cond b x y))
  no_part true x y f g = f
  no_part false x y f g = g

  no_triplet_part : (x : TripletRead) → PartInside start end (triplet_of_read x)
  no_triplet_part (Ok t) = tt
  no_triplet_part (Err q) = tt

  module _ (o : Order) (s : List ℕ) (c : ColumnLayout) (at p : ℕ) (i : start ≤ at) (f : FieldEnds o s end c at p) (one : OneElement c) where
    elements_inside : (c.kind ≡ type.Triplet → ⊥) → (start ≤ elements_start c at end) × (elements_start c at end + elements_bytes o s c at ≤ end)
    elements_inside kind =
        bool_cases c.star
        (λ b. let x = star_room o s end c at p f b kind in rw b (omega arith, omega arith))
        (λ b. let x = fixed_room o s end c at p f b kind in rw b (i, x))

    type_inside : (k : FieldType) → c.kind ≡ k → PartInside start end (by_type k o s c at end)
    type_inside type.Text q = elements_inside (λ z. clash (cc))
    type_inside type.Latin q = elements_inside (λ z. clash (cc))
    type_inside type.Float q = let b = number o s at 4 in no_part (float_is_null b) (val.FloatNull b) (val.Float b) tt tt
    type_inside type.Double q = let b = number o s at 8 in no_part (double_is_null b) (val.DoubleNull b) (val.Double b) tt tt
    type_inside type.Short q = tt
    type_inside type.Integer q = tt
    type_inside type.ShortPair q = elements_inside (λ z. clash (cc))
    type_inside type.ShortTriple q = elements_inside (λ z. clash (cc))
    type_inside type.DoublePair q = elements_inside (λ z. clash (cc))
    type_inside type.DoubleTriple q = elements_inside (λ z. clash (cc))
    type_inside type.Date q = (i, element_room o s end c at p f one type.Date q refl (λ z. clash (cc)))
    type_inside type.NullField q = tt
    type_inside type.Triplet q = no_triplet_part (triplet_of o (take (end - at) (drop at s)))

    pub shown_inside : PartInside start end (shown o s c at end)
    unfolding shown
    shown_inside = type_inside c.kind refl

-- ---- the rows of an opened table
module _ (file index : List ℕ) (most : ℕ) (h : Reading) (n : ℕ) (o : Opens file index most h n) (i : ℕ) (r : In n i) where
  open opened_row file index n i use {layout as l, table as opened, start, end}

  abbrev id_in : In l.columns l.id
  id_in = (means file index most h n o).id_within

  module _ (t : List ℕ) (e : SameRow file t start end) where
    abbrev ahead : start ≤ end
    ahead = forward file index most h n o i r

    abbrev all : ℕ
    all = l.columns

    -- the id's four bytes lie in a row whose fields are all there
    id_same : (p : ℕ) → reach file l start end all ≡ Ok p
        → number l.order file (place_of_column file l start end l.id) 4 ≡ number l.order t (place_of_column t l start end l.id) 4
    id_same p q =
        let at = place_of_column file l start end l.id in
        let f = field_at file l start end ahead e.in_first all p q l.id id_in in
        let room = element_room l.order file end (layout_at l l.id) at (place_of_column file l start end (suc l.id)) f
        (column_one_element file h o.header l.id id_in) type.Integer (id_kind file h o.header) refl (λ z. clash (cc)) in
        let after = reach-after file l start end ahead e.in_first (pred l.id) at
        (passed file l start end all p q (pred l.id) (omega (arith, id_in.1))) in
        number_same file t start end e ahead l.order at 4 after room
        ∙ ap (λ (k : ℕ). number l.order t k 4) (place_same file t start end e ahead l l.id)

    judged_same : (x : Reach) → reach file l start end all ≡ x
        → used_up x end i (id_refusal file l (place_of_column file l start end l.id) i) ≡ used_up x end i
        (id_refusal t l (place_of_column t l start end l.id) i)
    judged_same (Ok p) q = ap (λ (v : ℕ). used_up (Ok p) end i (refused_if (not (eqb v i)) 9 i)) (id_same p q)
    judged_same (Err Short) q = refl
    judged_same (Err (BadTriplet p)) q = refl

    -- THE ROW'S JUDGEMENT is the same
    pub row_same : row_refusal file l start end i ≡ row_refusal t l start end i
    row_same =
        row_by_walk file index most h n o i r file e.in_first
        ∙ judged_same (reach file l start end all) refl
        ∙ ap (λ (x : Reach). used_up x end i (id_refusal t l (place_of_column t l start end l.id) i)) (reach_same file t start end e ahead l all)
        ∙ sym (row_by_walk file index most h n o i r t e.in_second)

  -- ---- a row that is right, and its column k
  module _ (right : RowRight file l start end i) (k : ℕ) (c : In l.columns k) where
    abbrev within : end ≤ length file
    within = inside-file file index most h n o i r

    abbrev onwards : start ≤ end
    onwards = forward file index most h n o i r

    abbrev at : ℕ
    at = place_of_column file l start end k

    came_through : reach file l start end l.columns ≡ Ok end
    came_through = fields_end file l start end onwards within right.place right.fields

    came_to : reach file l start end (pred k) ≡ Ok at
    came_to = passed file l start end l.columns end came_through (pred k) (omega (arith, c.1))

    after-start : start ≤ at
    after-start = reach-after file l start end onwards within (pred k) at came_to

    before_end : at ≤ end
    before_end = reach_within file l start end (pred k) at onwards within came_to

    pub field_there : FieldEnds l.order file end (layout_at l k) at (place_of_column file l start end (suc k))
    field_there = field_at file l start end onwards within l.columns end came_through k c

    -- the value is that of the field where the walk finds it
    pub value-shown : value_of file index opened i k ≡ shown l.order file (layout_at l k) at end
    unfolding value_of
    value-shown =
        rw (
          row_there file index most h n o i r,
          columns_all file index most h n o,
          there l.columns k c,
          (row_of_exactly file index most h n o i r).1 right,
        )
        (ap (λ (p : ℕ). shown l.order file (layout_at l k) p end) (place-by_walk file index most h n o i r file within k c))

    -- and so it is over any file with the same bytes there
    value-shown_of : (t : List ℕ) → SameRow file t start end → value_of file index opened i k ≡ shown l.order t (layout_at l k) at end
    value-shown_of t e =
        value-shown
        ∙ shown_same file t start end e onwards l.order (layout_at l k) at
        (place_of_column file l start end (suc k)) after-start before_end field_there
        (column_one_element file h o.header k c)

    -- THE VALUE IS A FUNCTION OF THE ROW'S OWN BYTES, by the place that the definition has
    pub value_of_row : (t : List ℕ) (e : SameRow file t start end)
        → value_of file index opened i k ≡ shown l.order t (column_at l k) (column_place t l start end k) end
    value_of_row t e =
        value-shown_of t e
        ∙ ap (λ (p : ℕ). shown l.order t (layout_at l k) p end)
        (place_same file t start end e onwards l k ∙ sym (place-by_walk file index most h n o i r t e.in_second k c))

    -- A PART THAT IS SHOWN LIES INSIDE THE ROW
    pub value_inside : PartInside start end (value_of file index opened i k)
    value_inside =
        subst (PartInside start end) (sym value-shown)
        (shown_inside start end l.order file (layout_at l k) at
        (place_of_column file l start end (suc k)) after-start field_there (column_one_element file h o.header k c))

  -- ---- THE VALUE IS THE FIELD OF ITS COLUMN, at the place where the fields before it end: whatever places the fields have in words
  module _ (place : ℕ → ℕ) (f : Fields file l start end place) (id : number l.order file (place l.id) 4 ≡ i)
      (k : ℕ) (c : In l.columns k) where
    abbrev row_right : RowRight file l start end i
    row_right = record { place = place; fields = f; id = id }

    placed : place_of_column file l start end k ≡ place k
    placed =
        place_found file l start end (forward file index most h n o i r)
        (inside-file file index most h n o i r) place f k (c.0, omega (arith, c.1))

    -- the place that the definition has is that place
    pub column_placed : column_place file l start end k ≡ place k
    column_placed = place-by_walk file index most h n o i r file (inside-file file index most h n o i r) k c ∙ placed

    pub value-at-place : value_of file index opened i k ≡ shown l.order file (layout_at l k) (place k) end
    value-at-place = value-shown row_right k c ∙ ap (λ (p : ℕ). shown l.order file (layout_at l k) p end) placed

    -- and it depends on its row's own bytes alone: another file with the same bytes there shows the same
    pub value_of_own_bytes : (t : List ℕ) → SameRow file t start end
        → value_of file index opened i k ≡ shown l.order t (layout_at l k) (place k) end
    value_of_own_bytes t e = value-shown_of row_right k c t e ∙ ap (λ (p : ℕ). shown l.order t (layout_at l k) p end) placed
