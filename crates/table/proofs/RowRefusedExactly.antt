-- A ROW OF AN OPENED TABLE IS REFUSED WITH n AT p EXACTLY WHEN: the first column whose field is not there is not of type K (10 at the row),
-- or is and the triplet is bad at p (11); or all fields are there and do not use up the row (10); or they do and the id is wrong (9).
--
-- The plan. A field that is not there is a `BadTriplet` exactly where it is one (`cut_exactly`), and `Short` exactly where it is none and
-- has no end in the row (`short_exactly`). A walk that did not come through stopped at one column, before which all fields are there
-- (`stops_at`), and one that stops at a column stays so to the last (`stops_through`). A row is judged by how its walk ends (`judged`). So
-- what the judgement says is one of the four in words (`said`, by the cases of the walk's end), and each of the four leads the walk to its
-- end: `missing`, `bad`, `not_used_up`, `id_wrong`. Both ways together are `row_refused_exactly`.
use mathlib.Core.Path.{◌≡◌, refl, sym, ap, subst, ◌∙◌}
use mathlib.Core.Logic.{◌↔◌, inl, inr, ⊎_elim}
use mathlib.Core.List.{List}
use Prim.Native.Nat.{ℕ, zero, suc, pred, ◌+◌, ◌-◌, ◌*◌, ◌≤◌, ◌<◌}
use native.Mathlib.Omega.{arith}
use borrow.Author.Tests.{eqb-true, eqb-false, eq-eqb, ne_eqb}
use lib.Dec.{eqb, ltb, leb}
use lib.ListN.{length, take, drop}
use Rattle.laws.specs.Lowest.{In}
use Rattle.laws.proofs.LowestLaws.{bool_cases}
use Rattle.laws.proofs.TestLaws.{clash}
use Rattle.refusal.specs.declared.Refusal.{Refusal}
use Rattle.refusal.specs.Order.{refusal}
use Rattle.number.specs.declared.Order.{Order}
use Rattle.number.specs.Bytes.{number}
use Rattle.grammar.specs.Words.{Reading}
use Rattle.field.specs.declared.FieldType.TheVariants as type
use Rattle.field.specs.Fields.{width_of, is_triplet}
use Rattle.triplet.specs.Triplet.{Reading as TripletRead, bad_triplet, triplet_of}
use Rattle.triplet.specs.Words.{BadAt}
use Rattle.triplet.proofs.ReadExactly.{refused-exactly}
use Rattle.header.specs.declared.ColumnLayout.{ColumnLayout}
use Rattle.header.specs.Layouts.{fixed_bytes}
use Rattle.header.specs.declared.Layout.{Layout}
use Rattle.std.specs.Prelude.{Ok, Err}
use Rattle.table.specs.declared.Unreached.TheVariants.{Short, BadTriplet}
use Rattle.table.specs.Rows.{Reach, column_at, plain_end, star_end, past_triplet, triplet_end, field_end, onward, reach, place_of}
use Rattle.table.specs.Rows.{place_of_column, id_at, id_refusal, used_up, row_refusal, row_of}
use Rattle.opening.specs.Words.{Opens}
use Rattle.table.specs.Words.{FieldEnds, Begun, LedTo, FieldMissing, TripletBad, NotUsedUp, IdWrong, RowRefused}
use Rattle.table.specs.Serving.OpenedRows.{opened_row}
use Rattle.table.proofs.WalkLaws.{stays, reach_within}
use Rattle.table.proofs.FieldExactly.{triplet_kind, field_exactly, walk_begun, begun_walk, walk_fields, fields_end, place_found}
use Rattle.table.proofs.RowExactly.{means, forward, inside-file, row_by_walk, row_there}

-- ---- a field that is not there
plain_not_cut : (at end need q : ℕ) → plain_end at end need ≡ Err (BadTriplet q) → ⊥
unfolding plain_end
plain_not_cut at end need q e = bool_cases (leb need (end - at)) (λ t. let w = rw t at e in clash (cc)) (λ t. let w = rw t at e in clash (cc))

star_not_cut : (o : Order) (s : List ℕ) (at end w q : ℕ) → star_end o s at end w ≡ Err (BadTriplet q) → ⊥
unfolding star_end
star_not_cut o s at end w q e =
    bool_cases (ltb (end - at) 4) (λ t. let w = rw t at e in clash (cc)) (λ t. plain_not_cut (at + 4) end (number o s at 4 * w) q (rw t at e))

past_cut : (o : Order) (b : List ℕ) (at q : ℕ) (x : TripletRead) → triplet_of o b ≡ x → past_triplet at x ≡ Err (BadTriplet q) → BadAt o b q
past_cut o b at q (Ok t) u e = clash (cc)
past_cut o b at q (Err r) u e = let z : r.place ≡ q = cc in subst (BadAt o b) z ((refused-exactly o b r).0 u).1

past_not_short : (at : ℕ) (x : TripletRead) → past_triplet at x ≡ Err Short → ⊥
past_not_short at (Ok t) e = clash (cc)
past_not_short at (Err r) e = clash (cc)

module _ (o : Order) (s : List ℕ) (end : ℕ) (c : ColumnLayout) (at : ℕ) where
  cut_exactly : (q : ℕ) → (field_end o s end c at ≡ Err (BadTriplet q)) ↔ ((c.kind ≡ type.Triplet) × BadAt o (take (end - at) (drop at s)) q)
  unfolding field_end triplet_end
  cut_exactly q =
      let b = take (end - at) (drop at s) in (
        λ e.
            bool_cases (is_triplet c.kind)
            (λ t. ((triplet_kind c.kind).0 t, past_cut o b at q (triplet_of o b) refl (rw t at e)))
            (λ t.
            bool_cases c.star
            (λ d. absurd (star_not_cut o s at end (width_of c.kind) q (rw (t, d) at e)))
            (λ d. absurd (plain_not_cut at end (fixed_bytes c) q (rw (t, d) at e)))),
        λ w. rw ((triplet_kind c.kind).1 w.0, (refused-exactly o b (refusal bad_triplet q)).1 (refl, w.1)),
      )

  short_kind : field_end o s end c at ≡ Err Short → c.kind ≡ type.Triplet → ⊥
  unfolding field_end triplet_end
  short_kind e k = past_not_short at (triplet_of o (take (end - at) (drop at s))) (rw ((triplet_kind c.kind).1 k) at e)

  short_exactly : at ≤ end → (field_end o s end c at ≡ Err Short) ↔ ((c.kind ≡ type.Triplet → ⊥) × ((p : ℕ) → FieldEnds o s end c at p → ⊥))
  short_exactly h = (
    λ e. (short_kind e, λ p f. let w = (field_exactly o s end c at p h).1 f in clash (cc)),
    λ w. go (field_end o s end c at) refl w,
  )
    where
      go : (x : Reach) → field_end o s end c at ≡ x
          → (c.kind ≡ type.Triplet → ⊥) × ((p : ℕ) → FieldEnds o s end c at p → ⊥) → field_end o s end c at ≡ Err Short
      go (Ok p) e w = absurd (w.1 p ((field_exactly o s end c at p h).0 e))
      go (Err Short) e w = e
      go (Err (BadTriplet q)) e w = absurd (w.0 ((cut_exactly q).0 e).0)

-- ---- a walk that stops
module _ (s : List ℕ) (l : Layout) (start end : ℕ) where
  reach-at : (k p : ℕ) → 0 < k → reach s l start end (pred k) ≡ Ok p → reach s l start end k ≡ field_end l.order s end (column_at l k) p
  reach-at zero p i e = absurd (omega arith)
  reach-at (suc k) p i e = rw e

  -- the column at which it stopped
  pub record StopsAt (n : ℕ) (x : Reach) : Type 0 where
    pub column : ℕ
    pub within : In n column
    pub before : reach s l start end (pred column) ≡ Ok (place_of_column s l start end column)
    pub stops : field_end l.order s end (column_at l column) (place_of_column s l start end column) ≡ x

  later : (n : ℕ) (x : Reach) → StopsAt n x → StopsAt (suc n) x
  later n x w = record { column = w.column; within = (w.within.0, omega (arith, w.within.1)); before = w.before; stops = w.stops }

  stops_at : (n : ℕ) (x : Reach) → ((p : ℕ) → x ≡ Ok p → ⊥) → reach s l start end n ≡ x → StopsAt n x
  stops_at zero x f e = absurd (f start (sym e))
  stops_at (suc n) x f e = go (reach s l start end n) refl e (λ u. later n x (stops_at n x f u))
    where
      go : (y : Reach) → reach s l start end n ≡ y → onward y (λ p. field_end l.order s end (column_at l (suc n)) p) ≡ x
          → (reach s l start end n ≡ x → StopsAt (suc n) x) → StopsAt (suc n) x
      go (Ok q) u v next =
          let z : reach s l start end n ≡ Ok (place_of (reach s l start end n)) = u ∙ ap (λ (y : Reach). Ok (place_of y)) (sym u) in
          record {
            column = suc n;
            within = (omega arith, omega arith);
            before = z;
            stops = sym (reach-at (suc n) (place_of (reach s l start end n)) (omega arith) z) ∙ e;
          }
      go (Err z) u v next = next (u ∙ v)

  -- from the place of a column whose field is not there
  stops_through : (x : Reach) → ((f : ℕ → Reach) → onward x f ≡ x) → (k n p : ℕ) → In n k → reach s l start end (pred k) ≡ Ok p
      → field_end l.order s end (column_at l k) p ≡ x → reach s l start end n ≡ x
  stops_through x h k n p i e f = stays s l start end x h k (reach-at k p i.0 e ∙ f) n i.1

-- ---- the parts of a refusal
pub refusal_parts : (a b n p : ℕ) → refusal a b ≡ refusal n p → (n ≡ a) × (p ≡ b)
refusal_parts a b n p e = (ap (λ (r : Refusal). r.number) (sym e), ap (λ (r : Refusal). r.place) (sym e))

pub parts_refusal : (a b n p : ℕ) → n ≡ a → p ≡ b → refusal a b ≡ refusal n p
parts_refusal a b n p u v = (λ i. refusal (sym u i) (sym v i))

-- ---- the rows of an opened table
module _ (file index : List ℕ) (most : ℕ) (h : Reading) (rows : ℕ) (o : Opens file index most h rows) (i : ℕ) (r : In rows i) where
  open opened_row file index rows i use {layout as l, table as opened, start, end}

  abbrev ahead : start ≤ end
  ahead = forward file index most h rows o i r

  abbrev inside : end ≤ length file
  inside = inside-file file index most h rows o i r

  abbrev place : ℕ → ℕ
  place = place_of_column file l start end

  abbrev id_judged : Refusal
  id_judged = id_refusal file l (place l.id) i

  -- the walk came to a column
  came_within : (k p : ℕ) → reach file l start end k ≡ Ok p → p ≤ end
  came_within k p e = reach_within file l start end k p ahead inside e

  -- the column at which it stopped
  abbrev led_to : (x : Reach) → StopsAt file l start end l.columns x → LedTo file l start end
  led_to x k =
      record {
        place = place;
        column = k.column;
        within = k.within;
        begun = walk_begun file l start end ahead inside (pred k.column) (place k.column) k.before;
      }

  module _ (n p : ℕ) where
    id_said : id_judged ≡ refusal n p → (n ≡ 0 → ⊥) → (n ≡ 9) × (p ≡ i) × (number l.order file (place l.id) 4 ≡ i → ⊥)
    id_said e z =
        bool_cases (eqb (id_at file l (place l.id)) i)
        (λ t. absurd (z (refusal_parts 0 0 n p (rw t at e)).0))
        (λ t. let w = refusal_parts 9 i n p (rw t at e) in (w.0, w.1, eqb-false (id_at file l (place l.id)) i t))

    said : (x : Reach) → reach file l start end l.columns ≡ x → used_up x end i id_judged ≡ refusal n p → (n ≡ 0 → ⊥)
        → RowRefused file l start end i n p
    said (Ok q) u e z =
        bool_cases (eqb q end)
        (λ t.
        let w = id_said (rw t at e) z in
        let came : reach file l start end l.columns ≡ Ok end = u ∙ ap Ok (eqb-true q end t) in
        inr (inr (inr (record { number_9 = w.0; at_row = w.1; place = place; fields = walk_fields file l start end ahead inside came; wrong = w.2 }))))
        (λ t.
        let w = refusal_parts 10 i n p (rw t at e) in
        inr (inr (inl (record {
          number_10 = w.0;
          at_row = w.1;
          place = place;
          begun = walk_begun file l start end ahead inside l.columns q u;
          left = λ v. eqb-false q end t (ap place_of (sym u) ∙ v);
        }))))
    said (Err Short) u e z =
        let w = refusal_parts 10 i n p e in
        let k = stops_at file l start end l.columns (Err Short) (λ p v. clash (cc)) u in
        let f = (short_exactly l.order file end (column_at l k.column) (place k.column)
        (came_within (pred k.column) (place k.column) k.before)).0 k.stops in
        inl (record { number_10 = w.0; at_row = w.1; at = led_to (Err Short) k; kind = f.0; no_end = f.1 })
    said (Err (BadTriplet q)) u e z =
        let w = refusal_parts 11 q n p e in
        let k = stops_at file l start end l.columns (Err (BadTriplet q)) (λ p v. clash (cc)) u in
        let f = (cut_exactly l.order file end (column_at l k.column) (place k.column) q).0 k.stops in
        let g = subst (BadAt l.order (take (end - place k.column) (drop (place k.column) file))) (sym w.1) f.1 in
        inr (inl (record { number_11 = w.0; at = led_to (Err (BadTriplet q)) k; kind = f.0; bad = g }))

    -- the walk to a column of which the words speak
    came_to : (at : ℕ → ℕ) (k : ℕ) → 0 < k → Begun file l start end at (pred k) → reach file l start end (pred k) ≡ Ok (at k)
    came_to at zero i b = absurd (omega arith)
    came_to at (suc k) i b = begun_walk file l start end ahead inside at k b k (omega arith)

    judged : (x : Reach) → reach file l start end l.columns ≡ x → row_refusal file l start end i ≡ used_up x end i id_judged
    judged x e = row_by_walk file index most h rows o i r file inside ∙ ap (λ (y : Reach). used_up y end i id_judged) e

    led_there : (w : LedTo file l start end) → reach file l start end (pred w.column) ≡ Ok (w.place w.column)
    led_there w = came_to w.place w.column w.within.0 w.begun

    -- the row is judged by what stops the walk there
    stopped : (x : Reach) → ((f : ℕ → Reach) → onward x f ≡ x) → (w : LedTo file l start end)
        → field_end l.order file end (column_at l w.column) (w.place w.column) ≡ x
        → row_refusal file l start end i ≡ used_up x end i id_judged
    stopped x g w f = judged x (stops_through file l start end x g w.column l.columns (w.place w.column) w.within (led_there w) f)

    missing : FieldMissing file l start end i n p → (row_refusal file l start end i ≡ refusal n p) × (n ≡ 0 → ⊥)
    missing w =
        let k = w.at.column in let q = w.at.place k in
        let f = (short_exactly l.order file end (column_at l k) q (came_within (pred k) q (led_there w.at))).1 (w.kind, w.no_end) in (
          stopped (Err Short) (λ f. refl) w.at f ∙ parts_refusal 10 i n p w.number_10 w.at_row,
          λ z. omega (arith, w.number_10),
        )

    bad : TripletBad file l start end n p → (row_refusal file l start end i ≡ refusal n p) × (n ≡ 0 → ⊥)
    bad w =
        let k = w.at.column in
        let f = (cut_exactly l.order file end (column_at l k) (w.at.place k) p).1 (w.kind, w.bad) in (
          stopped (Err (BadTriplet p)) (λ f. refl) w.at f ∙ parts_refusal 11 p n p w.number_11 refl,
          λ z. omega (arith, w.number_11),
        )

    not_used_up : NotUsedUp file l start end i n p → (row_refusal file l start end i ≡ refusal n p) × (n ≡ 0 → ⊥)
    not_used_up w =
        let q = w.place (suc l.columns) in (
          judged (Ok q) (begun_walk file l start end ahead inside w.place l.columns w.begun l.columns (omega arith))
              ∙ rw (ne_eqb q end w.left) (parts_refusal 10 i n p w.number_10 w.at_row),
          λ z. omega (arith, w.number_10),
        )

    id_wrong : IdWrong file l start end i n p → (row_refusal file l start end i ≡ refusal n p) × (n ≡ 0 → ⊥)
    id_wrong w =
        let m = (means file index most h rows o).id_within in
        let q = place_found file l start end ahead inside w.place w.fields l.id (m.0, omega (arith, m.1)) in (
          judged (Ok end) (fields_end file l start end ahead inside w.place w.fields)
              ∙ rw (eq-eqb end end refl, q, ne_eqb (number l.order file (w.place l.id) 4) i w.wrong)
              (parts_refusal 9 i n p w.number_9 w.at_row),
          λ z. omega (arith, w.number_9),
        )

    -- A ROW IS REFUSED WITH n AT p EXACTLY WHEN it is in words
    pub row_refused_exactly : ((row_refusal file l start end i ≡ refusal n p) × (n ≡ 0 → ⊥)) ↔ RowRefused file l start end i n p
    row_refused_exactly = (
      λ e. said (reach file l start end l.columns) refl (sym (row_by_walk file index most h rows o i r file inside) ∙ e.0) e.1,
      ⊎_elim missing (⊎_elim bad (⊎_elim not_used_up id_wrong)),
    )

    -- THE ROW is answered with the refusal exactly then
    pub row_of_refused_exactly : (row_of file index opened i ≡ Err (refusal n p)) ↔ RowRefused file l start end i n p
    unfolding row_of
    row_of_refused_exactly =
        let q = row_refusal file l start end i in
        rw (row_there file index most h rows o i r)
        (bool_cases (eqb q.number 0)
        (λ t.
        rw t (
          λ e. clash (cc),
          λ w. let x = row_refused_exactly.1 w in absurd (x.1 (ap (λ (r : Refusal). r.number) (sym x.0) ∙ eqb-true q.number 0 t)),
        ))
        (λ t.
        rw t (
          λ e. let x : q ≡ refusal n p = cc in row_refused_exactly.0
              (x, λ z. eqb-false q.number 0 t (ap (λ (r : Refusal). r.number) x ∙ z)),
          λ w. ap Err (row_refused_exactly.1 w).0,
        )))
