-- Where a field ends, in words, by its type; and that the walk over a row's columns finds their places exactly where the fields follow
-- one another so.
use mathlib.Core.Path.{◌≡◌, refl, sym, ap, ◌∙◌}
use mathlib.Core.Logic.{◌↔◌, inl, inr, ⊎_elim}
use mathlib.Core.Bool.{true, false, true≢false}
use mathlib.Core.List.{List}
use Prim.Native.Nat.{ℕ, zero, suc, ◌+◌, ◌-◌, ◌*◌, ◌≤◌}
use native.Mathlib.Omega.{arith}
use borrow.Author.Tests.{leb-true, ltb-true, ltb-false, le-leb, eqb-true}
use lib.Dec.{ltb, leb}
use lib.ListN.{length, take, drop}
use Rattle.laws.specs.Lowest.{In}
use Rattle.laws.proofs.LowestLaws.{bool_cases}
use Rattle.laws.proofs.TestLaws.{clash}
use Rattle.number.specs.declared.Order.{Order}
use Rattle.number.specs.Bytes.{number}
use Rattle.field.specs.declared.FieldType.{FieldType}
use Rattle.field.specs.declared.FieldType.TheVariants as type
use Rattle.field.specs.Letters.{letter_k}
use Rattle.field.specs.Fields.{letter_of, type_of, width_of, is_triplet}
use Rattle.field.proofs.TableRule.{type_of-letter}
use Rattle.triplet.specs.declared.Ids.{Ids}
use Rattle.triplet.specs.Triplet.{Reading, triplet_of}
use Rattle.triplet.specs.Words.{BeginsWith}
use Rattle.triplet.proofs.ReadExactly.{read_exactly}
use Rattle.header.specs.declared.ColumnLayout.{ColumnLayout}
use Rattle.header.specs.Layouts.{fixed_bytes}
use Rattle.header.specs.declared.Layout.{Layout}
use Rattle.header.specs.LayoutWords.{layout_at}
use Rattle.std.specs.Prelude.{Ok, Err}
use Rattle.table.specs.Rows.{Reach, plain_end, star_end, past_triplet, triplet_end, field_end, column_at, reach, place_of, place_of_column}
use Rattle.table.specs.Words.{FieldEnds, Fields, Begun}
use Rattle.table.proofs.WalkLaws.{passed, reach_within}

pub triplet_kind : (t : FieldType) → (is_triplet t ≡ true) ↔ (t ≡ type.Triplet)
triplet_kind t = (
  λ e. let q = sym (type_of-letter t) ∙ ap type_of (eqb-true (letter_of t) letter_k e) ∙ type_of-letter type.Triplet in cc,
  λ e. rw e,
)

not_triplet : (t : FieldType) → is_triplet t ≡ false → t ≡ type.Triplet → ⊥
not_triplet t e q = true≢false (sym ((triplet_kind t).1 q) ∙ e)

-- ---- by type
plain_exactly : (at end need p : ℕ) → at ≤ end → (plain_end at end need ≡ Ok p) ↔ ((p ≡ at + need) × (p ≤ end))
unfolding plain_end
plain_exactly at end need p h = (
  λ e.
      bool_cases (leb need (end - at))
      (λ t. let q = rw t at e in let r : at + need ≡ p = cc in (sym r, omega (arith, leb-true need (end - at) t)))
      (λ t. let q = rw t at e in clash (cc)),
  λ w. let t : leb need (end - at) ≡ true = le-leb need (end - at) (omega (arith, w.0, w.1)) in rw t (ap Ok (sym w.0)),
)

star_exactly : (o : Order) (s : List ℕ) (at end w p : ℕ) → at ≤ end
    → (star_end o s at end w ≡ Ok p) ↔ ((p ≡ at + 4 + number o s at 4 * w) × (p ≤ end))
unfolding star_end
star_exactly o s at end w p h =
    bool_cases (ltb (end - at) 4)
    (λ t. rw t (λ e. clash (cc), λ q. absurd (omega (arith, ltb-true (end - at) 4 t, q.0, q.1))))
    (λ t. rw t (plain_exactly (at + 4) end (number o s at 4 * w) p (omega (arith, ltb-false (end - at) 4 t))))

past_exactly : (o : Order) (b : List ℕ) (at p : ℕ) (x : Reading) → triplet_of o b ≡ x → past_triplet at x ≡ Ok p
    → (t : Ids) × (n : ℕ) × BeginsWith o b t n × (p ≡ at + n)
past_exactly o b at p (Ok t) q e = let r : at + t.bytes ≡ p = cc in (t.ids, t.bytes, (read_exactly o b t.ids t.bytes).0 q, sym r)
past_exactly o b at p (Err k) q e = clash (cc)

triplet_exactly : (o : Order) (s : List ℕ) (at end p : ℕ)
    → (triplet_end o s at end ≡ Ok p) ↔ ((t : Ids) × (n : ℕ) × BeginsWith o (take (end - at) (drop at s)) t n × (p ≡ at + n))
unfolding triplet_end
triplet_exactly o s at end p =
    let b = take (end - at) (drop at s) in (
      λ e. past_exactly o b at p (triplet_of o b) refl e,
      λ w. rw ((read_exactly o b w.0 w.1).1 w.2) (ap Ok (sym w.3)),
    )

same_end : {P : Type 0} (x y : Reach) (p : ℕ) → x ≡ y → (y ≡ Ok p) ↔ P → (x ≡ Ok p) ↔ P
same_end x y p e w = (λ q. w.0 (sym e ∙ q), λ h. e ∙ w.1 h)

-- A FIELD ENDS AT p EXACTLY WHEN it does in words
pub field_exactly : (o : Order) (s : List ℕ) (end : ℕ) (c : ColumnLayout) (at p : ℕ) → at ≤ end
    → (field_end o s end c at ≡ Ok p) ↔ FieldEnds o s end c at p
unfolding field_end
field_exactly o s end c at p h =
    bool_cases (is_triplet c.kind)
    (λ t.
    let k = (triplet_kind c.kind).0 t in
    let w = triplet_exactly o s at end p in
    same_end (field_end o s end c at) (triplet_end o s at end) p (rw t) (
      λ e. let f = w.0 e in inl (record { kind = k; ids = f.0; bytes = f.1; begins = f.2; ends = f.3 }),
      ⊎_elim (λ f. w.1 (f.ids, f.bytes, f.begins, f.ends)) (⊎_elim (λ f. absurd (f.kind k)) (λ f. absurd (f.kind k))),
    ))
    (λ t.
    let k = not_triplet c.kind t in
    bool_cases c.star
    (λ b.
    let w = star_exactly o s at end (width_of c.kind) p h in
    same_end (field_end o s end c at) (star_end o s at end (width_of c.kind)) p (rw (t, b)) (
      λ e. let f = w.0 e in inr (inl (record { kind = k; star = b; ends = f.0; inside = f.1 })),
      ⊎_elim (λ f. absurd (k f.kind)) (⊎_elim (λ f. w.1 (f.ends, f.inside)) (λ f. absurd (true≢false (sym b ∙ f.no_star)))),
    ))
    (λ b.
    let w = plain_exactly at end (fixed_bytes c) p h in
    same_end (field_end o s end c at) (plain_end at end (fixed_bytes c)) p (rw (t, b)) (
      λ e. let f = w.0 e in inr (inr (record { kind = k; no_star = b; ends = f.0; inside = f.1 })),
      ⊎_elim (λ f. absurd (k f.kind)) (⊎_elim (λ f. absurd (true≢false (sym f.star ∙ b))) (λ f. w.1 (f.ends, f.inside))),
    )))

module _ (s : List ℕ) (l : Layout) (start end : ℕ) (first : start ≤ end) (last : end ≤ length s) where
  pub next_field : (n p q : ℕ) → reach s l start end n ≡ Ok p
      → (reach s l start end (suc n) ≡ Ok q) ↔ FieldEnds l.order s end (column_at l (suc n)) p q
  next_field n p q e =
      rw e (field_exactly l.order s end (column_at l (suc n)) p q (reach_within s l start end n p first last e))

  -- the field of each column that the walk came past
  pub field_at : (n p : ℕ) → reach s l start end n ≡ Ok p → (k : ℕ) → In n k
      → FieldEnds l.order s end (layout_at l k) (place_of_column s l start end k) (place_of_column s l start end (suc k))
  field_at n p e zero i = absurd (omega (arith, i.0))
  field_at n p e (suc k) i =
      (next_field k (place_of (reach s l start end k)) (place_of (reach s l start end (suc k)))
      (passed s l start end n p e k (omega (arith, i.1)))).0
      (passed s l start end n p e (suc k) i.1)

  -- THE WALK COMES TO THE ROW'S END EXACTLY WHEN the fields use exactly its bytes
  pub walk_fields : reach s l start end l.columns ≡ Ok end → Fields s l start end (place_of_column s l start end)
  walk_fields e = record { first = refl; next = field_at l.columns end e; last = ap place_of e }

  pub begun_walk : (place : ℕ → ℕ) (m : ℕ) → Begun s l start end place m → (k : ℕ) → k ≤ m → reach s l start end k ≡ Ok (place (suc k))
  begun_walk place m f zero i = ap Ok (sym f.first)
  begun_walk place m f (suc k) i = (next_field k (place (suc k)) (place (suc (suc k)))
      (begun_walk place m f k (omega arith))).1 (f.next (suc k) (omega arith, i))

  pub fields_walk : (place : ℕ → ℕ) → Fields s l start end place → (k : ℕ) → k ≤ l.columns → reach s l start end k ≡ Ok (place (suc k))
  fields_walk place f = begun_walk place l.columns (record { first = f.first; next = f.next })

  pub walk_begun : (n p : ℕ) → reach s l start end n ≡ Ok p → Begun s l start end (place_of_column s l start end) n
  walk_begun n p e = record { first = refl; next = field_at n p e }

  pub fields_end : (place : ℕ → ℕ) → Fields s l start end place → reach s l start end l.columns ≡ Ok end
  fields_end place f = fields_walk place f l.columns (omega arith) ∙ ap Ok f.last

  -- the places are those that the walk finds: there is one reading of a row
  pub place_found : (place : ℕ → ℕ) → Fields s l start end place → (k : ℕ) → In (suc l.columns) k → place_of_column s l start end k ≡ place k
  place_found place f zero i = absurd (omega (arith, i.0))
  place_found place f (suc k) i = ap place_of (fields_walk place f k (omega (arith, i.1)))
