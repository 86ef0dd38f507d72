-- The bytes of a field whose count must be 1: those of its type, and so within its row.
use mathlib.Core.Path.{◌≡◌, sym, ap, subst, ◌∙◌}
use mathlib.Core.Logic.{⊎_elim}
use mathlib.Core.Bool.{true, false, true≢false}
use mathlib.Core.List.{List}
use Prim.Native.Nat.{ℕ, ◌+◌, ◌*◌, ◌≤◌}
use native.Mathlib.Omega.{arith}
use borrow.Author.Tests.{eqb-true}
use Rattle.laws.specs.Lowest.{In}
use Rattle.laws.proofs.LowestLaws.{bool_cases}
use Rattle.number.specs.declared.Order.{Order}
use Rattle.number.specs.Bytes.{number}
use Rattle.grammar.specs.Words as words
use Rattle.grammar.specs.Words.{Reading, Numeral}
use Rattle.field.specs.declared.FieldType.{FieldType}
use Rattle.field.specs.declared.FieldType.TheVariants as type
use Rattle.field.specs.Fields.{type_of, width_of, star_of, count_right}
use Rattle.field.proofs.TableRule.{type_of-letter}
use Rattle.header.specs.declared.ColumnLayout.{ColumnLayout}
use Rattle.header.specs.declared.Layout.{Layout}
use Rattle.header.specs.Places.{decimal}
use Rattle.header.specs.Words.{column_at, ColumnSound, AcceptedHeader}
use Rattle.header.specs.Layouts.{fixed_bytes, layout_of}
use Rattle.header.specs.LayoutWords.{layout_at, ColumnLaidOut}
use Rattle.header.proofs.ColumnsJudged.{numeral_not-star}
use Rattle.header.proofs.LayoutMeans.{laid_out_lem}
use Rattle.table.specs.Words.{FieldEnds}
use Rattle.opening.proofs.RowWidth.{in_reading}

-- a column of this type has the count 1, and so the bytes of one element
abbrev pub OneElement : ColumnLayout → Type 0
OneElement c = star_of c.kind ≡ false → (c.star ≡ false) × (fixed_bytes c ≡ width_of c.kind)

pub one_element : (c : words.Column) (x : ColumnLayout) → ColumnSound c → ColumnLaidOut c x → OneElement x
unfolding count_right
one_element c x sound laid none =
    let q = sym sound.listed ∙ laid.kind in
    let same : sound.kind ≡ x.kind = cc in
    ⊎_elim
    (λ w. absurd (true≢false (sym w.1 ∙ ap star_of same ∙ none)))
    (λ w.
    let one : decimal 0 c.count ≡ 1 = eqb-true (decimal 0 c.count) 1 (rw (ap star_of same ∙ none) at w.1) in (
      bool_cases x.star (λ b. absurd (numeral_not-star (subst Numeral (laid.star.0 b) w.0))) (λ b. b),
      ap (λ (n : ℕ). n * width_of x.kind) (laid.count w.0 ∙ one) ∙ omega arith,
    ))
    sound.count

module _ (file : List ℕ) (h : Reading) (a : AcceptedHeader file h) where
  abbrev l : Layout
  l = layout_of file

  pub column_one_element : (k : ℕ) → In l.columns k → OneElement (layout_at l k)
  column_one_element k i = one_element (column_at h k) (layout_at l k) (a.rules.sound k (in_reading file h a k i)) ((laid_out_lem file h a).each k i)

  -- the `id` column is an integer
  pub id_kind : (layout_at l l.id).kind ≡ type.Integer
  id_kind =
      let m = laid_out_lem file h a in
      let one = a.rules.one_id in
      let e : l.id ≡ one.id = one.only l.id (in_reading file h a l.id m.id_within) m.id_named in
      let t : (column_at h l.id).type ≡ 73 = ap (λ (k : ℕ). (column_at h k).type) e ∙ one.type_i in
      let q = sym (m.each l.id m.id_within).kind ∙ ap type_of t ∙ type_of-letter type.Integer in
      (cc)

-- ---- a field that ends inside its row
module _ (o : Order) (s : List ℕ) (end : ℕ) (c : ColumnLayout) (at p : ℕ) (f : FieldEnds o s end c at p) where
  pub ends_after : at ≤ p
  ends_after = ⊎_elim (λ x. omega (arith, x.ends)) (⊎_elim (λ x. omega (arith, x.ends)) (λ x. omega (arith, x.ends))) f

  -- a type with one element
  pub element_room : OneElement c → (t : FieldType) → c.kind ≡ t → star_of t ≡ false → (t ≡ type.Triplet → ⊥) → at + width_of t ≤ end
  element_room one t e none kind =
      let w = one (ap star_of e ∙ none) in
      ⊎_elim (λ x. absurd (kind (sym e ∙ x.kind)))
      (⊎_elim (λ x. absurd (true≢false (sym x.star ∙ w.0))) (λ x. omega (arith, x.ends, x.inside, w.1, ap width_of e)))
      f

  -- a `*` field, with its count; a field of so many elements
  pub star_room : c.star ≡ true → (c.kind ≡ type.Triplet → ⊥) → at + 4 + number o s at 4 * width_of c.kind ≤ end
  star_room b kind =
      ⊎_elim (λ x. absurd (kind x.kind))
      (⊎_elim (λ x. omega (arith, x.ends, x.inside)) (λ x. absurd (true≢false (sym b ∙ x.no_star))))
      f

  pub fixed_room : c.star ≡ false → (c.kind ≡ type.Triplet → ⊥) → at + fixed_bytes c ≤ end
  fixed_room b kind =
      ⊎_elim (λ x. absurd (kind x.kind))
      (⊎_elim (λ x. absurd (true≢false (sym x.star ∙ b))) (λ x. omega (arith, x.ends, x.inside)))
      f
