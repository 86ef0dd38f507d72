-- The tests of the columns, in the words of the reading: sound columns, names that differ, one id.
use mathlib.Core.Path.{◌≡◌, refl, sym, ap, subst, ◌∙◌}
use mathlib.Core.Logic.{◌↔◌, by_cases, ◌⊎◌, inl, inr, ⊎_elim}
use mathlib.Core.Bool.{Bool, true, false, not, ◌||◌, true≢false}
use mathlib.Core.List.{List, [], ◌∷◌, map}
use Prim.Native.Nat.{ℕ, zero, suc, pred, ◌+◌, ◌-◌, ◌*◌, ◌≤◌}
use native.Mathlib.Decide.{dec_lt}
use native.Mathlib.Omega.{arith}
use borrow.Author.Tests.{eq-eqb, ne_eqb, eqb-true, eqb-false, not-false}
use lib.Dec.{eqb, ltb}
use lib.ListN.{length, get_or, drop}
use Rattle.laws.specs.Lowest.{lowest, In, Each}
use Rattle.laws.proofs.TestLaws.{or_false, and_true, denied, refuted, equal, both_true, clash}
use Rattle.laws.proofs.LowestLaws.{bool_cases, lowest_cases}
use Rattle.refusal.proofs.JudgedLaws.{none_found}
use Rattle.grammar.specs.Words.{star, Column, Reading, Numeral, Count, WellFormedColumn, Reads}
use Rattle.field.specs.declared.FieldType.{FieldType}
use Rattle.std.specs.Prelude.{Option, Some, None}
use Rattle.field.specs.declared.FieldType.{FieldType}
use Rattle.field.specs.Fields.{type_of, count_right}
use Rattle.header.specs.declared.Definition.{Definition}
use Rattle.header.specs.Places.{decimal, place_after, column}
use Rattle.header.specs.Names.{lower, same_text, name_of, same_name, named_before, is_named, column_named}
use Rattle.header.specs.Judge.{key_p, key_listed, sound_as, sound, id_name, id_sound, other_key_p, id_column, id_wrong}
use Rattle.header.specs.Words.{column_at, ColumnSound, OneId, Shows}
use Rattle.header.specs.Refusals.{NotNamedBefore, NamesDiffer}
use Rattle.header.proofs.ColumnsShown.{column_well_formed, column_shown}

-- ---- the count that a definition shows

pub numeral_not-star : Numeral (star ∷ []) → ⊥
numeral_not-star v = omega (arith, v.digits.bytes 0 (omega arith))

-- the number of digits is at least what stands before the last, ten times
decimal_least : (l : List ℕ) (acc : ℕ) → acc ≤ decimal acc l
decimal_least [] acc = omega arith
decimal_least (d ∷ l) acc = omega (arith, decimal_least l (acc * 10 + (d - 48)))

-- the only digits that say 1, the first not being 0
one_is : (l : List ℕ) → Numeral l → decimal 0 l ≡ 1 → l ≡ 49 ∷ []
one_is [] v e = absurd (omega (arith, v.digits.least-bytes))
one_is (d ∷ []) v e = let z : d ≡ 49 = omega arith in rw z
one_is (d ∷ (x ∷ l)) v e =
    let b = v.digits.bytes 0 (omega arith) in
    let z : d ≡ 48 → ⊥ = v.first_not_0 in
    let m = decimal_least l ((0 * 10 + (d - 48)) * 10 + (x - 48)) in
    absurd (omega arith)

-- a test, as a fact about itself
itself : (a : Bool) → (a ≡ true) ↔ (a ≡ true)
itself a = (λ e. e, λ e. e)

module _ (s : List ℕ) (p : ℕ) (c : Column) (d : Definition) (w : Shows s p c d) where
  numeral_shown : Numeral c.count → (d.star ≡ false) × (d.count ≡ decimal 0 c.count)
  numeral_shown v = (
    bool_cases d.star (λ t. absurd (numeral_not-star (subst Numeral (w.star.0 t) v))) (λ t. t),
    w.count v,
  )

  -- ---- 4: "unlisted type or key, or count wrong for the type"
  key_exactly : (b : ℕ) → (key_listed b ≡ true) ↔ ((b ≡ 80) ⊎ ((b ≡ 85) ⊎ (b ≡ 78)))
  unfolding key_listed
  key_exactly b =
      bool_cases (eqb b 80)
      (λ t. rw t (λ e. inl (eqb-true b 80 t), λ h. refl))
      (λ t.
      bool_cases (eqb b 85)
      (λ u. rw (t, u) (λ e. inr (inl (eqb-true b 85 u)), λ h. refl))
      (λ u.
      rw (t, u) (
        λ e. inr (inr (eqb-true b 78 e)),
        ⊎_elim (λ q. absurd (eqb-false b 80 t q)) (⊎_elim (λ q. absurd (eqb-false b 85 u q)) (eq-eqb b 78)),
      )))

  abbrev CountFits : FieldType → Type 0
  CountFits t = ((c.count ≡ star ∷ []) × (count_right t true 0 ≡ true)) ⊎
      (Numeral c.count × (count_right t false (decimal 0 c.count) ≡ true))

  star_right : (t : FieldType) (n m : ℕ) → count_right t true n ≡ count_right t true m
  unfolding count_right
  star_right t n m = refl

  count_exactly : (t : FieldType) → Count c.count → (count_right t d.star d.count ≡ true) ↔ CountFits t
  count_exactly t (inl q) =
      rw (w.star.1 q) (
        λ e. inl (q, star_right t 0 d.count ∙ e),
        ⊎_elim (λ h. star_right t d.count 0 ∙ h.1) (λ h. absurd (numeral_not-star (subst Numeral q h.0))),
      )
  count_exactly t (inr v) =
      let n = numeral_shown v in
      rw (n.0, n.1) (λ e. inr (v, e), ⊎_elim (λ h. absurd (numeral_not-star (subst Numeral h.0 v))) (λ h. h.1))

  sound_as_lem : (l : Option FieldType) → type_of c.type ≡ l → Count c.count → (sound_as l d ≡ true) ↔ ColumnSound c
  sound_as_lem (Some t) e k = (
    λ q.
        let b = both_true (key_listed d.key) (count_right t d.star d.count) q in
        record {
          kind = t;
          listed = e;
          key = subst (λ (x : ℕ). (x ≡ 80) ⊎ ((x ≡ 85) ⊎ (x ≡ 78))) w.key
              ((key_exactly d.key).0 b.0);
          count = (count_exactly t k).0 b.1;
        },
    λ h.
        let same : t ≡ h.kind = cc (e, h.listed) in
        rw (w.key, (key_exactly c.key).1 h.key, same) ((count_exactly h.kind k).1 h.count),
  )
  sound_as_lem None e k = (λ q. absurd (true≢false (sym q)), λ h. clash (cc (e, h.listed)))

  pub sound_exactly : Count c.count → (sound d ≡ true) ↔ ColumnSound c
  unfolding sound
  sound_exactly k = sound_as_lem (type_of d.kind) (ap type_of (sym w.type)) k

  -- ---- 6: "type I, count 1, key P"
  one_exactly : Count c.count → ((not d.star ≡ true) × (eqb d.count 1 ≡ true)) ↔ (c.count ≡ 49 ∷ [])
  one_exactly (inl q) = rw (w.star.1 q) (
    λ e. absurd (true≢false (sym e.0)),
    λ e.
        let z : ◌≡◌ {A = ℕ} 42 49 = ap (λ (l : List ℕ). get_or l 0 0) (sym q ∙ e) in absurd (omega arith),
  )
  one_exactly (inr v) =
      let n = numeral_shown v in
      rw (n.0, n.1) (λ e. one_is c.count v (eqb-true (decimal 0 c.count) 1 e.1), λ e. rw e (refl, refl))

  pub id_sound_exactly : Count c.count → (id_sound d ≡ true) ↔ ((c.type ≡ 73) × ((c.count ≡ 49 ∷ []) × (c.key ≡ key_p)))
  id_sound_exactly k =
      let o = one_exactly k in
      let f = and_true _ _ (equal d.kind 73)
      (and_true _ _ (itself (not d.star)) (and_true _ _ (itself (eqb d.count 1)) (equal d.key key_p))) in (
        λ e. let g = f.0 e in (sym w.type ∙ g.0, (o.0 (g.1.0, g.1.1.0), sym w.key ∙ g.1.1.1)),
        λ g. let b = o.1 g.1.0 in f.1 (w.type ∙ g.0, (b.0, (b.1, w.key ∙ g.1.1))),
      )

-- ---- "case ignored": two texts are the same exactly when they are one text in small letters
pub same_text_exactly : (a b : List ℕ) → (same_text a b ≡ true) ↔ (map lower a ≡ map lower b)
same_text_exactly [] [] = (λ e. refl, λ e. refl)
same_text_exactly [] (y ∷ b) = (λ e. absurd (true≢false (sym e)), λ e. clash (cc))
same_text_exactly (x ∷ a) [] = (λ e. absurd (true≢false (sym e)), λ e. clash (cc))
same_text_exactly (x ∷ a) (y ∷ b) =
    let w = and_true _ _ (equal (lower x) (lower y)) (same_text_exactly a b) in (
      λ e. let g = w.0 e in λ i. g.0 i ∷ g.1 i,
      λ e. w.1 (cc, cc),
    )

same_as_third : (a b c : List ℕ) → same_text a c ≡ true → same_text b c ≡ true → same_text a b ≡ true
same_as_third a b c e g = (same_text_exactly a b).1 ((same_text_exactly a c).0 e ∙ sym ((same_text_exactly b c).0 g))

-- ---- the columns of a head whose text is read as h
module _ (s : List ℕ) (h : Reading) (r : Reads (drop 4 s) h) where
  abbrev columns : ℕ
  columns = length h.columns

  pub shown : (k : ℕ) → In columns k → Shows s (place_after s (pred k)) (column_at h k) (column s k)
  shown zero i = absurd (omega (arith, i.0))
  shown (suc k) i = column_shown s h r k (omega (arith, i.1))

  pub well_formed_at : (k : ℕ) → In columns k → WellFormedColumn (column_at h k)
  well_formed_at zero i = absurd (omega (arith, i.0))
  well_formed_at (suc k) i = column_well_formed h.columns r.well_formed.columns k (omega (arith, i.1))

  pub name-shown : (k : ℕ) → In columns k → name_of s k ≡ (column_at h k).name
  name-shown k i = (shown k i).name

  -- 4 by column
  pub sound_at : (k : ℕ) → In columns k → (sound (column s k) ≡ true) ↔ ColumnSound (column_at h k)
  sound_at k i = sound_exactly s (place_after s (pred k)) (column_at h k) (column s k) (shown k i) (well_formed_at k i).count

  -- 5
  same_name_lem : (i j : ℕ) → In columns i → In columns j → same_name s i j ≡ same_text (column_at h i).name (column_at h j).name
  unfolding same_name
  same_name_lem i j a b = rw (name-shown i a, name-shown j b)

  pub named_exactly : (j : ℕ) → In columns j → (named_before s j ≡ false) ↔ NotNamedBefore h j
  named_exactly j b =
      let w =
      none_found (λ i. same_text (column_at h i).name (column_at h j).name ≡ true → ⊥) (pred j) (λ i. same_name s i j)
      (λ i u. rw (same_name_lem i j (u.0, omega arith) b) (refuted (same_text (column_at h i).name (column_at h j).name) (itself _))) in
      (λ e i a u. w.0 e i (a, omega arith), λ g. w.1 (λ i u. g i u.0 (omega arith)))

  -- 6
  pub is_named_lem : (name : List ℕ) (k : ℕ) → In columns k → is_named s name k ≡ same_text (column_at h k).name name
  unfolding is_named
  is_named_lem name k i = rw (name-shown k i)

  pub id_sound_at : (k : ℕ) → In columns k
      → (id_sound (column s k) ≡ true) ↔ (((column_at h k).type ≡ 73) × (((column_at h k).count ≡ 49 ∷ []) × ((column_at h k).key ≡ key_p)))
  id_sound_at k i = id_sound_exactly s (place_after s (pred k)) (column_at h k) (column s k) (shown k i) (well_formed_at k i).count

  -- no two columns of one name
  pub one_named : NamesDiffer h → (name : List ℕ) (i j : ℕ) → In columns i → In columns j
      → same_text (column_at h i).name name ≡ true → same_text (column_at h j).name name ≡ true → i ≡ j
  one_named d name i j a b e g =
      by_cases (dec_lt i j) (λ l. absurd (d j b i a.0 l (same_as_third (column_at h i).name (column_at h j).name name e g)))
      (λ l. by_cases (dec_lt j i) (λ m. absurd (d i a j b.0 m
      (same_as_third (column_at h j).name (column_at h i).name name g e))) (λ m. omega arith))

  -- the column of a name: the lowest that has it, or 0 where none has it
  pub column_named_lem : (name : List ℕ) → ((column_named s columns name ≡ 0)
      × ((k : ℕ) → In columns k → same_text (column_at h k).name name ≡ true → ⊥))
      ⊎ (In columns (column_named s columns name) × (same_text (column_at h (column_named s columns name)).name name ≡ true))
  unfolding column_named
  column_named_lem name =
      ⊎_elim
      (λ w. inl (w.0, λ k i e. true≢false (sym e ∙ sym (is_named_lem name k i) ∙ w.1.fails k i.0 i.1)))
      (λ w. inr ((w.pos, w.within), sym (is_named_lem name _ (w.pos, w.within)) ∙ w.passes))
      (lowest_cases (is_named s name) columns)

  other_key_exactly : (id k : ℕ) → In columns k → (other_key_p s id k ≡ false) ↔ ((column_at h k).key ≡ key_p → k ≡ id)
  other_key_exactly id k i =
      rw (shown k i).key
      (bool_cases (eqb (column_at h k).key key_p)
      (λ t. rw t (λ e q. eqb-true k id (not-false (eqb k id) e), λ g. rw (eq-eqb k id (g (eqb-true _ _ t)))))
      (λ t. rw t (λ e q. absurd (eqb-false _ _ t q), λ g. refl)))

  pub id_exactly : NamesDiffer h → (id_wrong s columns ≡ false) ↔ OneId h
  unfolding id_wrong id_column
  id_exactly d =
      let id = column_named s columns id_name in
      let rest : (In columns id) → ((not (id_sound (column s id)) || ltb 0 (lowest (other_key_p s id) columns) ≡ false)
      ↔ ((((column_at h id).type ≡ 73) × (((column_at h id).count ≡ 49 ∷ []) × ((column_at h id).key ≡ key_p)))
      × Each columns (λ k. (column_at h k).key ≡ key_p → k ≡ id))) =
      λ i. or_false _ _ (denied _ (id_sound_at id i))
      (none_found (λ k. (column_at h k).key ≡ key_p → k ≡ id) columns (other_key_p s id) (other_key_exactly id)) in
      ⊎_elim
      (λ w. rw w.0 (λ e. absurd (true≢false e), λ o. absurd (w.1 o.id o.within o.named)))
      (λ w.
      rw (ne_eqb id 0 (λ z. omega (arith, w.0.0))) (
        λ e.
            let g = (rest w.0).0 e in
            record {
              id = id;
              within = w.0;
              named = w.1;
              only = λ k i q. one_named d id_name k id i w.0 q w.1;
              type_i = g.0.0;
              count_1 = g.0.1.0;
              has_key_p = g.0.1.1;
              no_other_p = g.1;
            },
        λ o.
            let same : id ≡ o.id = o.only id w.0 w.1 in
            (rest w.0).1 (subst (λ (x : ℕ). (((column_at h x).type ≡ 73) × (((column_at h x).count ≡ 49 ∷ []) ×
            ((column_at h x).key ≡ key_p))) × Each columns (λ k. (column_at h k).key ≡ key_p → k ≡ x)) (sym same)
            ((o.type_i, (o.count_1, o.has_key_p)), o.no_other_p)),
      ))
      (column_named_lem id_name)
