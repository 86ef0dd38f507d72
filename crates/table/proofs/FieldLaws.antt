-- Where a field ends, by its column or by its code: within its row, and without wrapping.
use mathlib.Core.Path.{◌≡◌, refl, ◌∙◌}
use mathlib.Core.Bool.{true, false}
use mathlib.Core.List.{List}
use Prim.Native.Nat.{ℕ, ◌+◌, ◌-◌, ◌*◌, ◌≤◌, ◌<◌}
use native.Mathlib.Omega.{arith}
use native.Mathlib.Nat.{mul-le-mul}
use lib.ListN.{length, take, drop, length-take, length-drop}
use lib.Dec.{eqb, ltb, leb}
use borrow.Author.Tests.{ne_eqb, le-leb, lt-leb, leb-true, ltb-false}
use Rattle.laws.proofs.LowestLaws.{bool_cases}
use Rattle.number.specs.declared.Order.{Order}
use Rattle.number.specs.Bytes.{number}
use Rattle.field.specs.declared.FieldType.{FieldType}
use Rattle.field.specs.declared.FieldType.TheVariants as type
use Rattle.field.specs.Fields.{width_of, widest, is_triplet}
use Rattle.triplet.specs.declared.Ids.{Ids}
use Rattle.triplet.specs.Triplet.{Reading, triplet, triplet_of}
use Rattle.triplet.proofs.OnlyItsBytes.{within}
use Rattle.header.specs.declared.ColumnLayout.{ColumnLayout}
use Rattle.header.specs.Layouts.{fixed_bytes}
use Rattle.std.specs.Prelude.{Ok, Err}
use Rattle.table.specs.declared.Unreached.TheVariants.{Short}
use Rattle.limits.specs.Limits.{most_rows}
use Rattle.table.specs.Rows.{Reach, plain_end, star_end, past_triplet, triplet_end, field_end}
use Rattle.table.specs.Plans.{triplet_code, star_code, fixed_code, code_of, code_end}

-- a count of four bytes times an element's width
pub elements_room : (n w : ℕ) → n < 4294967296 → w ≤ widest → n * w < 18446744073709551616
elements_room n w a b = let h : n * w ≤ 4294967296 * widest = mul-le-mul {n₂ = 4294967296} {m₂ = widest} (omega arith) b in omega arith

-- a width of four bytes times a million rows
pub rows_room : (w k : ℕ) → w < 4294967296 → k ≤ most_rows → w * k ≤ 4294967296 * most_rows
rows_room w k a b = mul-le-mul {n₂ = 4294967296} {m₂ = most_rows} (omega arith) b

not_reached : (p : ℕ) → ◌≡◌ {A = Reach} (Err Short) (Ok p) → ⊥
not_reached p e = let z : ◌≡◌ {A = ℕ} 0 1 = cc in omega arith

-- a triplet in the part of a list from `at` to `end`
pub triplet_room : (o : Order) (s : List ℕ) (at end n : ℕ) (t : Ids) → at ≤ end → end ≤ length s
    → triplet_of o (take (end - at) (drop at s)) ≡ Ok (triplet t n) → at + n ≤ end
triplet_room o s at end n t h l e =
    let k : length (take (end - at) (drop at s)) ≡ end - at = simp (length-take, length-drop) (omega arith) in
    omega (arith, (within o (take (end - at) (drop at s)) t n e).0)

plain_within : (at end need p : ℕ) → at ≤ end → plain_end at end need ≡ Ok p → p ≤ end
unfolding plain_end
plain_within at end need p h e =
    bool_cases (leb need (end - at))
    (λ t. same (rw t at e) (leb-true need (end - at) t))
    (λ t. absurd (not_reached p (rw t at e)))
  where
    same : ◌≡◌ {A = Reach} (Ok (at + need)) (Ok p) → need ≤ end - at → p ≤ end
    same e t = let q : at + need ≡ p = cc in omega arith

star-within : (o : Order) (s : List ℕ) (at end w p : ℕ) → at ≤ end → star_end o s at end w ≡ Ok p → p ≤ end
unfolding star_end
star-within o s at end w p h e =
    bool_cases (ltb (end - at) 4)
    (λ t. absurd (not_reached p (rw t at e)))
    (λ t. plain_within (at + 4) end (number o s at 4 * w) p (omega (arith, ltb-false (end - at) 4 t)) (rw t at e))

triplet_within : (o : Order) (s : List ℕ) (at end p : ℕ) → at ≤ end → end ≤ length s → (x : Reading)
    → triplet_of o (take (end - at) (drop at s)) ≡ x → past_triplet at x ≡ Ok p → p ≤ end
triplet_within o s at end p h l (Ok r) q e = let u : at + r.bytes ≡ p = cc in omega (arith, triplet_room o s at end r.bytes r.ids h l q)
triplet_within o s at end p h l (Err k) q e = let z : ◌≡◌ {A = ℕ} 0 1 = cc in absurd (omega arith)

-- ---- the codes of columns

width_small : (t : FieldType) → width_of t ≤ widest
width_small type.Text = omega arith
width_small type.Latin = omega arith
width_small type.Float = omega arith
width_small type.Double = omega arith
width_small type.Short = omega arith
width_small type.Integer = omega arith
width_small type.ShortPair = omega arith
width_small type.ShortTriple = omega arith
width_small type.DoublePair = omega arith
width_small type.DoubleTriple = omega arith
width_small type.Date = omega arith
width_small type.NullField = omega arith
width_small type.Triplet = omega arith

module _ (o : Order) (s : List ℕ) (end at : ℕ) where
  star_code_lem : (w : ℕ) → w ≤ widest → code_end o s end (1 + w) at ≡ star_end o s at end w
  unfolding code_end
  star_code_lem w h =
      let a : leb 26 (1 + w) ≡ false = lt-leb 26 (1 + w) (omega arith) in
      let b : eqb (1 + w) 0 ≡ false = ne_eqb (1 + w) 0 (λ e. omega arith) in
      let d : 1 + w - 1 ≡ w = omega arith in
      simp (a, b, d)

  fixed_code_lem : (n : ℕ) → code_end o s end (26 + n) at ≡ plain_end at end n
  unfolding code_end
  fixed_code_lem n =
      let a : leb 26 (26 + n) ≡ true = le-leb 26 (26 + n) (omega arith) in
      let d : 26 + n - 26 ≡ n = omega arith in
      simp (a, d)

  triplet_code_lem : code_end o s end 0 at ≡ triplet_end o s at end
  unfolding code_end
  triplet_code_lem = refl

  -- THE CODE OF A COLUMN says where its field ends
  pub code_says : (c : ColumnLayout) → code_end o s end (code_of c) at ≡ field_end o s end c at
  unfolding code_of field_end
  code_says c =
      bool_cases (is_triplet c.kind)
      (λ t. rw t triplet_code_lem)
      (λ t. bool_cases c.star
      (λ u. rw (t, u) (star_code_lem (width_of c.kind) (width_small c.kind)))
      (λ u. rw (t, u) (fixed_code_lem (fixed_bytes c))))

-- a field ends within its row
pub code-within : (o : Order) (s : List ℕ) (end code at p : ℕ) → at ≤ end → end ≤ length s → code_end o s end code at ≡ Ok p → p ≤ end
unfolding code_end triplet_end
code-within o s end code at p h l e =
    bool_cases (leb fixed_code code)
    (λ t. plain_within at end (code - fixed_code) p h (rw t at e))
    (λ t. bool_cases (eqb code triplet_code)
    (λ u. triplet_within o s at end p h l (triplet_of o (take (end - at) (drop at s))) refl (rw (t, u) at e))
    (λ u. star-within o s at end (code - star_code) p h (rw (t, u) at e)))

-- A FIELD ENDS WITHIN ITS ROW
pub field_within : (o : Order) (s : List ℕ) (end : ℕ) (c : ColumnLayout) (at p : ℕ) → at ≤ end → end ≤ length s
    → field_end o s end c at ≡ Ok p → p ≤ end
field_within o s end c at p h l e = code-within o s end (code_of c) at p h l (code_says o s end at c ∙ e)
