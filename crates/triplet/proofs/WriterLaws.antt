-- What the writer's steps leave, and its tests in order.
use mathlib.Core.Path.{◌≡◌, refl, ap, ◌∙◌}
use mathlib.Core.List.{List, [], ◌∷◌, ◌++◌, append_assoc}
use Prim.Native.Nat.{ℕ, zero, suc, ◌+◌, ◌≤◌, ◌<◌}
use native.Mathlib.Omega.{arith}
use lib.ListN.{length, set, drop, length-append}
use lib.Seq.{set_split}
use borrow.Author.Tests.{ne_eqb, lt-ltb, le-ltb}
use Rattle.std.specs.Prelude.{Ok, Err}
use Rattle.laws.specs.Lowest.{lowest, found}
use Rattle.number.specs.declared.Order.{Order}
use Rattle.number.specs.Bytes.{bytes_of, written}
use Rattle.number.proofs.NumberLaws.{written_next, length_bytes}
use Rattle.refusal.specs.declared.Refusal.{Refusal}
use Rattle.refusal.specs.Order.{refusal, refused_at, first, located}
use Rattle.triplet.specs.declared.Ids.{Ids}
use Rattle.triplet.specs.Triplet.{bad_triplet}
use Rattle.triplet.specs.Written.{no_such_place, too_short, code_for, width_for, type_byte, form, encoded, size_of, part_too_large, written_of}

-- a byte stored at the front, then three numbers written one after the other
laid : (o : Order) (s : List ℕ) (b w₁ w₂ w₃ u v w : ℕ) → 1 + w₁ + w₂ + w₃ ≤ length s
    → written o (written o (written o (set s 0 b) 1 w₁ u) (1 + w₁) w₂ v) (1 + w₁ + w₂) w₃ w
    ≡ (b ∷ (bytes_of o w₁ u ++ (bytes_of o w₂ v ++ bytes_of o w₃ w))) ++ drop (1 + w₁ + w₂ + w₃) s
laid o s b w₁ w₂ w₃ u v w h =
    let d₁ : List ℕ = b ∷ bytes_of o w₁ u in
    let d₂ : List ℕ = d₁ ++ bytes_of o w₂ v in
    let n₁ : length d₁ ≡ 1 + w₁ = ap suc (length_bytes o w₁ u) ∙ omega arith in
    let n₂ : length d₂ ≡ 1 + w₁ + w₂ = length-append d₁ (bytes_of o w₂ v) ∙ omega (arith, length_bytes o w₂ v) in
    rw (
      set_split s 0 b (omega arith),
      written_next o (b ∷ []) s 1 w₁ u refl (omega arith),
      written_next o d₁ s (1 + w₁) w₂ v n₁ (omega arith),
      written_next o d₂ s (1 + w₁ + w₂) w₃ w n₂ h,
    )
    (ap (λ (l : List ℕ). l ++ drop (1 + w₁ + w₂ + w₃) s) (append_assoc d₁ (bytes_of o w₂ v) (bytes_of o w₃ w)))

-- the triplet as the code writes it, step by step
pub encoded_by : (o : Order) (t : Ids) (s s₁ s₂ s₃ : List ℕ) (b w₁ w₂ : ℕ) → size_of t ≤ length s
    → b ≡ type_byte (code_for t.id) (code_for t.tile) (code_for t.other) → w₁ ≡ width_for t.id → w₂ ≡ width_for t.tile
    → s₁ ≡ written o (set s 0 b) 1 (width_for t.id) t.id
    → s₂ ≡ written o s₁ (1 + w₁) (width_for t.tile) t.tile
    → s₃ ≡ written o s₂ (1 + w₁ + w₂) (width_for t.other) t.other
    → s₃ ≡ encoded o t ++ drop (size_of t) s
unfolding encoded form size_of width_for
encoded_by o t s s₁ s₂ s₃ b w₁ w₂ h e f g x y z =
    rw (z, y, x, f, g, e) (laid o s _ (width_for t.id) (width_for t.tile) (width_for t.other) t.id t.tile t.other h)

-- the tests in order: each refuses where the earlier ones pass, and without a refusal the bytes are written
module _ (len at : ℕ) (t : Ids) where
  pub no_part : (r : Refusal) → refused_at bad_triplet (found (lowest (part_too_large t) 3)) ≡ Err r → Err r ≡ written_of len at t
  unfolding written_of first located
  no_part r = by (lowest (part_too_large t) 3) refl
    where
      by : (p : ℕ) → lowest (part_too_large t) 3 ≡ p → refused_at bad_triplet (found p) ≡ Err r → Err r ≡ written_of len at t
      by zero e h = let no : ⊥ = cc in absurd no
      by (suc p) e h = let q : refusal bad_triplet (suc p) ≡ r = cc in rw (← q, e, ne_eqb (suc p) 0 (λ z. omega arith))

  pub parts : refused_at bad_triplet (found (lowest (part_too_large t) 3)) ≡ Ok tt → lowest (part_too_large t) 3 ≡ 0
  parts = by (lowest (part_too_large t) 3)
    where
      by : (p : ℕ) → refused_at bad_triplet (found p) ≡ Ok tt → p ≡ 0
      by zero h = refl
      by (suc p) h = let no : ⊥ = cc in absurd no

  pub no_place : lowest (part_too_large t) 3 ≡ 0 → len < at → Err (refusal no_such_place at) ≡ written_of len at t
  unfolding written_of first located
  no_place e h = rw (e, lt-ltb len at h)

  pub no_room : lowest (part_too_large t) 3 ≡ 0 → at ≤ len → len < at + size_of t
      → Err (refusal too_short (at + size_of t)) ≡ written_of len at t
  unfolding written_of first located
  no_room e h r = rw (e, le-ltb len at h, lt-ltb len (at + size_of t) r)

  pub writes : lowest (part_too_large t) 3 ≡ 0 → at + size_of t ≤ len → Ok (size_of t) ≡ written_of len at t
  unfolding written_of first located
  writes e r = rw (e, le-ltb len at (omega arith), le-ltb len (at + size_of t) r)
