-- The laws of codes, widths and the type byte.
use mathlib.Core.Path.{◌≡◌, refl, ◌∙◌}
use mathlib.Core.Bool.{Bool, true, false, cond}
use Prim.Native.Nat.{ℕ, zero, suc, ◌+◌, ◌*◌, ◌/◌, ◌%◌, ◌^◌, ◌≤◌, ◌<◌}
use native.Mathlib.Omega.{arith}
use native.Mathlib.Nat.{div-add-mod', div-div-eq-div-mul, mod-eq_of_lt, mul-add-mod_self_right}
use lib.Dec.{ltb, eqb}
use borrow.Author.Tests.{eqb-false, ltb-false}
use Rattle.std.proofs.lemmas.Bool.Decides.{nat_tests}
use Rattle.triplet.specs.Triplet.{largest_part, absent, width_of, id_code, tile_code, other_code, reserved_bits}
use Rattle.triplet.specs.Written.{past_one_byte, past_two_bytes, code_for, width_for, type_byte}
use Rattle.triplet.specs.Words.{Holds}

-- a code says at most four bytes
pub width_most : (c : ℕ) → c < 4 → width_of c ≤ 4
width_most c l = grind (arith, nat_tests)

-- the shortest form holds the part
pub shortest_holds : (v : ℕ) → v ≤ largest_part → Holds (code_for v) v
shortest_holds v m = record { code = grind (arith, nat_tests); fits = grind (arith, nat_tests) }

-- and no form that holds it is shorter
pub shortest_least : (v c : ℕ) → Holds c v → width_for v ≤ width_of c
unfolding width_for
shortest_least v c h = go (eqb v absent) (ltb v past_one_byte) (ltb v past_two_bytes) refl refl refl c h.code h.fits
  where
    go : (x y z : Bool) → eqb v absent ≡ x → ltb v past_one_byte ≡ y → ltb v past_two_bytes ≡ z → (c : ℕ) → c < 4 → v < 256 ^ width_of c
        → width_of (cond x 0 (cond y 1 (cond z 2 3))) ≤ width_of c
    go true y z e f g c l h = omega arith
    go false y z e f g zero l h = absurd (eqb-false v absent e (omega arith))
    go false true z e f g (suc zero) l h = omega arith
    go false true z e f g (suc (suc zero)) l h = omega arith
    go false true z e f g (suc (suc (suc zero))) l h = omega arith
    go false false z e f g (suc zero) l h = absurd (omega (arith, ltb-false v past_one_byte f))
    go false false true e f g (suc (suc zero)) l h = omega arith
    go false false true e f g (suc (suc (suc zero))) l h = omega arith
    go false false false e f g (suc (suc zero)) l h = absurd (omega (arith, ltb-false v past_two_bytes g))
    go false false false e f g (suc (suc (suc zero))) l h = omega arith
    go false y z e f g (suc (suc (suc (suc c)))) l h = absurd (omega arith)

-- the type byte made of three codes says those codes, and bits 1-0 are zero
last : {n : ℕ} (m c : ℕ) → c < 4 → n ≡ m * 4 + c → n % 4 ≡ c
last m c l e = rw e (mul-add-mod_self_right m 4 c ∙ mod-eq_of_lt l)

module _ (c₁ c₂ c₃ : ℕ) (l₁ : c₁ < 4) (l₂ : c₂ < 4) (l₃ : c₃ < 4) where
  pub type_id : id_code (type_byte c₁ c₂ c₃) ≡ c₁
  type_id = last 0 c₁ l₁ (omega arith)

  pub type_tile : tile_code (type_byte c₁ c₂ c₃) ≡ c₂
  type_tile = last c₁ c₂ l₂ (omega arith)

  pub type_other : other_code (type_byte c₁ c₂ c₃) ≡ c₃
  type_other = last (c₁ * 4 + c₂) c₃ l₃ (omega arith)

  pub type_reserved : reserved_bits (type_byte c₁ c₂ c₃) ≡ 0
  type_reserved = omega arith

-- every byte whose bits 1-0 are zero is such a type byte
pub type_again : (b : ℕ) → b < 256 → reserved_bits b ≡ 0 → type_byte (id_code b) (tile_code b) (other_code b) ≡ b
type_again b l e =
    let x : b / 16 / 4 ≡ b / 64 = div-div-eq-div-mul b 16 4 in
    let y : b / 4 / 4 ≡ b / 16 = div-div-eq-div-mul b 4 4 in
    let u : b / 64 % 4 ≡ b / 64 = mod-eq_of_lt (omega arith) in
    omega (arith, div-add-mod' b 4, div-add-mod' (b / 4) 4, div-add-mod' (b / 16) 4)
