-- `lt` orders the finite floats, with a tie only between equal numbers. Stated of the values, and so at each width.
use mathlib.Core.Path.{◌≡◌, refl, sym, ap, ap₂, ◌∙◌}
use mathlib.Core.Logic.{inl, inr}
use mathlib.Core.Bool.{Bool, true, false, false≢true}
use Prim.Native.Nat.{ℕ, ◌+◌, ◌*◌, ◌<◌}
use native.Mathlib.Omega.{arith}
use native.Mathlib.Nat.{mul-lt-mul_of_pos_right, mul-le-mul_right, mul_right_comm, add-mul, zero-mul}
use lib.Dec.{ltb}
use lib.Ieee.{Float, nan, inf, fin, lt, below, up, down}
use lib.Ieee.Fits.{down_pos}
use lib.Ieee.Scale.{finite}
use borrow.Author.Tests.{lt-ltb, le-ltb, ltb-true, ltb-false}
use Rattle.laws.specs.Foremost.{Ordered}
use Rattle.laws.proofs.LowestLaws.{bool_cases}

abbrev pub Finite : Float → Type 0
Finite x = finite x ≡ true

-- ---- a test keeps its answer where both sides are scaled
scale : (a b c : ℕ) → 0 < c → ltb (a * c) (b * c) ≡ ltb a b
scale a b c p =
    bool_cases (ltb a b)
    (λ e. lt-ltb (a * c) (b * c) (mul-lt-mul_of_pos_right (ltb-true a b e) p) ∙ sym e)
    (λ e. le-ltb (a * c) (b * c) (mul-le-mul_right c (ltb-false a b e)) ∙ sym e)

below_scale : (s t : Bool) (a b c : ℕ) → 0 < c → below s (a * c) t (b * c) ≡ below s a t b
below_scale false false a b c p = scale a b c p
below_scale false true a b c p = refl
below_scale true false a b c p = rw (← add-mul a b c) (rw (zero-mul c) at (scale 0 (a + b) c p))
below_scale true true a b c p = scale b a c p

-- ---- on one scale: what is not below r stands above all that is
between : (s t u : Bool) (x r y : ℕ) → below s x t r ≡ true → below u y t r ≡ false → below s x u y ≡ true
between false false false x r y e g = lt-ltb x y (omega (arith, ltb-true x r e, ltb-false y r g))
between false false true x r y e g = let z : ⊥ = omega (arith, ltb-true x r e, ltb-false 0 (y + r) g) in absurd z
between false true u x r y e g = absurd (false≢true e)
between true false false x r y e g = lt-ltb 0 (x + y) (omega (arith, ltb-true 0 (x + r) e, ltb-false y r g))
between true false true x r y e g = lt-ltb y x (omega (arith, ltb-true 0 (x + r) e, ltb-false 0 (y + r) g))
between true true false x r y e g = lt-ltb 0 (x + y) (omega (arith, ltb-true r x e))
between true true true x r y e g = lt-ltb y x (omega (arith, ltb-true r x e, ltb-false r y g))

below_asym : (s t : Bool) (a b : ℕ) → below s a t b ≡ true → below t b s a ≡ false
below_asym false false a b e = le-ltb b a (omega (arith, ltb-true a b e))
below_asym false true a b e = absurd (false≢true e)
below_asym true false a b e = refl
below_asym true true a b e = le-ltb a b (omega (arith, ltb-true b a e))

-- ---- of finite floats
above : (x r y : Float) → Finite x → Finite y → Finite r → lt x r ≡ true → lt y r ≡ false → lt x y ≡ true
unfolding lt
above nan r y p q o e g = absurd (false≢true p)
above (inf s) r y p q o e g = absurd (false≢true p)
above (fin s m b) nan y p q o e g = absurd (false≢true o)
above (fin s m b) (inf t) y p q o e g = absurd (false≢true o)
above (fin s m b) (fin t n d) nan p q o e g = absurd (false≢true q)
above (fin s m b) (fin t n d) (inf u) p q o e g = absurd (false≢true q)
above (fin s m b) (fin t n d) (fin u k c) p q o e g =
    sym (below_scale s u (m * up b * down c) (k * up c * down b) (down d) (down_pos d))
    ∙ (ap (λ (j : ℕ). below s j u (k * up c * down b * down d)) (mul_right_comm (m * up b) (down c) (down d))
    ∙ between s t u (m * up b * down d * down c) (n * up d * down b * down c) (k * up c * down b * down d)
    (below_scale s t (m * up b * down d) (n * up d * down b) (down c) (down_pos c) ∙ e)
    (ap₂ (λ (i j : ℕ). below u i t j) (mul_right_comm (k * up c) (down b) (down d)) (mul_right_comm (n * up d) (down b) (down c))
    ∙ (below_scale u t (k * up c * down d) (n * up d * down c) (down b) (down_pos b) ∙ g)))

asym : (x y : Float) → Finite x → Finite y → lt x y ≡ true → lt y x ≡ false
unfolding lt
asym nan y p q e = absurd (false≢true p)
asym (inf s) y p q e = absurd (false≢true p)
asym (fin s m d) nan p q e = absurd (false≢true q)
asym (fin s m d) (inf t) p q e = absurd (false≢true q)
asym (fin s m d) (fin t n c) p q e = below_asym s t (m * up d * down c) (n * up c * down d) e

-- THE FINITE FLOATS ARE ORDERED BY `lt`
pub ordered : Ordered lt Finite
ordered = record {
  asymmetric = asym;
  splits = λ a b c x y z e. bool_cases (lt b c) (λ h. inr h) (λ h. inl (above a c b x y z e h));
}
