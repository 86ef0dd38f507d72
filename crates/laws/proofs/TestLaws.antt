-- What a test says in words where it is false ("nothing is wrong"), for tests joined by "or" and "and".
use mathlib.Core.Path.{◌≡◌, refl, sym}
use mathlib.Core.Logic.{◌↔◌, ◌⊎◌, inl, inr, ⊎_elim}
use mathlib.Core.Bool.{Bool, true, false, cond, not, ◌&&◌, ◌||◌, true≢false}
use Prim.Native.Nat.{ℕ, ◌≤◌, ◌<◌}
use native.Mathlib.Omega.{arith}
use borrow.Author.Tests.{eqb-true, eqb-false, eq-eqb, ne_eqb, le-ltb, ltb-false}
use lib.Dec.{eqb, ltb}

-- ---- joined
pub or_false : {P Q : Type 0} (a b : Bool) → (a ≡ false) ↔ P → (b ≡ false) ↔ Q → (a || b ≡ false) ↔ (P × Q)
or_false true b f g = (λ e. absurd (true≢false e), λ h. f.1 h.0)
or_false false b f g = (λ e. (f.0 refl, g.0 e), λ h. g.1 h.1)

pub and_false : {P Q : Type 0} (a b : Bool) → (a ≡ false) ↔ P → (b ≡ false) ↔ Q → (a && b ≡ false) ↔ (P ⊎ Q)
and_false true b f g = (λ e. inr (g.0 e), ⊎_elim (λ p. absurd (true≢false (f.1 p))) g.1)
and_false false b f g = (λ e. inl (f.0 refl), λ h. refl)

pub and_true : {P Q : Type 0} (a b : Bool) → (a ≡ true) ↔ P → (b ≡ true) ↔ Q → (a && b ≡ true) ↔ (P × Q)
and_true true b f g = (λ e. (f.0 refl, g.0 e), λ h. g.1 h.1)
and_true false b f g = (λ e. absurd (true≢false (sym e)), λ h. f.1 h.0)

pub denied : {P : Type 0} (a : Bool) → (a ≡ true) ↔ P → (not a ≡ false) ↔ P
denied true f = (λ e. f.0 refl, λ h. refl)
denied false f = (λ e. absurd (true≢false e), λ h. absurd (true≢false (sym (f.1 h))))

pub refuted : {P : Type 0} (a : Bool) → (a ≡ true) ↔ P → (a ≡ false) ↔ (P → ⊥)
refuted true f = (λ e. absurd (true≢false e), λ h. absurd (h (f.0 refl)))
refuted false f = (λ e p. true≢false (sym (f.1 p)), λ h. refl)

-- ---- of numbers
pub equal : (x y : ℕ) → (eqb x y ≡ true) ↔ (x ≡ y)
equal x y = (eqb-true x y, eq-eqb x y)

pub not_unequal : (x y : ℕ) → (not (eqb x y) ≡ false) ↔ (x ≡ y)
not_unequal x y = denied (eqb x y) (equal x y)

pub nonzero : (x : ℕ) → (eqb x 0 ≡ false) ↔ (0 < x)
nonzero x = (λ e. let z = eqb-false x 0 e in omega arith, λ h. ne_eqb x 0 (λ e. omega arith))

pub not_above : (most x : ℕ) → (ltb most x ≡ false) ↔ (x ≤ most)
not_above most x = (ltb-false most x, le-ltb most x)

-- ---- asked one after the other
-- both, where the second is asked only if the first holds
pub both_true : (x y : Bool) → cond x y false ≡ true → (x ≡ true) × (y ≡ true)
both_true true y e = (refl, e)
both_true false y e = absurd (true≢false (sym e))

-- the second, where the first does not hold
pub neither_true : (x y : Bool) → cond x false y ≡ true → (x ≡ false) × (y ≡ true)
neither_true true y e = absurd (true≢false (sym e))
neither_true false y e = (refl, e)

-- neither, where either one decides
pub both_false : (x y : Bool) → cond x true y ≡ false → (x ≡ false) × (y ≡ false)
both_false true y e = absurd (true≢false e)
both_false false y e = (refl, e)

-- nothing is wrong: the first holds, and the second test, asked only then, finds nothing wrong; and where the second is asked only if
-- the first does not hold
pub wrong_unless : {P Q : Type 0} (x y : Bool) → (x ≡ true) ↔ P → (y ≡ false) ↔ Q → (cond x y true ≡ false) ↔ (P × Q)
wrong_unless true y f g = (λ e. (f.0 refl, g.0 e), λ h. g.1 h.1)
wrong_unless false y f g = (λ e. absurd (true≢false e), λ h. absurd (true≢false (sym (f.1 h.0))))

pub wrong_else : {P Q : Type 0} (x y : Bool) → (x ≡ true) ↔ P → (y ≡ false) ↔ Q → (cond x false y ≡ false) ↔ (P ⊎ Q)
wrong_else true y f g = (λ e. inl (f.0 refl), λ h. refl)
wrong_else false y f g = (λ e. inr (g.0 e), ⊎_elim (λ p. absurd (true≢false (sym (f.1 p)))) g.1)

pub cond_same : {A : Type 0} (x : Bool) (y : A) → cond x y y ≡ y
cond_same true y = refl
cond_same false y = refl

-- 0 and 1 differ: what an equation of two constructors comes to
pub clash : {A : Type 0} → ◌≡◌ {A = ℕ} 0 1 → A
clash e = let z : ⊥ = omega arith in absurd z
