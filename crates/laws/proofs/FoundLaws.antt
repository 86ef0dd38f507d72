-- A search that answers an option, where the definition has 0 for none.
use Rattle.std.specs.Prelude.{Option, Some, None as Nothing}
use mathlib.Core.Path.{◌≡◌, refl}
use mathlib.Core.Bool.{Bool, true}
use Prim.Native.Nat.{ℕ, zero, suc, ◌+◌, ◌<◌}
use native.Mathlib.Omega.{arith}
use native.Mathlib.Numerals.{add-one}
use Rattle.laws.specs.Lowest.{found, lowest, None}
use Rattle.laws.proofs.LowestLaws.{lowest_next, lowest_nothing}
use Rattle.laws.proofs.TestLaws.{clash}

pub some_found : (x k : ℕ) → found x ≡ Some k → (k ≡ x) × (0 < k)
some_found zero k e = clash (cc)
some_found (suc x) k e = let q : k ≡ suc x = cc in (q, omega (arith, q))

pub none_found : (x : ℕ) → found x ≡ Nothing → x ≡ 0
none_found zero e = refl
none_found (suc x) e = clash (cc)

-- none of the first k passes: the next one does, or there is no other
pub found_next : (p : ℕ → Bool) (n k : ℕ) → k < n → None p k → p (suc k) ≡ true → Some (k + 1) ≡ found (lowest p n)
found_next p n k l h e = rw (← lowest_next p n k l h e, add-one k)

pub found_nothing : (p : ℕ → Bool) (n : ℕ) → None p n → Nothing ≡ found (lowest p n)
found_nothing p n h = rw (lowest_nothing p n h)

pub not_some : (o : Option ℕ) → ((x : ℕ) → o ≡ Some x → ⊥) → o ≡ Nothing
not_some (Some x) h = absurd (h x refl)
not_some Nothing h = refl
