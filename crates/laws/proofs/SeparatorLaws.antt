-- A text that is cut at the first place of a separator is cut in one way only.
use mathlib.Core.Path.{◌≡◌, refl}
use mathlib.Core.List.{List, [], ◌∷◌, ◌++◌}
use Prim.Native.Nat.{ℕ, zero, suc, ◌<◌}
use native.Mathlib.Omega.{arith}
use lib.ListN.{length, get_or}

-- b is no element of xs
abbrev pub Lacks : ℕ → List ℕ → Type 0
Lacks b xs = (k : ℕ) → k < length xs → get_or xs k 0 ≡ b → ⊥

pub lacks_tail : (b x : ℕ) (xs : List ℕ) → Lacks b (x ∷ xs) → Lacks b xs
lacks_tail b x xs l k h = l (suc k) (omega arith)

pub lacks_both : (b : ℕ) (xs ys : List ℕ) → Lacks b xs → Lacks b ys → Lacks b (xs ++ ys)
lacks_both b [] ys l m k h e = m k h e
lacks_both b (x ∷ xs) ys l m zero h e = l 0 (omega arith) e
lacks_both b (x ∷ xs) ys l m (suc k) h e = lacks_both b xs ys (lacks_tail b x xs l) m k (omega arith) e

-- two texts, one cut at the first a, the other at the first b, neither of which stands in the other's front: cut at one place
pub first_cut : (a b : ℕ) (xs ys u v : List ℕ) → Lacks b xs → Lacks a ys → xs ++ (a ∷ u) ≡ ys ++ (b ∷ v) → (xs ≡ ys) × (a ∷ u ≡ b ∷ v)
first_cut a b [] [] u v l m e = (refl, e)
first_cut a b [] (y ∷ ys) u v l m e = let h : y ≡ a = cc in absurd (m 0 (omega arith) h)
first_cut a b (x ∷ xs) [] u v l m e = let h : x ≡ b = cc in absurd (l 0 (omega arith) h)
first_cut a b (x ∷ xs) (y ∷ ys) u v l m e =
    let h : x ≡ y = cc in
    let t : xs ++ (a ∷ u) ≡ ys ++ (b ∷ v) = cc in
    let r = first_cut a b xs ys u v (lacks_tail b x xs l) (lacks_tail a y ys m) t in
    (rw (h, r.0), r.1)

-- what stands before the first separator, and what stands after it
pub one_cut : (b : ℕ) (xs ys u v : List ℕ) → Lacks b xs → Lacks b ys → xs ++ (b ∷ u) ≡ ys ++ (b ∷ v) → (xs ≡ ys) × (u ≡ v)
one_cut b xs ys u v l m e = let r = first_cut b b xs ys u v l m e in let t = r.1 in (r.0, cc)
