-- A list with a run of it stored anew, and a part of a slice that was lent and came back.
use mathlib.Core.Path.{◌≡◌, refl, ◌∙◌}
use mathlib.Core.List.{List, [], ◌∷◌, ◌++◌, append-nil, append_assoc}
use Prim.Native.Nat.{ℕ, suc, ◌+◌, ◌-◌, ◌≤◌, ◌<◌}
use native.Mathlib.Omega.{arith}
use native.Mathlib.Nat.{le_refl}
use lib.ListN.{length, get_or, take, drop, set, length-drop, drop_of_length-le}
use lib.Seq.{sets, sets-eq, take_all, get_or-set_other}

-- the list with vs from the place `at` on
pub stored_run : (vs l : List ℕ) (at : ℕ) → at + length vs ≤ length l → sets l at vs ≡ take at l ++ (vs ++ drop (at + length vs) l)
stored_run vs l at h = sets-eq vs l at h ∙ append_assoc (take at l) vs (drop (at + length vs) l)

-- a run of stores changes no other element
pub sets_other : (vs l : List ℕ) (at j : ℕ) → (at ≤ j → j < at + length vs → ⊥) → get_or (sets l at vs) j 0 ≡ get_or l j 0
sets_other [] l at j out = refl
sets_other (v ∷ vs) l at j out =
    sets_other vs (set l at v) (suc at) j (λ a b. out (omega arith) (omega arith))
    ∙ get_or-set_other l at j v 0 (λ e. out (omega arith) (omega arith))

-- a part `&mut xs[at..]` that came back as f of what it was: what stands before it stays
pub lent_from : (f : List ℕ → List ℕ) (at : ℕ) (xs ys : List ℕ) → ys ≡ f (take (length xs - at) (drop at xs))
    → take at xs ++ (ys ++ drop (length xs - at) (drop at xs)) ≡ take at xs ++ f (drop at xs)
lent_from f at xs ys e =
    let n : length (drop at xs) ≤ length xs - at = rw (length-drop at xs) (le_refl (length xs - at)) in
    rw (e, take_all (length xs - at) (drop at xs) n, drop_of_length-le (drop at xs) n, append-nil (f (drop at xs)))
