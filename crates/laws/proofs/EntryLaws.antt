-- A list read from 1: what a checked index of the code reads.
use mathlib.Core.Path.{◌≡◌, sym, ap}
use mathlib.Core.List.{List, ◌∷◌}
use Prim.Native.Nat.{ℕ, zero, suc, ◌-◌, ◌<◌}
use native.Mathlib.Omega.{arith}
use lib.ListN.{length, get_or, get_or-eq_default}
use Rattle.laws.specs.Orbit.{entry}

pub entry_inside : (l : List ℕ) (s : ℕ) → 0 < s → get_or l (s - 1) 0 ≡ entry l s
entry_inside l zero h = absurd (omega arith)
entry_inside l (suc s) h = ap (λ (k : ℕ). get_or l k 0) {x = suc s - 1} {y = s} (omega arith)

pub entry_past : (l : List ℕ) (s : ℕ) → length l < s → 0 ≡ entry l s
entry_past l s h = sym (get_or-eq_default (0 ∷ l) 0 h)
