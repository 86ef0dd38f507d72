-- A text passed field by field: what is known of the place past a field, and what is left of the scan from there.
use Rattle.std.specs.Prelude.{◌≡◌, Bool, true, false, cond, List, ℕ, ◌+◌, ◌≤◌, ◌<◌, length, get_or, drop, ltb, eqb}
use Rattle.laws.specs.Machine.{run}
use Rattle.grammar.specs.Fields.{allowed}
use Rattle.grammar.specs.Scan.{machine, Scan, answer}
use Rattle.grammar.specs.declared.Class.{Class}
use Rattle.grammar.specs.declared.Spot.{Spot}

-- the scan of s, where it stands in the spot and the bytes from place i on are left
unfoldable pub rest_of : List ℕ → Spot → ℕ → Scan
rest_of s at i = answer (length s) (run machine (drop i s) at i)

-- the byte b stands at place i
unfoldable pub stands : List ℕ → ℕ → ℕ → Bool
stands s i b = cond (ltb i (length s)) (eqb (get_or s i 0) b) false

-- the n bytes from place i on may stand in a field of the class that has at most so many
pub record Run (s : List ℕ) (k : Class) (most i n : ℕ) : Type 0 where
  pub room : n ≤ most
  pub within : i + n ≤ length s
  pub bytes : (j : ℕ) → j < n → allowed k j (get_or s (i + j) 0) ≡ true

-- r is the place past the byte that closes a field, of n bytes from place i on
pub record Shut (s : List ℕ) (i n least closer r : ℕ) : Type 0 where
  pub place : r ≡ i + n + 1
  pub within : r ≤ length s
  pub byte : get_or s (i + n) 0 ≡ closer
  pub enough : least ≤ n

-- from place i to place r the scan comes from one spot to the other, whatever columns it has
pub record Past (s : List ℕ) (i r : ℕ) (before after : ℕ → Spot) : Type 0 where
  pub within : r ≤ length s
  pub further : i < r
  pub same : (cols : ℕ) → rest_of s (before cols) i ≡ rest_of s (after cols) r
