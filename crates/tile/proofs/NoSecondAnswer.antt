-- NO SECOND ANSWER FITS. The contracts of `check` and `walk` are equations for the answer and for the lent buffer at exit, with
-- nothing required; so two answers with their buffers that both fit are the same.
use mathlib.Core.Path.{◌≡◌, sym, ◌∙◌}
use mathlib.Core.List.{List}
use Prim.Native.Nat.{ℕ}
use lib.ListN.{length}
use Rattle.tile.specs.Columns.{Tile}
use Rattle.tile.specs.Check.{Verdict, verdict_of, marks_after}
use Rattle.tile.specs.Walk.{Walked, walk_of, sides_written}

-- the answer r, and the buffer m left of the lent d
abbrev pub FitsCheck : Tile → List ℕ → Verdict → List ℕ → Type 0
FitsCheck t d r m = (r ≡ verdict_of t (length d)) × (m ≡ marks_after t d)

abbrev pub FitsWalk : Tile → ℕ → List ℕ → Walked → List ℕ → Type 0
FitsWalk t row d r m = (r ≡ walk_of t row (length d)) × (m ≡ sides_written t row (walk_of t row (length d)) d)

one_of : {A B : Type 0} {a : A} {b : B} (r s : A) (m n : B) → (r ≡ a) × (m ≡ b) → (s ≡ a) × (n ≡ b) → (r ≡ s) × (m ≡ n)
one_of r s m n p q = (p.0 ∙ sym q.0, p.1 ∙ sym q.1)

pub one_check : (t : Tile) (d : List ℕ) (r s : Verdict) (m n : List ℕ) → FitsCheck t d r m → FitsCheck t d s n → (r ≡ s) × (m ≡ n)
one_check t d r s m n = one_of r s m n

pub one_walk : (t : Tile) (row : ℕ) (d : List ℕ) (r s : Walked) (m n : List ℕ) → FitsWalk t row d r m → FitsWalk t row d s n → (r ≡ s) × (m ≡ n)
one_walk t row d r s m n = one_of r s m n
