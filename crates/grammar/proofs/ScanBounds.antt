-- The counts of a scan are never past the bytes that it has read, so no sum of them wraps.
use mathlib.Core.Path.{◌≡◌, refl}
use mathlib.Core.List.{List}
use lib.ListN.{length}
use Rattle.laws.specs.Machine.{End, ended, stuck, run}
use Rattle.laws.proofs.MachineLaws.{stuck_within}
use mathlib.Core.Bool.{Bool, true, false, cond}
use Prim.Native.Nat.{ℕ, ◌+◌, ◌≤◌}
use native.Mathlib.Omega.{arith}
use Rattle.grammar.specs.Fields.{rule}
use Rattle.grammar.specs.Scan.{takes, closes, ends, stars, lacks_comma, columns_after, Move, move, machine, start, finish, answer, scan_of}
use Rattle.grammar.specs.declared.Special.{Special}
use Rattle.grammar.specs.declared.Special.TheVariants.{Usual, ColumnsMayEnd, StarMayStand, ColonMayStand, ColumnIsWhole, TextIsWhole}
use Rattle.grammar.specs.declared.Spot.{Spot}
use Rattle.std.specs.Prelude.{Some, None}
use Rattle.std.specs.Prelude.{Err}

-- what holds of a spot after at most i bytes
pub record Bound (i : ℕ) (s : Spot) : Type 0 where
  pub n : s.n ≤ i
  pub cols : s.cols ≤ i

abbrev pub BoundMove : ℕ → Move → Type 0
BoundMove i (Some s) = Bound i s
BoundMove i None = Unit {0}

-- what holds of both sides holds of the choice
either {ℓ} : {A : Type ℓ} (P : A → Type 0) (b : Bool) {x y : A} → P x → P y → P (cond b x y)
either P true p q = p
either P false p q = q

one_more : (k : Special) (cols i : ℕ) → cols ≤ i → columns_after k cols ≤ i + 1
one_more Usual cols i h = omega arith
one_more ColumnsMayEnd cols i h = omega arith
one_more StarMayStand cols i h = omega arith
one_more ColonMayStand cols i h = omega arith
one_more ColumnIsWhole cols i h = omega arith
one_more TextIsWhole cols i h = omega arith

pub bound_move : (i : ℕ) (s : Spot) (b : ℕ) → Bound i s → BoundMove (i + 1) (move s b)
unfolding move
bound_move i s b h =
    either (BoundMove (i + 1)) (takes s.field s.n b) (omega arith)
    (either (BoundMove (i + 1)) (closes s.field s.n b)
    (record { n = omega arith; cols = one_more (rule s.field).special s.cols i h.cols })
    (either (BoundMove (i + 1)) (ends (rule s.field).special s.n s.cols b) (omega arith)
    (either (BoundMove (i + 1)) (stars (rule s.field).special s.n b) (omega arith)
    (either (BoundMove (i + 1)) (lacks_comma (rule s.field).special s.n b) (omega arith) tt))))

-- a bad byte is a place of the text, or its length
finish_within : (n : ℕ) (k : Special) (cols i : ℕ) → finish n k cols ≡ Err i → i ≤ n
finish_within n Usual cols i e = let h : i ≡ n = cc in omega arith
finish_within n ColumnsMayEnd cols i e = let h : i ≡ n = cc in omega arith
finish_within n StarMayStand cols i e = let h : i ≡ n = cc in omega arith
finish_within n ColonMayStand cols i e = let h : i ≡ n = cc in omega arith
finish_within n ColumnIsWhole cols i e = let h : i ≡ n = cc in omega arith
finish_within n TextIsWhole cols i e = let z : ◌≡◌ {A = ℕ} 0 1 = cc in absurd (omega (arith, z))

answer_within : (s : List ℕ) (x : End Spot) (i : ℕ) → run machine s start 0 ≡ x → answer (length s) x ≡ Err i → i ≤ length s
answer_within s (ended at) i q e = finish_within (length s) (rule at.field).special at.cols i e
answer_within s (stuck j) i q e = let h : j ≡ i = cc in omega (arith, stuck_within machine s start 0 j q)

pub bad_within : (s : List ℕ) (i : ℕ) → scan_of s ≡ Err i → i ≤ length s
unfolding scan_of
bad_within s i e = answer_within s (run machine s start 0) i refl e
