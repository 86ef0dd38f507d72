-- The steps of ring rows, added up.
use Rattle.std.specs.Prelude.{Err, Ok}
use Rattle.tile.specs.Walk.{Walked}
use mathlib.Core.Path.{◌≡◌, refl, ◌∙◌}
use mathlib.Core.Bool.{Bool, true, false, cond}
use Prim.Native.Nat.{ℕ, suc, ◌+◌, ◌≤◌}
use native.Mathlib.Omega.{arith}
use native.Mathlib.Numerals.{add-one}
use borrow.Author.Tests.{ltb-false}
use lib.Dec.{eqb, ltb}
use Rattle.laws.proofs.LowestLaws.{bool_cases}
use Rattle.refusal.specs.Order.{refusal}
use Rattle.side.specs.Edges as side
use Rattle.tile.specs.Walk.{Moves, came_back, still_open, stuck}
use Rattle.tile.specs.Columns.{Tile, R, start_side}
use Rattle.tile.specs.Check.{sizes_wrong, start_wrong}
use Rattle.tile.specs.Walk as walk
use Rattle.tile.specs.Walk.{steps_of, all_steps}

-- ---- a walk answers with no more steps than it has space for

either : (space : ℕ) (b : Bool) (x y : Walked) → steps_of x ≤ space → steps_of y ≤ space → steps_of (cond b x y) ≤ space
either space true x y u v = u
either space false x y u v = v

moves_within : (r space : ℕ) (m : Moves) → steps_of (walk.walked r space m) ≤ space
moves_within r space (came_back k) = bool_cases (ltb space k) (λ t. rw t (omega arith)) (λ t. rw t (omega (arith, ltb-false space k t)))
moves_within r space still_open = omega arith
moves_within r space (stuck q) = omega arith

pub steps_within : (t : Tile) (r space : ℕ) → steps_of (walk.walk_of t r space) ≤ space
unfolding walk.walk_of
steps_within t r space =
    either space (sizes_wrong t) (Err (refusal 15 0)) _ (omega arith)
    (either space (side.outside (R t) r) (Err (refusal 13 r)) _ (omega arith)
    (either space (start_wrong t r) (Err (refusal 29 r)) _ (omega arith)
    (either space (eqb (start_side t r) 0) (Ok 0) _ (omega arith) (moves_within r space (walk.moves t.edg (start_side t r))))))

-- ---- a turn of a loop over the ring rows

pub steps_next : (t : Tile) (space given i all row steps : ℕ) (w : Walked) → all ≡ all_steps t space i → row ≡ i + 1
    → given ≡ space → w ≡ walk.walk_of t row given
    → steps ≡ steps_of w → all + steps ≡ all_steps t space row
steps_next t space given i all row steps w a b c d e =
    let q : row ≡ suc i = b ∙ add-one i in
    rw (a, e, d, c, q) refl

pub steps_few : (t : Tile) (given row steps : ℕ) (w : Walked) → w ≡ walk.walk_of t row given → steps ≡ steps_of w → steps ≤ given
steps_few t given row steps w d e = rw (e, d) (steps_within t row given)
