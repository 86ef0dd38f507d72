-- "A walk from ring row r first tests 15, 13, 29, then at each move 22 to 25, and writes side numbers, start side first."
use Rattle.std.specs.Prelude.{cond, List, ℕ, zero, suc, eqb, ltb, Result, Ok, Err}
use Rattle.laws.specs.Sums.{sum}
use Rattle.laws.specs.Orbit.{iterate, row_moves}
use Rattle.laws.specs.Buffer.{listed, front}
use Rattle.refusal.specs.declared.Refusal.{Refusal}
use Rattle.refusal.specs.Order.{refusal}
use Rattle.refusal.specs.Kinds.{number_of}
use Rattle.side.specs.Edges.{Edges, side_count, outside, edge_of}
use Rattle.side.specs.Successor.{Successor, successor, after}
use Rattle.tile.specs.Columns.{Tile, R, sides, start_side}
use Rattle.tile.specs.Check.{sizes_wrong, start_wrong}

-- the number of steps, or the refusal
abbrev pub Walked : Type 0
Walked = Result ℕ Refusal

-- what the moves from a start side come to: back after so many of them, no return, or one that cannot be made
pub data Moves : Type 0 where
  came_back : ℕ → Moves
  still_open : Moves
  stuck : Refusal → Moves

-- a move that cannot be made: 22 at the edge row, 23 to 25 at the side
abbrev pub stuck_at : ℕ → ℕ → Refusal
stuck_at n s = refusal n (cond (eqb n 22) (edge_of s) s)

abbrev pub on_move : ℕ → Successor → (ℕ → Moves) → Moves
on_move s (Ok u) g = g u
on_move s (Err k) g = stuck (stuck_at (number_of k) s)

-- from the side s, k moves after the start a, with `fuel` moves left
abbrev pub moves_from : Edges → ℕ → ℕ → ℕ → ℕ → Moves
moves_from t a zero s k = still_open
moves_from t a (suc fuel) s k = on_move s (successor t s) (λ u. cond (eqb u a) (came_back (suc k)) (moves_from t a fuel u (suc k)))

-- "The number of steps reported is the number of successor moves until the start side returns", in at most 2E moves
unfoldable pub moves : Edges → ℕ → Moves
moves t a = moves_from t a (side_count t) a 0

-- "With no return in 2E moves it gives 32; a short output gives 14 last."
abbrev pub walked : ℕ → ℕ → Moves → Walked
walked r space (came_back k) = cond (ltb space k) (Err (refusal 14 k)) (Ok k)
walked r space still_open = Err (refusal 32 r)
walked r space (stuck q) = Err q

-- THE WALK. "The empty ring has 0 steps.": the ring without a start edge
unfoldable pub walk_of : Tile → ℕ → ℕ → Walked
walk_of t r space =
    cond (sizes_wrong t) (Err (refusal 15 0))
    (cond (outside (R t) r) (Err (refusal 13 r))
    (cond (start_wrong t r) (Err (refusal 29 r))
    (cond (eqb (start_side t r) 0) (Ok 0)
    (walked r space (moves t.edg (start_side t r))))))

-- the side after i moves from the start of ring row r
abbrev pub side_after : Tile → ℕ → ℕ → ℕ
side_after t r i = iterate (after t.edg) i (start_side t r)

-- "Space beyond the steps is unchanged"; a refusal changes nothing
abbrev pub sides_written : Tile → ℕ → Walked → List ℕ → List ℕ
sides_written t r (Ok k) d = front (side_after t r) k d
sides_written t r (Err q) d = d

-- the reported steps of a walk, its answer: none of one that is refused
abbrev pub steps_of : Walked → ℕ
steps_of (Ok k) = k
steps_of (Err q) = 0

-- "The reported steps of all rings": of the ring rows 1..n together, each walked into an output of so much space
abbrev pub all_steps : Tile → ℕ → ℕ → ℕ
all_steps t space n = sum (λ r. steps_of (walk_of t r space)) n

-- the steps of ring row r, none where it has no start side, and the list of its sides, start side first
abbrev pub ring_steps : Tile → ℕ → ℕ
ring_steps t = row_moves (after t.edg) (sides t) (start_side t)

abbrev pub ring_sides : Tile → ℕ → List ℕ
ring_sides t r = listed (side_after t r) (ring_steps t r)
