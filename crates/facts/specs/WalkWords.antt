-- THE WALK IN WORDS, of any tile, accepted or not: "A walk from ring row r first tests 15, 13, 29, then at each move 22 to 25, and
-- writes side numbers, start side first. The number of steps reported is the number of successor moves until the start side
-- returns. With no return in 2E moves it gives 32; a short output gives 14 last. Space beyond the steps is unchanged. The empty
-- ring has 0 steps."
use Rattle.std.specs.Prelude.{◌≡◌, List, ℕ, suc, ◌≤◌, ◌<◌, length}
use Rattle.laws.specs.Lowest.{In}
use Rattle.laws.specs.Orbit.{entry}
use Rattle.side.specs.Edges.{Edges, side_count, edge_of}
use Rattle.side.specs.Successor.{LinkIn, Follows, Fault}
use Rattle.tile.specs.Columns.{Tile, R}
use Rattle.facts.specs.Facts.{Sizes, EmptyRing, StartSideIs, StartRight}

-- k successor moves from the side a: `path i` is the side after i of them, each follows the one before, and a does not return
-- before the last move
pub record Path (t : Edges) (a k : ℕ) (path : ℕ → ℕ) : Type 0 where
  pub starts : path 0 ≡ a
  pub moves : (i : ℕ) → i < k → Follows t (path i) (path (suc i))
  pub not_yet : (i : ℕ) → 0 < i → i < k → path i ≡ a → ⊥

-- "the number of successor moves until the start side returns": k, at most 2E
pub record FirstReturn (t : Edges) (a k : ℕ) : Type 0 where
  pub some : 0 < k
  pub at_most : k ≤ side_count t
  pub path : ℕ → ℕ
  pub walked : Path t a k path
  pub back : path k ≡ a

-- the walk from a has come to the side s after k moves, without a return, and there are moves left
pub record Reached (t : Edges) (a k s : ℕ) : Type 0 where
  pub fewer : k < side_count t
  pub path : ℕ → ℕ
  pub walked : Path t a k path
  pub there : path k ≡ s
  pub not_back : 0 < k → s ≡ a → ⊥

-- "no return in 2E moves"
pub record NoReturn (t : Edges) (a : ℕ) : Type 0 where
  pub path : ℕ → ℕ
  pub walked : Path t a (side_count t) path
  pub not_back : path (side_count t) ≡ a → ⊥

-- 15, 13 and 29 pass, and the ring row r has the start side a
pub record Begins (t : Tile) (r a : ℕ) : Type 0 where
  pub sizes : Sizes t
  pub ring : In (R t) r
  pub start : StartSideIs t r a

-- THE WALK IS REFUSED WITH n AT p EXACTLY WHEN one of these holds
pub data WalkRefused (t : Tile) (r space : ℕ) : ℕ → ℕ → Type 0 where
  -- "first tests 15, 13, 29"
  wrong_sizes : (Sizes t → ⊥) → WalkRefused t r space 15 0
  no_such_ring : Sizes t → (In (R t) r → ⊥) → WalkRefused t r space 13 r
  wrong_start : Sizes t → In (R t) r → (StartRight t r → ⊥) → WalkRefused t r space 29 r
  -- "then at each move 22 to 25": 22 at the edge row, 23 to 25 at the side
  outside_link : (a k s : ℕ) → Begins t r a → Reached t.edg a k s → (LinkIn t.edg s → ⊥) → WalkRefused t r space 22 (edge_of s)
  no_successor : (a k s n : ℕ) → Begins t r a → Reached t.edg a k s → LinkIn t.edg s → Fault t.edg s n → WalkRefused t r space n s
  -- "With no return in 2E moves it gives 32; a short output gives 14 last."
  does_not_close : (a : ℕ) → Begins t r a → NoReturn t.edg a → WalkRefused t r space 32 r
  short_output : (a k : ℕ) → Begins t r a → FirstReturn t.edg a k → space < k → WalkRefused t r space 14 k

-- THE WALK ANSWERS WITH k STEPS EXACTLY WHEN one of these holds
pub data WalkAnswered (t : Tile) (r space : ℕ) : ℕ → Type 0 where
  -- "The empty ring has 0 steps."
  empty_ring : Sizes t → In (R t) r → EmptyRing t r → WalkAnswered t r space 0
  returned : (a k : ℕ) → Begins t r a → FirstReturn t.edg a k → k ≤ space → WalkAnswered t r space k

-- what k steps leave of the lent output `out`: the sides of the path, "start side first", and "space beyond the steps is unchanged"
pub record Writes (k : ℕ) (path : ℕ → ℕ) (out left : List ℕ) : Type 0 where
  pub same_length : length left ≡ length out
  pub sides : (i : ℕ) → i < k → entry left (suc i) ≡ path i
  pub beyond : (i : ℕ) → k ≤ i → entry left (suc i) ≡ entry out (suc i)
