-- DEMAND 3: "In an accepted tile, the walk from each ring row, given room for its list, comes back to its first side without meeting
-- any side twice, in no more than twice the edge count. Every edge side lies on exactly one ring's walk, and that ring bears the
-- side's face. The reported steps of all rings add up to exactly twice the number of edges. A tile without edges has one empty ring
-- and a sum of zero." Document 02, No. 1: "Such a ring has 0 steps and owns no side .. Demand 3 then speaks of the rings with a start
-- edge, and the sum stays twice the edge count."
use Rattle.std.specs.Prelude.{◌≡◌, List, [], ◌++◌, ℕ, suc, ◌≤◌, ◌<◌, length, drop, Ok}
use Rattle.laws.specs.Lowest.{In, Each}
use Rattle.laws.specs.Sums.{sum}
use Rattle.laws.specs.Orbit.{entry}
use Rattle.side.specs.Edges.{face}
use Rattle.side.specs.Successor.{successor}
use Rattle.tile.specs.Columns.{Tile, E, R, sides, start_side}
use Rattle.tile.specs.Check.{marks_after}
use Rattle.tile.specs.Walk.{walk_of, sides_written, all_steps, ring_steps, ring_sides}
use Rattle.facts.specs.Facts.{HasStart}

-- "comes back to its first side without meeting any side twice, in no more than twice the edge count": the list starts with the
-- ring's start side, each next is the successor of the one before, the successor of the last is the first, and no side stands twice
pub record Closed (t : Tile) (r : ℕ) (l : List ℕ) : Type 0 where
  pub some : 0 < length l
  pub first : entry l 1 ≡ start_side t r
  pub next : (i : ℕ) → 0 < i → i < length l → successor t.edg (entry l i) ≡ Ok (entry l (suc i))
  pub back : successor t.edg (entry l (length l)) ≡ Ok (entry l 1)
  pub once : (i j : ℕ) → In (length l) i → In (length l) j → entry l i ≡ entry l j → i ≡ j
  pub at_most : length l ≤ sides t

-- "the walk from each ring row, given room for its list": into any lent output that has the room it answers with the list's length
-- and writes the list, and the rest is as it was; the list of a ring with a start edge is closed
pub record Walks (t : Tile) (r : ℕ) : Type 0 where
  pub given_room : (out : List ℕ) → length (ring_sides t r) ≤ length out
      → (walk_of t r (length out) ≡ Ok (length (ring_sides t r)))
      × (sides_written t r (walk_of t r (length out)) out ≡ ring_sides t r ++ drop (length (ring_sides t r)) out)
  pub closed : HasStart t r → Closed t r (ring_sides t r)

-- side s stands on the list of ring row r
abbrev pub Stands : Tile → ℕ → ℕ → Type 0
Stands t r s = (i : ℕ) × In (length (ring_sides t r)) i × (entry (ring_sides t r) i ≡ s)

-- "Every edge side lies on exactly one ring's walk, and that ring bears the side's face"; it has a start edge, and is the side's owner mark
pub record OneRing (t : Tile) (marks : List ℕ) (s : ℕ) : Type 0 where
  pub ring : ℕ
  pub within : In (R t) ring
  pub has_start : HasStart t ring
  pub stands : Stands t ring s
  pub only : (q : ℕ) → In (R t) q → Stands t q s → q ≡ ring
  pub bears : entry t.fac_id ring ≡ face t.edg s
  pub marked : entry (marks_after t marks) s ≡ ring

-- "Such a ring has 0 steps and owns no side": a ring row without a start edge, of which there is none but row 1, for face 1
pub record NoStart (t : Tile) (marks : List ℕ) (r : ℕ) : Type 0 where
  pub row_one : r ≡ 1
  pub face_one : entry t.fac_id r ≡ 1
  pub no_steps : (space : ℕ) → walk_of t r space ≡ Ok 0
  pub no_sides : ring_sides t r ≡ []
  pub owns_none : (s : ℕ) → In (sides t) s → entry (marks_after t marks) s ≡ r → ⊥

-- "A tile without edges has one empty ring and a sum of zero.": what the above comes to there
pub record OneEmptyRing (t : Tile) : Type 0 where
  pub one_ring : R t ≡ 1
  pub no_start : entry t.start_edge 1 ≡ 0
  pub no_sides : ring_sides t 1 ≡ []
  pub sum_zero : (space : ℕ) → all_steps t space (R t) ≡ 0

pub record Demand3 (t : Tile) (marks : List ℕ) : Type 0 where
  pub walks : Each (R t) (Walks t)
  pub without_start : (r : ℕ) → In (R t) r → entry t.start_edge r ≡ 0 → NoStart t marks r
  pub sides_owned : Each (sides t) (OneRing t marks)
  -- "The reported steps of all rings", each given room, "add up to exactly twice the number of edges"; and so do their lists' lengths
  pub adds_up : (space : ℕ) → sides t ≤ space → all_steps t space (R t) ≡ sides t
  pub lists_add_up : sum (ring_steps t) (R t) ≡ sides t
  pub empty : E t ≡ 0 → OneEmptyRing t
