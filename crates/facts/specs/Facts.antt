-- The listed facts about nodes, faces, edges and rings, in the paper's words; and what each refusal says.
use Rattle.std.specs.Prelude.{◌≡◌, ◌⊎◌, ℕ, ◌≤◌, ◌<◌, length}
use Rattle.laws.specs.Lowest.{In, Each, LowestFailing}
use Rattle.laws.specs.Orbit.{entry, iterate}
use Rattle.laws.specs.Runs.{OneRunFrom}
use Rattle.side.specs.Edges.{right, left, edge_of, face}
use Rattle.side.specs.Successor.{Follows, Fault, after}
use Rattle.limits.specs.Limits.{most_rows}
use Rattle.tile.specs.Columns.{Tile, E, F, R, N, sides, start_side}

-- "sizes (15)"
pub record Sizes (t : Tile) : Type 0 where
  pub end_node : length t.edg.end_node ≡ E t
  pub right-face : length t.edg.right_face ≡ E t
  pub left-face : length t.edg.left_face ≡ E t
  pub right_edge : length t.edg.right_edge ≡ E t
  pub left_edge : length t.edg.left_edge ≡ E t
  pub start_edge : length t.start_edge ≡ R t
  pub edge_rows : E t ≤ most_rows
  pub face_rows : In most_rows (F t)
  pub ring_rows : In most_rows (R t)
  pub node_rows : N t ≤ most_rows

-- "nodes in 1..N (20), faces in 1..F (21), links in 1..E (22)", at edge row e
abbrev pub NodesIn : Tile → ℕ → Type 0
NodesIn t e = In (N t) (entry t.edg.start_node e) × In (N t) (entry t.edg.end_node e)

abbrev pub FacesIn : Tile → ℕ → Type 0
FacesIn t e = In (F t) (entry t.edg.right_face e) × In (F t) (entry t.edg.left_face e)

abbrev pub LinksIn : Tile → ℕ → Type 0
LinksIn t e = In (E t) (entry t.edg.right_edge e) × In (E t) (entry t.edg.left_edge e)

-- "a successor at every side (23, 24, 25)"
abbrev pub Succeeded : Tile → ℕ → Type 0
Succeeded t s = (u : ℕ) × Follows t.edg s u

-- "exactly one predecessor of every side (26)", and 26's "more than one predecessor" denied
pub record OnePredecessor (t : Tile) (s : ℕ) : Type 0 where
  pub predecessor : ℕ
  pub within : In (sides t) predecessor
  pub precedes : after t.edg predecessor ≡ s
  pub only : (q : ℕ) → In (sides t) q → after t.edg q ≡ s → q ≡ predecessor

abbrev pub NoTwoPredecessors : Tile → ℕ → Type 0
NoTwoPredecessors t s = (p q : ℕ) → In (sides t) p → In (sides t) q → after t.edg p ≡ s → after t.edg q ≡ s → p ≡ q

-- "each node's first_edge in 1..E and touching it (27)"
pub record FirstEdgeTouches (t : Tile) (n : ℕ) : Type 0 where
  pub within : In (E t) (entry t.first_edge n)
  pub touches : (entry t.edg.start_node (entry t.first_edge n) ≡ n) ⊎ (entry t.edg.end_node (entry t.first_edge n) ≡ n)

-- "every ring's face in 1..F"
abbrev pub RingFaceIn : Tile → ℕ → Type 0
RingFaceIn t r = In (F t) (entry t.fac_id r)

-- "for each face its ring rows being exactly one unbroken run that starts at its ring_ptr (28)": the rows of the column fac_id that hold
-- the face
abbrev pub OneRun : Tile → ℕ → Type 0
OneRun t f = OneRunFrom t.fac_id f (entry t.ring_ptr f)

-- "every start (29)": the allowed 0, or an edge of which a side has the ring's face. The allowed 0, after document 02, No. 1: "Accept start 0
-- in ring row 1 when its face is 1, whatever E is. .. Elsewhere 0 stays refusal 29."
pub record EmptyRing (t : Tile) (r : ℕ) : Type 0 where
  pub no_start : entry t.start_edge r ≡ 0
  pub row_one : r ≡ 1
  pub face_one : entry t.fac_id r ≡ 1

pub record StartsOnSide (t : Tile) (r : ℕ) : Type 0 where
  pub within : In (E t) (entry t.start_edge r)
  pub bears : (face t.edg (right (entry t.start_edge r)) ≡ entry t.fac_id r) ⊎ (face t.edg (left (entry t.start_edge r)) ≡ entry t.fac_id r)

-- "The start side is the one with the ring's face; if both have it, the right one.": s is the start side of ring row r
pub record StartSideIs (t : Tile) (r s : ℕ) : Type 0 where
  pub within : In (E t) (entry t.start_edge r)
  pub of_edge : edge_of s ≡ entry t.start_edge r
  pub bears : face t.edg s ≡ entry t.fac_id r
  pub right_one : face t.edg (right (entry t.start_edge r)) ≡ entry t.fac_id r → s ≡ right (entry t.start_edge r)

abbrev pub StartRight : Tile → ℕ → Type 0
StartRight t r = EmptyRing t r ⊎ StartsOnSide t r

-- "the rings with a start edge" (document 02, No. 1)
abbrev pub HasStart : Tile → ℕ → Type 0
HasStart t r = 0 < entry t.start_edge r

-- ring row q has a start edge, and some number of moves from its start side comes to the side s: the cycle that the ring names has it
pub record Reaches (t : Tile) (q s : ℕ) : Type 0 where
  pub has_start : HasStart t q
  pub moves : ℕ
  pub comes_to : iterate (after t.edg) moves (start_side t q) ≡ s

-- "no cycle named by two rings (30)": no earlier ring's cycle has the start of ring row r
abbrev pub NotNamedBefore : Tile → ℕ → Type 0
NotNamedBefore t r = (q : ℕ) → 0 < q → q < r → Reaches t q (start_side t r) → ⊥

-- "every side on a ring's cycle (31)"
abbrev pub OnARing : Tile → ℕ → Type 0
OnARing t s = (r : ℕ) × In (R t) r × Reaches t r s

-- A TILE IS ACCEPTED EXACTLY WHEN these hold
pub record Facts (t : Tile) (space : ℕ) : Type 0 where
  pub sizes : Sizes t
  pub owner_space : sides t ≤ space
  pub nodes : Each (E t) (NodesIn t)
  pub faces : Each (E t) (FacesIn t)
  pub links : Each (E t) (LinksIn t)
  pub successors : Each (sides t) (Succeeded t)
  pub predecessors : Each (sides t) (OnePredecessor t)
  pub first_edges : Each (N t) (FirstEdgeTouches t)
  pub ring_faces : Each (R t) (RingFaceIn t)
  pub runs : Each (F t) (OneRun t)
  pub starts : Each (R t) (StartRight t)
  pub not_named_twice : Each (R t) (NotNamedBefore t)
  pub covered : Each (sides t) (OnARing t)

-- ---- the tests by name, in document 01's order
pub data Test : Type 0 where
  sizes : Test
  owner_space : Test
  nodes : Test
  faces : Test
  links : Test
  successors : Test
  predecessors : Test
  first_edges : Test
  ring_faces : Test
  runs : Test
  starts : Test
  not_named_twice : Test
  covered : Test

-- the place of each test in the order
abbrev pub rank : Test → ℕ
rank sizes = 0
rank owner_space = 1
rank nodes = 2
rank faces = 3
rank links = 4
rank successors = 5
rank predecessors = 6
rank first_edges = 7
rank ring_faces = 8
rank runs = 9
rank starts = 10
rank not_named_twice = 11
rank covered = 12

-- what each test asks
abbrev pub Holds : Tile → ℕ → Test → Type 0
Holds t space sizes = Sizes t
Holds t space owner_space = sides t ≤ space
Holds t space nodes = Each (E t) (NodesIn t)
Holds t space faces = Each (E t) (FacesIn t)
Holds t space links = Each (E t) (LinksIn t)
Holds t space successors = Each (sides t) (Succeeded t)
Holds t space predecessors = Each (sides t) (OnePredecessor t)
Holds t space first_edges = Each (N t) (FirstEdgeTouches t)
Holds t space ring_faces = Each (R t) (RingFaceIn t)
Holds t space runs = Each (F t) (OneRun t)
Holds t space starts = Each (R t) (StartRight t)
Holds t space not_named_twice = Each (R t) (NotNamedBefore t)
Holds t space covered = Each (sides t) (OnARing t)

-- this test fails, with the number n at the place p: the lowest row or side at which it does
abbrev pub FailsAt : Tile → ℕ → Test → ℕ → ℕ → Type 0
FailsAt t space sizes n p = (n ≡ 15) × (p ≡ 0) × (Sizes t → ⊥)
FailsAt t space owner_space n p = (n ≡ 14) × (p ≡ sides t) × (space < sides t)
FailsAt t space nodes n p = (n ≡ 20) × LowestFailing (E t) (NodesIn t) p
FailsAt t space faces n p = (n ≡ 21) × LowestFailing (E t) (FacesIn t) p
FailsAt t space links n p = (n ≡ 22) × LowestFailing (E t) (LinksIn t) p
FailsAt t space successors n p = Fault t.edg p n × LowestFailing (sides t) (Succeeded t) p
FailsAt t space predecessors n p = (n ≡ 26) × LowestFailing (sides t) (NoTwoPredecessors t) p
FailsAt t space first_edges n p = (n ≡ 27) × LowestFailing (N t) (FirstEdgeTouches t) p
FailsAt t space ring_faces n p = (n ≡ 28) × LowestFailing (R t) (RingFaceIn t) p
FailsAt t space runs n p = (n ≡ 28) × LowestFailing (F t) (OneRun t) p
FailsAt t space starts n p = (n ≡ 29) × LowestFailing (R t) (StartRight t) p
FailsAt t space not_named_twice n p = (n ≡ 30) × LowestFailing (R t) (NotNamedBefore t) p
FailsAt t space covered n p = (n ≡ 31) × LowestFailing (sides t) (OnARing t) p

-- A TILE IS REFUSED WITH n AT p EXACTLY WHEN a test fails so and all earlier ones hold
pub record RefusedWith (t : Tile) (space n p : ℕ) : Type 0 where
  pub test : Test
  pub earlier : (x : Test) → rank x < rank test → Holds t space x
  pub fails : FailsAt t space test n p
