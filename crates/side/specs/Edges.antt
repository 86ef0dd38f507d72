-- "Edge e has two sides: right is number 2e-1, left is 2e." Rows and sides count from 1; 0 is none.
use Rattle.std.specs.Prelude.{Bool, cond, ◌||◌, List, ℕ, ◌+◌, ◌*◌, ◌-◌, ◌/◌, ◌%◌, eqb, ltb, length}
use Rattle.laws.specs.Orbit.{entry}

-- the six columns of the edge table that a tile has
pub record Edges : Type 0 where
  pub start_node : List ℕ
  pub end_node : List ℕ
  pub right_face : List ℕ
  pub left_face : List ℕ
  pub right_edge : List ℕ
  pub left_edge : List ℕ

abbrev pub edges : List ℕ → List ℕ → List ℕ → List ℕ → List ℕ → List ℕ → Edges
edges sn en rf lf re le = record { start_node = sn; end_node = en; right_face = rf; left_face = lf; right_edge = re; left_edge = le }

-- x is none of 1..most
abbrev pub outside : ℕ → ℕ → Bool
outside most x = eqb x 0 || ltb most x

-- E
abbrev pub edge_count : Edges → ℕ
edge_count t = length t.start_node

abbrev pub side_count : Edges → ℕ
side_count t = 2 * edge_count t

-- the sides of an edge, and the edge of a side
abbrev pub right : ℕ → ℕ
right e = 2 * e - 1

abbrev pub left : ℕ → ℕ
left e = 2 * e

abbrev pub edge_of : ℕ → ℕ
edge_of s = s / 2 + s % 2

-- r of a right side, l of a left side
abbrev pub by_side : ℕ → ℕ → ℕ → ℕ
by_side s r l = cond (eqb (s % 2) 1) r l

-- "The right side has right_face, runs to end_node and continues on right_edge;
-- the left side has left_face, runs to start_node and continues on left_edge"
abbrev pub face : Edges → ℕ → ℕ
face t s = by_side s (entry t.right_face (edge_of s)) (entry t.left_face (edge_of s))

abbrev pub runs_to : Edges → ℕ → ℕ
runs_to t s = by_side s (entry t.end_node (edge_of s)) (entry t.start_node (edge_of s))

abbrev pub link : Edges → ℕ → ℕ
link t s = by_side s (entry t.right_edge (edge_of s)) (entry t.left_edge (edge_of s))

-- where a side leaves from: the right one from the start node, the left one from the end node
abbrev pub leaves_from : Edges → ℕ → ℕ
leaves_from t s = by_side s (entry t.start_node (edge_of s)) (entry t.end_node (edge_of s))
