-- A tile as ten columns of numbers. Rows count from 1; 0 stands for none.
use Rattle.std.specs.Prelude.{Bool, cond, ◌&&◌, List, ℕ, ◌*◌, eqb, length}
use Rattle.laws.specs.Orbit.{entry}
use Rattle.side.specs.Edges.{Edges, edge_count, outside, right, left}

pub record Tile : Type 0 where
  pub edg : Edges
  pub ring_ptr : List ℕ
  pub fac_id : List ℕ
  pub start_edge : List ℕ
  pub first_edge : List ℕ

abbrev pub tile : Edges → List ℕ → List ℕ → List ℕ → List ℕ → Tile
tile edg ring_ptr fac_id start_edge first_edge = record { edg = edg; ring_ptr = ring_ptr; fac_id = fac_id; start_edge = start_edge; first_edge = first_edge }

-- "E edges, F faces, R rings, N nodes"
abbrev pub E : Tile → ℕ
E t = edge_count t.edg

abbrev pub F : Tile → ℕ
F t = length t.ring_ptr

abbrev pub R : Tile → ℕ
R t = length t.fac_id

abbrev pub N : Tile → ℕ
N t = length t.first_edge

abbrev pub sides : Tile → ℕ
sides t = 2 * E t

-- "The start side is the one with the ring's face; if both have it, the right one."
-- Of the edge e, of `edge_rows` with these faces: 0 where e is none of 1..E or neither side has the face f
abbrev pub side_with : ℕ → List ℕ → List ℕ → ℕ → ℕ → ℕ
side_with edge_rows right_face left_face f e =
    cond (outside edge_rows e) 0
    (cond (eqb (entry right_face e) f) (right e)
    (cond (eqb (entry left_face e) f) (left e) 0))

-- "Ring rows name a face and a start edge."
unfoldable pub start_side : Tile → ℕ → ℕ
start_side t r = side_with (E t) t.edg.right_face t.edg.left_face (entry t.fac_id r) (entry t.start_edge r)

-- Document 02, No. 1, in place of 01's "Start 0 is allowed only in the one ring of a tile with E = 0 and F = 1.": "Accept start 0 in ring row
-- 1 when its face is 1, whatever E is. .. Elsewhere 0 stays refusal 29." Of ring row r, with the face f and the start edge e
abbrev pub empty_allowed : ℕ → ℕ → ℕ → Bool
empty_allowed r f e = eqb e 0 && (eqb r 1 && eqb f 1)

unfoldable pub empty_start : Tile → ℕ → Bool
empty_start t r = empty_allowed r (entry t.fac_id r) (entry t.start_edge r)
