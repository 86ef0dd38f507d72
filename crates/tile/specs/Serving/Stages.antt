-- The list of tests in parts, each as one function of the code makes it: the list of `Check` is these parts joined.
use Rattle.std.specs.Prelude.{◌≡◌, Bool, cond, not, ◌&&◌, ◌||◌, List, [], ◌∷◌, ◌++◌, ℕ, zero, suc, pred, min, eqb, ltb, length, Option, Some, None, Ok, Err}
use Rattle.laws.specs.Lowest.{lowest}
use Rattle.laws.specs.Buffer.{front}
use Rattle.laws.specs.Marks.{zeros, count, painted, owner_at}
use Rattle.laws.specs.Orbit.{entry, iterate, first_taken, first_unmet, first_doubled}
use Rattle.refusal.specs.declared.Refusal.{Refusal}
use Rattle.refusal.specs.Order.{refusal, fine, located, lowest_of}
use Rattle.side.specs.Edges.{Edges, edge_count, side_count}
use Rattle.side.specs.Successor.{after}
use Rattle.tile.specs.Columns.{Tile, F, R, N, sides, start_side}
use Rattle.tile.specs.Walk.{Walked, Moves, came_back, still_open, stuck}
use Rattle.tile.specs.Check.{row_outside, edge_side_refusal, first_edge_wrong, ring_face_outside, run_wrong, start_wrong}

-- 23 to 25: what is wrong at the lowest side at which something is
abbrev pub refused_at_side : Edges → Refusal
refused_at_side t = lowest_of (edge_side_refusal t) (side_count t)

-- 20 to 25: the rows and the sides of the edge table, in a tile with so many faces and nodes
unfoldable pub edge_tests : Edges → ℕ → ℕ → List Refusal
edge_tests t faces nodes =
    located 20 (lowest (row_outside nodes t.start_node t.end_node) (edge_count t))
    ∷ located 21 (lowest (row_outside faces t.right_face t.left_face) (edge_count t))
    ∷ located 22 (lowest (row_outside (edge_count t) t.right_edge t.left_edge) (edge_count t))
    ∷ refused_at_side t
    ∷ []

-- the marks where none of these refuses: each side's predecessors, up to two
abbrev pub predecessors_counted : Edges → List ℕ → List ℕ
predecessors_counted t d = front (count (after t) (side_count t)) (side_count t) d

-- 26: the lowest side with more than one predecessor, or 0
abbrev pub doubled_side : Edges → ℕ
doubled_side t = first_doubled (after t) (side_count t)

-- 23 to 26 pass: each side is on a cycle, so that the rings' cycles can be painted
abbrev pub Paintable : Tile → Type 0
Paintable t = (refused_at_side t.edg ≡ fine) × (doubled_side t.edg ≡ 0)

-- the marks after the sides of the cycle from a start are painted with the row
abbrev pub cycle_painted : Edges → ℕ → ℕ → List ℕ → List ℕ
cycle_painted t start row d = front (painted (after t) d start row (side_count t)) (side_count t) d

-- 27 to 29: the first edges, the rings' faces, the faces' runs and the rings' starts
unfoldable pub ring_tests : Tile → List Refusal
ring_tests t =
    located 27 (lowest (first_edge_wrong t) (N t))
    ∷ located 28 (lowest (ring_face_outside t) (R t))
    ∷ located 28 (lowest (run_wrong t) (F t))
    ∷ located 29 (lowest (start_wrong t) (R t))
    ∷ []

-- 28 in linear time, without scratch. Ring row r begins a run of rows of one face, and the face's ring_ptr names another row
abbrev pub begins_elsewhere : List ℕ → List ℕ → ℕ → Bool
begins_elsewhere ring_ptr fac_id r = not (eqb (entry fac_id (pred r)) (entry fac_id r)) && not (eqb (entry ring_ptr (entry fac_id r)) r)

-- the row that the ring_ptr of the face f names is not the face's
abbrev pub points_away : List ℕ → List ℕ → ℕ → Bool
points_away ring_ptr fac_id f = not (eqb (entry fac_id (entry ring_ptr f)) f)

-- either of the two: for each face it is `run_broken` (proofs/RunLaws.antt)
abbrev pub run_not_at_pointer : List ℕ → List ℕ → ℕ → Bool
run_not_at_pointer ring_ptr fac_id f =
    points_away ring_ptr fac_id f || ltb 0 (lowest (λ r. eqb (entry fac_id r) f && begins_elsewhere ring_ptr fac_id r) (length fac_id))

-- the smaller of two, if both are there
abbrev pub lesser_of : Option ℕ → Option ℕ → Option ℕ
lesser_of (Some a) (Some b) = Some (min a b)
lesser_of (Some a) None = Some a
lesser_of None b = b

-- 30: the lowest ring row whose start is on the cycle of one before, or 0
abbrev pub taken_ring : Tile → ℕ
taken_ring t = first_taken (after t.edg) (sides t) (start_side t) (R t)

-- the ring rows that are painted: those before the first that is taken, or all
abbrev pub rows_painted : ℕ → ℕ → ℕ
rows_painted zero rows = rows
rows_painted (suc r) rows = r

-- 30 and 31: the rings' cycles
unfoldable pub owner_tests : Tile → List Refusal
owner_tests t =
    located 30 (taken_ring t)
    ∷ located 31 (first_unmet (after t.edg) (sides t) (start_side t) (R t))
    ∷ []

-- the owner marks after the rings are painted, on a refusal too
unfoldable pub owners_painted : Tile → List ℕ → List ℕ
owners_painted t d = front (owner_at (after t.edg) (sides t) (start_side t) (rows_painted (taken_ring t) (R t))) (sides t) d

-- 20 to 31: what is tested once the sizes and the owner space are right
abbrev pub after_edges : Tile → List Refusal
after_edges t = located 26 (doubled_side t.edg) ∷ (ring_tests t ++ owner_tests t)

unfoldable pub later_tests : Tile → List Refusal
later_tests t = edge_tests t.edg (F t) (N t) ++ after_edges t

-- the marks where none of these refuses: the owners
abbrev pub owners_left : Tile → List ℕ → List ℕ
owners_left t d = front (owner_at (after t.edg) (sides t) (start_side t) (R t)) (sides t) d

-- the marks after these tests: the owners, or zeros where one refuses
unfoldable pub marks_judged : Tile → Refusal → List ℕ → List ℕ
marks_judged t q d = cond (eqb q.number 0) (owners_left t d) (front zeros (sides t) d)

-- what the moves come to as a walk of ring row r whose output has room
abbrev pub in_full : ℕ → Moves → Walked
in_full r (came_back k) = Ok k
in_full r still_open = Err (refusal 32 r)
in_full r (stuck q) = Err q

-- the output after a walk from the side a: the sides of the steps, and nothing on a refusal
abbrev pub path_written : Edges → ℕ → Walked → List ℕ → List ℕ
path_written t a (Ok k) d = front (λ i. iterate (after t) i a) k d
path_written t a (Err q) d = d
