-- "Accepted when all of these hold, tested in order, lowest row or side first": the tests, and the answer.
use Rattle.std.specs.Prelude.{Bool, cond, not, ◌&&◌, ◌||◌, List, [], ◌∷◌, ℕ, pred, ◌+◌, eqb, ltb, length, Ok, Err}
use Rattle.laws.specs.Lowest.{lowest}
use Rattle.laws.specs.Sums.{hits}
use Rattle.laws.specs.Orbit.{entry, first_taken, first_unmet, first_doubled}
use Rattle.laws.specs.Buffer.{front}
use Rattle.laws.specs.Marks.{zeros, owner_at}
use Rattle.refusal.specs.declared.Refusal.{Refusal}
use Rattle.refusal.specs.Order.{Answer, answered, refusal, fine, refused_if, located, lowest_of, first_of}
use Rattle.refusal.specs.Kinds.{number_of}
use Rattle.side.specs.Edges.{Edges, outside}
use Rattle.side.specs.Successor.{Successor, successor, after}
use Rattle.limits.specs.Limits.{most_rows}
use Rattle.tile.specs.Columns.{Tile, E, F, R, N, sides, start_side, empty_start}

-- 15: "tile slices of one table unequal"
unfoldable pub slices_unequal : Tile → Bool
slices_unequal t =
    not (eqb (length t.edg.end_node) (E t)) || (not (eqb (length t.edg.right_face) (E t)) || (not (eqb (length t.edg.left_face) (E t))
    || (not (eqb (length t.edg.right_edge) (E t)) || (not (eqb (length t.edg.left_edge) (E t)) || not (eqb (length t.start_edge) (R t))))))

-- 15: "over 1,000,000 rows"
unfoldable pub too_many_rows : Tile → Bool
too_many_rows t = ltb most_rows (E t) || (ltb most_rows (F t) || (ltb most_rows (R t) || ltb most_rows (N t)))

-- 15: "tile slices of one table unequal", "over 1,000,000 rows", "F or R zero"
unfoldable pub sizes_wrong : Tile → Bool
sizes_wrong t = slices_unequal t || (too_many_rows t || (eqb (F t) 0 || eqb (R t) 0))

-- 20, 21, 22: row e of two columns has a number that is none of 1..most
abbrev pub row_outside : ℕ → List ℕ → List ℕ → ℕ → Bool
row_outside most a b e = outside most (entry a e) || outside most (entry b e)

abbrev pub node_outside : Tile → ℕ → Bool
node_outside t = row_outside (N t) t.edg.start_node t.edg.end_node

abbrev pub face_outside : Tile → ℕ → Bool
face_outside t = row_outside (F t) t.edg.right_face t.edg.left_face

abbrev pub link_outside : Tile → ℕ → Bool
link_outside t = row_outside (E t) t.edg.right_edge t.edg.left_edge

-- 23, 24, 25: what is wrong at a side
abbrev pub refused_side : ℕ → Successor → Refusal
refused_side s (Ok u) = fine
refused_side s (Err k) = refusal (number_of k) s

abbrev pub edge_side_refusal : Edges → ℕ → Refusal
edge_side_refusal t s = refused_side s (successor t s)

abbrev pub side_refusal : Tile → ℕ → Refusal
side_refusal t = edge_side_refusal t.edg

-- 27: "each node's first_edge in 1..E and touching it"
abbrev pub edge_away : List ℕ → List ℕ → ℕ → ℕ → Bool
edge_away start_node end_node n e = outside (length start_node) e || (not (eqb (entry start_node e) n) && not (eqb (entry end_node e) n))

abbrev pub first_edge_wrong : Tile → ℕ → Bool
first_edge_wrong t n = edge_away t.edg.start_node t.edg.end_node n (entry t.first_edge n)

-- 28: "every ring's face in 1..F"
abbrev pub entry_outside : ℕ → List ℕ → ℕ → Bool
entry_outside most a r = outside most (entry a r)

abbrev pub ring_face_outside : Tile → ℕ → Bool
ring_face_outside t = entry_outside (F t) t.fac_id

-- 28: "for each face its ring rows": how many ring rows have the face f
abbrev pub ring_rows : List ℕ → ℕ → ℕ
ring_rows fac_id f = hits (entry fac_id) (length fac_id) f

-- one of the n rows from row p on does not have the face f
abbrev pub rows_broken : List ℕ → ℕ → ℕ → ℕ → Bool
rows_broken fac_id f p n = ltb 0 (lowest (λ j. not (eqb (entry fac_id (p + pred j)) f)) n)

-- 28: ".. being exactly one unbroken run that starts at its ring_ptr" fails: the face has no ring row, or as many rows from its
-- ring_ptr on are not all its own; no row is at 0 or past the end, so a ring_ptr that names none fails too
abbrev pub run_broken : List ℕ → List ℕ → ℕ → Bool
run_broken ring_ptr fac_id f = eqb (ring_rows fac_id f) 0 || rows_broken fac_id f (entry ring_ptr f) (ring_rows fac_id f)

abbrev pub run_wrong : Tile → ℕ → Bool
run_wrong t = run_broken t.ring_ptr t.fac_id

-- 29: a start that is neither a side with the ring's face nor the allowed 0
abbrev pub start_wrong : Tile → ℕ → Bool
start_wrong t r = not (empty_start t r) && eqb (start_side t r) 0

-- the tests in document 01's order; `space` is the length of the lent owner marks. 30, 31 and the owners go by the rings' start sides: a ring
-- without a start edge has none, 0, and "owns no side" (document 02, No. 1)
abbrev pub tests : Tile → ℕ → List Refusal
tests t space =
    refused_if (sizes_wrong t) 15 0
    ∷ refused_if (ltb space (sides t)) 14 (sides t)
    ∷ located 20 (lowest (node_outside t) (E t))
    ∷ located 21 (lowest (face_outside t) (E t))
    ∷ located 22 (lowest (link_outside t) (E t))
    ∷ lowest_of (side_refusal t) (sides t)
    ∷ located 26 (first_doubled (after t.edg) (sides t))
    ∷ located 27 (lowest (first_edge_wrong t) (N t))
    ∷ located 28 (lowest (ring_face_outside t) (R t))
    ∷ located 28 (lowest (run_wrong t) (F t))
    ∷ located 29 (lowest (start_wrong t) (R t))
    ∷ located 30 (first_taken (after t.edg) (sides t) (start_side t) (R t))
    ∷ located 31 (first_unmet (after t.edg) (sides t) (start_side t) (R t))
    ∷ []

unfoldable pub verdict : Tile → ℕ → Refusal
verdict t space = first_of (tests t space)

-- accepted, or the refusal
abbrev pub Verdict : Type 0
Verdict = Answer

-- THE CHECK
abbrev pub verdict_of : Tile → ℕ → Verdict
verdict_of t space = answered (verdict t space)

-- "On acceptance the owner marks hold the ring row of each side, side 1 first; space beyond 2E is unchanged." "Check refusals
-- 20 to 31 set the first 2E marks to zero. Every other refusal changes no lent byte."
unfoldable pub marks_left : Tile → Refusal → List ℕ → List ℕ
marks_left t q d =
    cond (eqb q.number 0) (front (owner_at (after t.edg) (sides t) (start_side t) (R t)) (sides t) d)
    (cond (ltb q.number 20) d (front zeros (sides t) d))

abbrev pub marks_after : Tile → List ℕ → List ℕ
marks_after t d = marks_left t (verdict t (length d)) d
