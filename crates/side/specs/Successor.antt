-- "The successor is the side of the linked edge that leaves from that node: right if it is the linked edge's start, left if
-- its end. If the linked edge is a loop there, it is the one side with the present face; any successor must have that face."
use Rattle.std.specs.Prelude.{◌≡◌, Bool, cond, ◌&&◌, List, [], ◌∷◌, ◌++◌, ℕ, ◌≤◌, ◌<◌, eqb, Result, Ok, Err}
use Rattle.laws.specs.Orbit.{entry}
use Rattle.side.specs.Edges.{Edges, edge_count, outside, right, left, edge_of, face, runs_to, link, leaves_from}
use Rattle.refusal.specs.declared.Kind.{Kind}
use Rattle.refusal.specs.declared.Kind.TheVariants.{EdgeOutOfRange, NotTouching, FaceDiffers, LoopOfOneFace}

-- the next side on a walk, or what is wrong at the side
abbrev pub Successor : Type 0
Successor = Result ℕ Kind

-- u where the test holds: a list of one or of none
abbrev pub side_if : Bool → ℕ → List ℕ
side_if holds u = cond holds (u ∷ []) []

-- "the side of the linked edge that leaves from that node: right if it is the linked edge's start, left if its end":
-- of the edge k, with nodes sn and en, the sides that leave from the node v
abbrev pub sides_from : ℕ → ℕ → ℕ → ℕ → List ℕ
sides_from sn en k v = side_if (eqb sn v) (right k) ++ side_if (eqb en v) (left k)

-- "it is the one side with the present face": of these, with faces rf and lf, those that have the face f
abbrev pub sides_from_with : ℕ → ℕ → ℕ → ℕ → ℕ → ℕ → ℕ → List ℕ
sides_from_with sn en rf lf k v f = side_if (eqb sn v && eqb rf f) (right k) ++ side_if (eqb en v && eqb lf f) (left k)

-- "link does not touch; face differs; loop with the face on both sides" (23, 24, 25): no side leaves from the node; none of
-- those that do has the face; two have it; else the one that has it
abbrev pub the_one : List ℕ → List ℕ → Successor
the_one [] having = Err NotTouching
the_one (_ ∷ _) [] = Err FaceDiffers
the_one (_ ∷ _) (u ∷ []) = Ok u
the_one (_ ∷ _) (u ∷ (w ∷ _)) = Err LoopOfOneFace

-- the side of the edge k that leaves from the node v with the face f, or the number of what is wrong
abbrev pub leaving : ℕ → ℕ → ℕ → ℕ → ℕ → ℕ → ℕ → Successor
leaving sn en rf lf k v f = the_one (sides_from sn en k v) (sides_from_with sn en rf lf k v f)

-- the same by the rows of the edge table; 22 where the link is none of 1..E
unfoldable pub leaving_edge : Edges → ℕ → ℕ → ℕ → Successor
leaving_edge t k v f =
    cond (outside (edge_count t) k) (Err EdgeOutOfRange)
    (leaving (entry t.start_node k) (entry t.end_node k) (entry t.right_face k) (entry t.left_face k) k v f)

-- the successor of the side s, or the number of what is wrong there
unfoldable pub successor : Edges → ℕ → Successor
successor t s = leaving_edge t (link t s) (runs_to t s) (face t s)

abbrev pub side_of : Successor → ℕ
side_of (Ok u) = u
side_of (Err n) = 0

-- the successor as a function on sides, 0 where there is none
abbrev pub after : Edges → ℕ → ℕ
after t s = side_of (successor t s)

-- ---- in the paper's words

-- "links in 1..E (22)", at the side s
abbrev pub LinkIn : Edges → ℕ → Type 0
LinkIn t s = (0 < link t s) × (link t s ≤ edge_count t)

-- u is a side of the edge k that leaves from the node v with the face f
pub record Leaves (t : Edges) (k v f u : ℕ) : Type 0 where
  pub linked : edge_of u ≡ k
  pub from : leaves_from t u ≡ v
  pub bears : face t u ≡ f

-- u is the one side of the linked edge that leaves from the node to which s runs, with the face of s
pub record Follows (t : Edges) (s u : ℕ) : Type 0 where
  pub edge : LinkIn t s
  pub leaves : Leaves t (link t s) (runs_to t s) (face t s) u
  pub only : (w : ℕ) → Leaves t (link t s) (runs_to t s) (face t s) w → w ≡ u

-- what is wrong at a side without a successor, the link being one of 1..E
pub data Fault (t : Edges) (s : ℕ) : ℕ → Type 0 where
  no_touch : ((w : ℕ) → edge_of w ≡ link t s → leaves_from t w ≡ runs_to t s → ⊥) → Fault t s 23
  other_face : (w : ℕ) → edge_of w ≡ link t s → leaves_from t w ≡ runs_to t s
      → ((w : ℕ) → Leaves t (link t s) (runs_to t s) (face t s) w → ⊥) → Fault t s 24
  both_sides : Leaves t (link t s) (runs_to t s) (face t s) (right (link t s))
      → Leaves t (link t s) (runs_to t s) (face t s) (left (link t s)) → Fault t s 25
