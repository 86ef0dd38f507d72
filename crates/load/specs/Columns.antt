-- The ten columns that a tile is loaded into, in the order of their places.
use Rattle.std.specs.Prelude.{List, [], ◌∷◌, ℕ, length}

pub record Columns : Type 0 where
  pub start_node : List ℕ
  pub end_node : List ℕ
  pub right_face : List ℕ
  pub left_face : List ℕ
  pub right_edge : List ℕ
  pub left_edge : List ℕ
  pub ring_ptr : List ℕ
  pub fac_id : List ℕ
  pub start_edge : List ℕ
  pub first_edge : List ℕ

abbrev pub columns : List ℕ → List ℕ → List ℕ → List ℕ → List ℕ → List ℕ → List ℕ → List ℕ → List ℕ → List ℕ → Columns
columns start_node end_node right_face left_face right_edge left_edge ring_ptr fac_id start_edge first_edge =
    record {
      start_node = start_node;
      end_node = end_node;
      right_face = right_face;
      left_face = left_face;
      right_edge = right_edge;
      left_edge = left_edge;
      ring_ptr = ring_ptr;
      fac_id = fac_id;
      start_edge = start_edge;
      first_edge = first_edge;
    }

-- how long each is
abbrev pub lengths : Columns → List ℕ
lengths l =
    length l.start_node ∷ length l.end_node ∷ length l.right_face ∷ length l.left_face ∷ length l.right_edge ∷ length l.left_edge
    ∷ length l.ring_ptr ∷ length l.fac_id ∷ length l.start_edge ∷ length l.first_edge ∷ []
