-- A TILE IS ACCEPTED EXACTLY WHEN all of document 01's facts about its nodes, faces, edges and rings hold.
use mathlib.Core.Path.{◌≡◌}
use mathlib.Core.Logic.{⊎_elim}
use Prim.Native.Nat.{ℕ}
use Rattle.std.specs.Prelude.{Ok}
use Rattle.refusal.proofs.AnswerLaws.{ok-fine, answered-fine}
use Rattle.tile.specs.Columns.{Tile}
use Rattle.tile.specs.Check.{verdict, verdict_of}
use Rattle.facts.specs.Facts.{Facts, Test, sizes, owner_space, nodes, faces, links, successors, predecessors, first_edges, ring_faces}
use Rattle.facts.specs.Facts.{runs, starts, not_named_twice, covered, Holds}
use Rattle.facts.proofs.InOrder.{judged, none_refused}

-- the facts are what the thirteen tests ask
module _ (t : Tile) (space : ℕ) where
  all_hold : Facts t space → (x : Test) → Holds t space x
  all_hold h sizes = h.sizes
  all_hold h owner_space = h.owner_space
  all_hold h nodes = h.nodes
  all_hold h faces = h.faces
  all_hold h links = h.links
  all_hold h successors = h.successors
  all_hold h predecessors = h.predecessors
  all_hold h first_edges = h.first_edges
  all_hold h ring_faces = h.ring_faces
  all_hold h runs = h.runs
  all_hold h starts = h.starts
  all_hold h not_named_twice = h.not_named_twice
  all_hold h covered = h.covered

  facts : ((x : Test) → Holds t space x) → Facts t space
  facts h = record {
    sizes = h sizes;
    owner_space = h owner_space;
    nodes = h nodes;
    faces = h faces;
    links = h links;
    successors = h successors;
    predecessors = h predecessors;
    first_edges = h first_edges;
    ring_faces = h ring_faces;
    runs = h runs;
    starts = h starts;
    not_named_twice = h not_named_twice;
    covered = h covered;
  }

  pub accepted : verdict_of t space ≡ Ok tt → Facts t space
  accepted e =
      let z = ok-fine (verdict t space) e in
      ⊎_elim (λ h. facts h.1) (λ h. absurd (h.0 z)) (judged t space)

  pub facts_accepted : Facts t space → verdict_of t space ≡ Ok tt
  facts_accepted h =
      ⊎_elim (λ w. answered-fine (verdict t space) w.0) (λ w. absurd (none_refused t space (all_hold h) _ _ w.1)) (judged t space)
