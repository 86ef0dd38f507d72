-- DEMAND 3
--
-- "In an accepted tile, the walk from each ring row, given room for its list, comes back to its first side without meeting any side twice, in
-- no more than twice the edge count. Every edge side lies on exactly one ring's walk, and that ring bears the side's face. The reported steps
-- of all rings add up to exactly twice the number of edges. A tile without edges has one empty ring and a sum of zero."
--
-- Document 02, No. 1: "Accept start 0 in ring row 1 when its face is 1, whatever E is. Such a ring has 0 steps and owns no side; other rings
-- follow in its face's run. .. Demand 3 then speaks of the rings with a start edge, and the sum stays twice the edge count."
--
-- `Walked t marks` has a field for each of these: it is `Demand3` of crate `facts` (specs/Demand.antt).
use Rattle.std.specs.Prelude.{◌≡◌, List, ◌++◌, ℕ, ◌*◌, ◌≤◌, length, Ok}
use Rattle.laws.specs.Lowest.{In}
use Rattle.load.specs.declared.Counts.{Counts}
use Rattle.tile.specs.Columns.{Tile, E, F, R, N}
use Rattle.tile.specs.Check.{verdict_of}
use Rattle.tile.specs.Walk.{all_steps, ring_sides}
use Rattle.facts.specs.Demand.{Demand3 as Walked}
use Rattle.directory.specs.declared.Sizes.{Sizes}
use Rattle.report.specs.Lines.{accept_line, steps_line}
use Rattle.load.specs.Columns.{Columns}
use Rattle.directory.specs.Columns.{held}
use Rattle.directory.specs.Files.{Directory, files_read}
use Rattle.directory.specs.Outcome.{tile_said, loaded_of, columns_after, checked_of, outcome_of}
use Rattle.limits.specs.Limits.{program_sides}
use Rattle.teller.specs.Text.{own_columns, steps_from, ring_lines, text_of}

-- ======== DIRECTORIES

-- the same of a directory that is accepted with the counts c; `lengths` are those of the ten lent columns, `marks` the lent owner marks
pub record DirectoryWalked (z : Sizes) (d : Directory) (lengths marks : List ℕ) (c : Counts) : Type 0 where
  -- the check accepts the tile that its files say, and c counts its edges, faces, rings and nodes
  pub accepted : verdict_of (tile_said (files_read d)) (length marks) ≡ Ok tt
  pub counts-edges : E (tile_said (files_read d)) ≡ c.edges
  pub counts-faces : F (tile_said (files_read d)) ≡ c.faces
  pub counts_rings : R (tile_said (files_read d)) ≡ c.rings
  pub counts-nodes : N (tile_said (files_read d)) ≡ c.nodes
  -- that tile stands at the front of the ten lent columns, where `check_loaded` accepts it and `walk_ring` walks it
  pub loads : loaded_of z d lengths ≡ Ok c
  pub columns : (l : Columns) → held c (columns_after (Ok c) (files_read d) l) ≡ tile_said (files_read d)
  pub checks : (l : Columns) → checked_of c (columns_after (Ok c) (files_read d) l) (length marks) ≡ Ok c
  -- demand 3 holds of it, and so the reported steps of all its ring rows, given room for each walk, add up to twice the edges
  pub walks : Walked (tile_said (files_read d)) marks
  pub reported : (space : ℕ) → 2 * c.edges ≤ space → all_steps (tile_said (files_read d)) space c.rings ≡ 2 * c.edges

-- what the program writes of it: the counts, for each ring row its face and the length of its list, and in the last line twice the edges
pub record TextTold (z : Sizes) (d : Directory) (c : Counts) : Type 0 where
  pub text : text_of z d ≡ accept_line c ++ (ring_lines (tile_said (files_read d)) c.rings ++ steps_line (2 * c.edges))
  pub ring_steps : (r : ℕ) → In c.rings r → steps_from (tile_said (files_read d)) r ≡ length (ring_sides (tile_said (files_read d)) r)

-- ======== TILES, AND DIRECTORIES

pub record Demand3 : Type 0 where
  pub tiles : (t : Tile) (marks : List ℕ) → verdict_of t (length marks) ≡ Ok tt → Walked t marks
  pub directories : (z : Sizes) (d : Directory) (lengths marks : List ℕ) (c : Counts) → outcome_of z d lengths (length marks) ≡ Ok c
      → DirectoryWalked z d lengths marks c
  pub texts : (z : Sizes) (d : Directory) (c : Counts) → outcome_of z d own_columns program_sides ≡ Ok c → TextTold z d c
