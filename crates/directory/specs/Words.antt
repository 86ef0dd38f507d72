-- A directory's outcome in words: sizes first, then the load of its files, then the check of the tile that they say.
use Rattle.std.specs.Prelude.{◌≡◌, ◌⊎◌, true, List, ℕ, ◌≤◌, ◌<◌, length}
use Rattle.refusal.specs.Order.{refusal}
use Rattle.facts.specs.Facts as tile
use Rattle.load.specs.declared.Counts.{Counts}
use Rattle.load.specs.declared.Finding.{Finding}
use Rattle.load.specs.declared.TableName.TheVariants as table
use Rattle.load.specs.Words as load
use Rattle.report.specs.declared.FileName.{FileName}
use Rattle.report.specs.declared.FileName.TheVariants.{Edg, Edx, Fac, Rng, Cnd, Cnx}
use Rattle.directory.specs.declared.Sizes.{Sizes}
use Rattle.limits.specs.Limits.{most_bytes, program_rows}
use Rattle.directory.specs.Concerned.{of_table}
use Rattle.directory.specs.declared.Named.{Named}
use Rattle.directory.specs.Files.{Directory, cnx_read, files_read}
use Rattle.directory.specs.Outcome.{tile_said}

-- ---- sizes: "each at most 65,536 bytes", "sizes first, in that order (cnx's once cnd's header is accepted and shows K)"

-- of six things the one of a file
abbrev pub by_file : {A : Type 0} → A → A → A → A → A → A → FileName → A
by_file edg edx fac rng cnd cnx Edg = edg
by_file edg edx fac rng cnd cnx Edx = edx
by_file edg edx fac rng cnd cnx Fac = fac
by_file edg edx fac rng cnd cnx Rng = rng
by_file edg edx fac rng cnd cnx Cnd = cnd
by_file edg edx fac rng cnd cnx Cnx = cnx

-- what a file is said to have, and what is lent of it
abbrev pub size_said : Sizes → FileName → ℕ
size_said z n = by_file z.edg z.edx z.fac z.rng z.cnd z.cnx n

abbrev pub bytes_lent : Directory → FileName → List ℕ
bytes_lent d n = by_file d.edg d.edx d.fac d.rng d.cnd d.cnx n

-- "edg, edx, fac, rng, cnd (and cnx if K occurs)", in that order
abbrev pub IsRead : Directory → FileName → Type 0
IsRead d Edg = Unit {0}
IsRead d Edx = Unit {0}
IsRead d Fac = Unit {0}
IsRead d Rng = Unit {0}
IsRead d Cnd = Unit {0}
IsRead d Cnx = cnx_read d ≡ true

abbrev pub rank : FileName → ℕ
rank n = by_file 0 1 2 3 4 5 n

-- a file is not too large: neither is it said to be, nor is more of it lent
pub record Fits (z : Sizes) (d : Directory) (n : FileName) : Type 0 where
  pub said : size_said z n ≤ most_bytes
  pub lent : length (bytes_lent d n) ≤ most_bytes

abbrev pub SizeRight : Sizes → Directory → FileName → Type 0
SizeRight z d n = IsRead d n → Fits z d n

-- the first file that is too large
pub record FirstTooLarge (z : Sizes) (d : Directory) (n : FileName) : Type 0 where
  pub read : IsRead d n
  pub too_large : Fits z d n → ⊥
  pub earlier : (m : FileName) → rank m < rank n → SizeRight z d m

-- ---- the file that a refusal speaks of

-- "The file is the table concerned ... For 8 it is edx or cnx where that file was read"
pub data SpeaksOf (d : Directory) (q : Finding) : FileName → Type 0 where
  the_table : (q.refusal.number ≡ 8 → ⊥) → SpeaksOf d q (of_table q.table)
  edge_index : q.refusal.number ≡ 8 → q.table ≡ table.Edg → SpeaksOf d q Edx
  node_index : q.refusal.number ≡ 8 → q.table ≡ table.Cnd → cnx_read d ≡ true → SpeaksOf d q Cnx
  no_index_read : q.refusal.number ≡ 8 → (q.table ≡ table.Edg → ⊥) → (q.table ≡ table.Cnd → cnx_read d ≡ true → ⊥) → SpeaksOf d q (of_table q.table)

-- "edg for 14, 20 to 26 and 31, cnd for 27, rng or fac for 28 by its place, rng for 29 and 30": by the test that failed
abbrev pub file_of_test : tile.Test → FileName
file_of_test tile.sizes = Edg
file_of_test tile.owner_space = Edg
file_of_test tile.nodes = Edg
file_of_test tile.faces = Edg
file_of_test tile.links = Edg
file_of_test tile.successors = Edg
file_of_test tile.predecessors = Edg
file_of_test tile.first_edges = Cnd
file_of_test tile.ring_faces = Rng
file_of_test tile.runs = Fac
file_of_test tile.starts = Rng
file_of_test tile.not_named_twice = Rng
file_of_test tile.covered = Edg

-- ---- the outcome; `lengths` are those of the ten lent columns, `space` that of the owner marks
module _ (z : Sizes) (d : Directory) (lengths : List ℕ) (space : ℕ) where
  -- A DIRECTORY IS ACCEPTED with the counts c EXACTLY WHEN these hold
  pub record AcceptedWith (c : Counts) : Type 0 where
    pub sizes : (n : FileName) → SizeRight z d n
    pub loads : load.Loads (files_read d) program_rows lengths c
    pub facts : tile.Facts (tile_said (files_read d)) space

  -- "Larger is 15: sizes first"; "for 15 by size it is the file too large"
  pub record BySize (w : Named) : Type 0 where
    pub first : FirstTooLarge z d w.file
    pub says : w.refusal ≡ refusal 15 0

  -- the load's own finding
  pub record ByLoad (w : Named) : Type 0 where
    pub sizes : (n : FileName) → SizeRight z d n
    pub finding : Finding
    pub refused : load.RefusedWith (files_read d) program_rows lengths finding
    pub says : w.refusal ≡ finding.refusal
    pub file : SpeaksOf d finding w.file

  -- the check's own refusal of the tile
  pub record ByCheck (w : Named) : Type 0 where
    pub sizes : (n : FileName) → SizeRight z d n
    pub counts : Counts
    pub loads : load.Loads (files_read d) program_rows lengths counts
    pub refused : tile.RefusedWith (tile_said (files_read d)) space w.refusal.number w.refusal.place
    pub file : w.file ≡ file_of_test refused.test

  -- A DIRECTORY IS REFUSED with w EXACTLY WHEN one of these holds
  abbrev pub RefusedWith : Named → Type 0
  RefusedWith w = BySize w ⊎ (ByLoad w ⊎ ByCheck w)
