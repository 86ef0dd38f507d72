-- DEMAND 1
--
-- "Any bytes may be handed to any public entry point. It ends, touches nothing outside its buffers, and either answers or gives the refusal
-- that the table names. A refusal leaves written buffers unchanged, save the ring-owner marks, which the stated tile refusals set to zero."
--
-- That it ends and touches nothing outside its buffers is what the checker proves of every function before a crate counts as proved; no
-- public function has a `requires`, so it holds of any bytes and numbers. Left to say here: which numbers each operation can refuse with,
-- and what a refusal leaves. (Where, and when exactly, is demand 2.)
use Rattle.std.specs.Prelude.{◌≡◌, List, ℕ, ◌≤◌, ◌<◌, length, Err}
use Rattle.laws.specs.Buffer.{front}
use Rattle.laws.specs.Marks.{zeros}
use Rattle.refusal.specs.declared.Kind.{Kind}
use Rattle.refusal.specs.declared.Refusal.{Refusal}
use Rattle.refusal.specs.Kinds.{number_of}
use Rattle.number.specs.declared.Order.{Order}
use Rattle.wave.specs.Height.{height_of}
use Rattle.wave.specs.Judgement.{judgement_of}
use Rattle.triplet.specs.declared.Ids.{Ids}
use Rattle.triplet.specs.Triplet.{triplet_of}
use Rattle.triplet.specs.Written.{written_of, row_after}
use Rattle.header.specs.declared.Layout.{Layout}
use Rattle.header.specs.Layouts.{header_of}
use Rattle.header.specs.Steps.{step_of}
use Rattle.reader.specs.declared.Reader.{Reader}
use Rattle.reader.specs.Moves.{gives}
use Rattle.opening.specs.declared.Table.{Table}
use Rattle.opening.specs.Opening.{opened_of}
use Rattle.table.specs.Rows.{row_refusal, rows_refusal, row_of}
use Rattle.table.specs.Values.{value_of}
use Rattle.bounds.specs.Bounds.{Coordinates, bounds_of}
use Rattle.rectangle.specs.Rectangles.{rectangle_of, refused_with}
use Rattle.load.specs.declared.TableName.{TableName}
use Rattle.load.specs.declared.Counts.{Counts}
use Rattle.load.specs.declared.Finding.{Finding}
use Rattle.load.specs.Sources.{Files}
use Rattle.load.specs.Load.{load_of, column_left}
use Rattle.side.specs.Edges.{Edges}
use Rattle.side.specs.Successor.{successor}
use Rattle.tile.specs.Columns.{Tile, sides}
use Rattle.tile.specs.Check.{verdict_of, marks_after}
use Rattle.tile.specs.Walk.{walk_of, sides_written}
use Rattle.directory.specs.declared.Sizes.{Sizes}
use Rattle.directory.specs.declared.Named.{Named}
use Rattle.load.specs.Columns.{Columns}
use Rattle.directory.specs.Columns.{held}
use Rattle.directory.specs.Files.{Directory, files_read}
use Rattle.directory.specs.Outcome.{loaded_of, columns_after, checked_of, marks_checked, outcome_of}
use Rattle.demands.specs.Numbers.{Among, NoneOrAmong, of_wave, of_triplet, of_writing, of_header, of_step, of_opening, of_row}
use Rattle.demands.specs.Numbers.{of_value, of_bounds, of_rectangle, of_load, of_successor, of_check, of_walk, of_directory}
use Rattle.demands.specs.ForC.{ForC}

pub record Demand1 : Type 0 where
  -- ---- operations that write nothing
  pub wave_numbers : (text : List ℕ) (q : Refusal) → height_of text ≡ Err q → Among of_wave q.number
  pub judgement_numbers : (measured limit : List ℕ) (q : Refusal) → judgement_of measured limit ≡ Err q
      → Among of_wave q.number
  pub triplet_numbers : (o : Order) (s : List ℕ) (q : Refusal) → triplet_of o s ≡ Err q → Among of_triplet q.number
  pub header_numbers : (file : List ℕ) (q : Refusal) → header_of file ≡ Err q → Among of_header q.number
  pub step_numbers : (file : List ℕ) (place : ℕ) (q : Refusal) → step_of file place ≡ Err q → Among of_step q.number
  -- a held reader, whoever made it
  pub reader_numbers : (r : Reader) (q : Refusal) → gives r ≡ Err q → Among of_step q.number
  pub opening_numbers : (file index : List ℕ) (most : ℕ) (q : Refusal) → opened_of file index most ≡ Err q
      → Among of_opening q.number
  -- of any layout or table value, also one that no opening gave
  pub judge_row_numbers : (file : List ℕ) (l : Layout) (start end i : ℕ) → NoneOrAmong of_row (row_refusal file l start end i).number
  pub judge_rows_numbers : (file index : List ℕ) (t : Table) → NoneOrAmong of_row (rows_refusal file index t).number
  pub row_numbers : (file index : List ℕ) (t : Table) (i : ℕ) (q : Refusal) → row_of file index t i ≡ Err q
      → Among of_value q.number
  pub value_numbers : (file index : List ℕ) (t : Table) (i k : ℕ) (q : Refusal) → value_of file index t i k ≡ Err q
      → Among of_value q.number
  pub bounds_numbers : (c : Coordinates) (q : Refusal) → bounds_of c ≡ Err q → Among of_bounds q.number
  pub rectangle_numbers : (file index : List ℕ) (t : Table) (i k : ℕ) (q : Refusal) → rectangle_of file index t i k ≡ refused_with q
      → Among of_rectangle q.number
  -- of any six columns and any side number
  pub successor_numbers : (t : Edges) (s : ℕ) (k : Kind) → successor t s ≡ Err k → Among of_successor (number_of k)
  -- ---- a triplet written: the row is as it was
  pub write_numbers : (len at : ℕ) (t : Ids) (q : Refusal) → written_of len at t ≡ Err q → Among of_writing q.number
  pub write_unchanged : (o : Order) (row : List ℕ) (at : ℕ) (t : Ids) (q : Refusal) → written_of (length row) at t ≡ Err q
      → row_after (written_of (length row) at t) o row at t ≡ row
  -- ---- a tile loaded: each lent column is as it was
  pub load_numbers : (f : Files) (most : ℕ) (lengths : List ℕ) (q : Finding) → load_of f most lengths ≡ Err q
      → Among of_load q.refusal.number
  pub load_unchanged : (f : Files) (most : ℕ) (lengths : List ℕ) (q : Finding) → load_of f most lengths ≡ Err q
      → (n : TableName) (k : ℕ) (d : List ℕ) → column_left (load_of f most lengths) f most n k d ≡ d
  -- ---- a tile checked: 14 and 15 leave the owner marks as they were; 20 to 31 set exactly the first 2E to zero
  pub check_numbers : (t : Tile) (space : ℕ) (q : Refusal) → verdict_of t space ≡ Err q → Among of_check q.number
  pub check_unchanged : (t : Tile) (marks : List ℕ) (q : Refusal) → verdict_of t (length marks) ≡ Err q
      → q.number < 20 → marks_after t marks ≡ marks
  pub check_zeroed : (t : Tile) (marks : List ℕ) (q : Refusal) → verdict_of t (length marks) ≡ Err q
      → 20 ≤ q.number → (marks_after t marks ≡ front zeros (sides t) marks) × (sides t ≤ length marks)
  -- ---- a ring walked: the lent output is as it was
  pub walk_numbers : (t : Tile) (r space : ℕ) (q : Refusal) → walk_of t r space ≡ Err q → Among of_walk q.number
  pub walk_unchanged : (t : Tile) (r : ℕ) (out : List ℕ) (q : Refusal) → walk_of t r (length out) ≡ Err q
      → sides_written t r (walk_of t r (length out)) out ≡ out
  -- ---- a directory loaded: the ten lent columns are as they were
  pub directory-load_numbers : (z : Sizes) (d : Directory) (lengths : List ℕ) (w : Named) → loaded_of z d lengths ≡ Err w
      → Among of_load w.refusal.number
  pub directory-load_unchanged : (z : Sizes) (d : Directory) (lengths : List ℕ) (w : Named) → loaded_of z d lengths ≡ Err w
      → (l : Columns) → columns_after (loaded_of z d lengths) (files_read d) l ≡ l
  -- its tile checked: as a tile is, and counts that the columns cannot have are 15. (A ring of it is walked by `walk_of` itself.)
  pub directory_check_numbers : (c : Counts) (l : Columns) (space : ℕ) (w : Named) → checked_of c l space ≡ Err w
      → Among of_check w.refusal.number
  pub directory_check_unchanged : (c : Counts) (l : Columns) (marks : List ℕ) (w : Named) → checked_of c l (length marks) ≡ Err w
      → w.refusal.number < 20 → marks_checked c l marks ≡ marks
  pub directory_check_zeroed : (c : Counts) (l : Columns) (marks : List ℕ) (w : Named) → checked_of c l (length marks) ≡ Err w
      → 20 ≤ w.refusal.number
      → (marks_checked c l marks ≡ front zeros (sides (held c l)) marks) × (sides (held c l) ≤ length marks)
  -- both, as the program judges a directory
  pub directory_numbers : (z : Sizes) (d : Directory) (lengths : List ℕ) (space : ℕ) (w : Named) → outcome_of z d lengths space ≡ Err w
      → Among of_directory w.refusal.number
  -- ---- the operations for C: their structs tell these same refusals, and 0 where there is none
  pub for_c : ForC
