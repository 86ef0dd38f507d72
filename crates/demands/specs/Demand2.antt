-- DEMAND 2
--
-- "Headers, rows, indexes and triplet ids mean what MIL-STD-2407 with Notice 1 and document 01 say. A header is accepted exactly when it
-- meets that grammar, its column rules and its limits, with one reading. A triplet written and read back is the same triplet. A tile is
-- accepted exactly when its sizes and owner space fit and every listed fact about its nodes, faces, edges and rings holds."
--
-- Document 02, No. 5: "This amends 01's header grammar; demand 2 reads 'exactly the amended grammar'."
--
-- One record for each thing that has a meaning; `Demand2`, at the end, has them of all bytes and numbers.
use Rattle.std.specs.Prelude.{◌≡◌, ◌↔◌, ◌⊎◌, true, false, List, ℕ, suc, pred, ◌+◌, ◌≤◌, ◌<◌, length, get_or, drop, Some, None, Ok, Err}
use Rattle.std.specs.Borrow.{Bor}
use Rattle.std.specs.Float.{Format}
use Rattle.laws.specs.Lowest.{In}
use Rattle.laws.specs.Orbit.{entry, iterate}
use Rattle.laws.specs.Partition.{Partition}
use Rattle.laws.specs.Language.{LeavesAt}
use Rattle.refusal.specs.declared.Kind.{Kind}
use Rattle.refusal.specs.declared.Refusal.{Refusal}
use Rattle.refusal.specs.Kinds.{number_of}
use Rattle.refusal.specs.Order.{refusal}
use Rattle.number.specs.declared.Order.{Order}
use Rattle.number.specs.Bytes.{AreBytes}
use Rattle.wave.specs.declared.Judgement.TheVariants.{Passes, TooHigh}
use Rattle.wave.specs.Height.{no_wave_height, height_of}
use Rattle.wave.specs.Judgement.{judgement_of}
use Rattle.wave.specs.Words as wave
use Rattle.triplet.specs.declared.Ids.{Ids}
use Rattle.triplet.specs.Triplet.{triplet, triplet_of, bad_triplet}
use Rattle.triplet.specs.Written.{Written, size_of, written_of, row_after}
use Rattle.triplet.specs.Words as triplet_words
use Rattle.grammar.specs.Words.{Reading, printed_mark, printed_column}
use Rattle.grammar.specs.Amended.{Amended}
use Rattle.header.specs.declared.Definition.{Definition}
use Rattle.header.specs.declared.Header.{Header}
use Rattle.header.specs.Layouts.{layout_of, handed_on, header_of}
use Rattle.header.specs.Names.{same_text}
use Rattle.header.specs.Steps.{step_of, place_of, start_of, column_of}
use Rattle.header.specs.Words as read
use Rattle.header.specs.Words.{Shows, AcceptedHeader}
use Rattle.header.specs.LayoutWords.{layout_at, LaidOut, ShowsK}
use Rattle.header.specs.Refusals as header
use Rattle.reader.specs.Moves.{reader_at, opened, gives, steps}
use Rattle.reader.specs.Words.{GivesColumn, SaysDone, Refuses}
use Rattle.opening.specs.declared.Opened.{Opened}
use Rattle.opening.specs.declared.Table.{Table}
use Rattle.opening.specs.Opening.{opened_of}
use Rattle.opening.specs.Words as opening
use Rattle.table.specs.Rows.{column_at, bound_of, between, row_of}
use Rattle.table.specs.Values.{shown, value_of}
use Rattle.table.specs.Words as table
use Rattle.bounds.specs.declared.Parts.{Parts}
use Rattle.bounds.specs.Bounds.{Rectangle, count}
use Rattle.rectangle.specs.Rectangles.{rectangle_of, refused_with}
use Rattle.rectangle.specs.Words as rectangle
use Rattle.load.specs.declared.Counts.{Counts}
use Rattle.load.specs.declared.Finding.{Finding}
use Rattle.load.specs.Sources.{Files, file_of, index_of, table_of, name_at, table_at}
use Rattle.load.specs.Load.{load_of, column_left}
use Rattle.load.specs.Words as load
use Rattle.side.specs.Edges.{Edges, edge_count, link}
use Rattle.side.specs.Successor.{successor, Follows, Fault}
use Rattle.tile.specs.Columns.{Tile, R, start_side}
use Rattle.tile.specs.Check.{start_wrong, verdict_of}
use Rattle.tile.specs.Walk.{walk_of, sides_written}
use Rattle.facts.specs.WalkWords as walk
use Rattle.facts.specs.Facts as tile
use Rattle.directory.specs.declared.Sizes.{Sizes}
use Rattle.report.specs.Lines.{refuse_line}
use Rattle.directory.specs.declared.Named.{Named}
use Rattle.directory.specs.Files.{Directory, cnx_read}
use Rattle.directory.specs.Outcome.{outcome_of}
use Rattle.directory.specs.Words as directory
use Rattle.limits.specs.Limits.{program_sides}
use Rattle.teller.specs.Text.{own_columns, text_of}

-- ======== HEADERS

-- a header: "exactly the amended grammar" (document 02, No. 5), the column rules and the limits; it is refused with n at p exactly when the
-- test that this number names fails there and all earlier ones hold
pub record HeaderMeans (file : List ℕ) : Type 0 where
  pub accepted : ((head : Header) × (header_of file ≡ Ok head)) ↔ ((h : Reading) × AcceptedHeader file h)
  pub hands_on : (head : Header) → header_of file ≡ Ok head → head ≡ handed_on file
  pub one_reading : (h k : Reading) → AcceptedHeader file h → AcceptedHeader file k → h ≡ k
  pub refused : (n p : ℕ) → (header_of file ≡ Err (refusal n p)) ↔ header.RefusedWith file n p

-- column k of the reading has the name, "letters of either case"
abbrev pub HasName : Reading → List ℕ → ℕ → Type 0
HasName h name k = In (length h.columns) k × (same_text (read.column_at h k).name name ≡ true)

-- where a reader that starts at the place p stands after k steps
abbrev pub after_steps : List ℕ → ℕ → ℕ → ℕ
after_steps file k p = iterate (λ q. place_of q (step_of file q)) k p

-- an accepted header with its reading h: what the rows take from it, its columns by name, and its columns one by one
pub record ColumnsMean (file : List ℕ) (h : Reading) : Type 0 where
  -- row 1 starts at L + 4; each column's type, count and bytes; "Without a `*` or K column all rows have one width"
  pub layout : LaidOut file h (layout_of file)
  -- the column found by its name has it, and no other has; 0 is found exactly where none has
  pub named : (name : List ℕ) → ((column_of file name ≡ 0) × ((k : ℕ) → HasName h name k → ⊥)) ⊎ HasName h name (column_of file name)
  pub named_once : (name : List ℕ) (k : ℕ) → HasName h name k → column_of file name ≡ k
  -- "gives one column at each step, moving past exactly one definition": the first stands past the order letter and the two fields of the
  -- table, and the step after k others gives column k + 1
  pub starts : start_of file ≡ 4 + length (printed_mark h.mark) + length h.description + length h.narrative + 3
  pub gives : (k : ℕ) → k < length h.columns
      → (d : Definition) × (step_of file (after_steps file k (start_of file)) ≡ Ok (Some d))
      × Shows file (after_steps file k (start_of file)) (read.column_at h (suc k)) d
  pub moves_past : (k : ℕ) → k < length h.columns
      → after_steps file (suc k) (start_of file) ≡ after_steps file k (start_of file) + length (printed_column (read.column_at h (suc k)))
  -- "After the last it says so and stays"
  pub ends : (k : ℕ) → length h.columns ≤ k → step_of file (after_steps file k (start_of file)) ≡ Ok None
  -- "a place where the header's reading starts no definition gives 13, that place, and stays"
  pub elsewhere : (place : ℕ) → ((k : ℕ) → k ≤ length h.columns → place ≡ after_steps file k (start_of file) → ⊥)
      → step_of file place ≡ Err (refusal 13 place)

-- a header that is refused with n at p: no layout, no column of any name, and "A header refusal comes first" at every place
pub record NoColumnsMean (file : List ℕ) (n p : ℕ) : Type 0 where
  pub layout : (head : Header) → header_of file ≡ Ok head → ⊥
  pub named : (name : List ℕ) → column_of file name ≡ 0
  pub starts : start_of file ≡ 0
  pub gives : (place : ℕ) → step_of file place ≡ Err (refusal n p)

-- "A header reader holds the file and its place": the same of a reader that is held, at whatever place
pub record ReaderMeans (file : Bor (List ℕ)) (h : Reading) : Type 0 where
  pub starts : (opened file).at ≡ 4 + length (printed_mark h.mark) + length h.description + length h.narrative + 3
  pub gives-columns : (k : ℕ) → k < length h.columns → GivesColumn (steps k (opened file)) (read.column_at h (suc k))
  pub then_done : (k : ℕ) → length h.columns ≤ k → SaysDone (steps k (opened file))
  pub one_definition : (place : ℕ) (d : Definition) → gives (reader_at file place) ≡ Ok (Some d)
      → (k : ℕ) × (k < length h.columns) × (reader_at file place ≡ steps k (opened file))
      × GivesColumn (reader_at file place) (read.column_at h (suc k))
  pub elsewhere : (place : ℕ) → ((k : ℕ) → k ≤ length h.columns → reader_at file place ≡ steps k (opened file) → ⊥)
      → Refuses (reader_at file place) 13 place

-- ======== ROWS AND INDEXES

-- a table and its index; what an opened table is
abbrev pub table_with : List ℕ → ℕ → Table
table_with file n = record { layout = layout_of file; rows = n }

pub record TableMeans (file index : List ℕ) (most : ℕ) : Type 0 where
  pub opened : ((o : Opened) × (opened_of file index most ≡ Ok o)) ↔ ((h : Reading) × (n : ℕ) × opening.Opens file index most h n)
  pub one_table : (h k : Reading) (n m : ℕ) → opening.Opens file index most h n → opening.Opens file index most k m → (h ≡ k) × (n ≡ m)
  pub as_opened : (h : Reading) (n : ℕ) → opening.Opens file index most h n
      → (o : Opened) × (opened_of file index most ≡ Ok o) × (o.table ≡ table_with file n)
  pub refused : (n p : ℕ) → (opened_of file index most ≡ Err (refusal n p)) ↔ opening.RefusedWith file index most n p
  -- "Row 1 starts at L + 4, each next row where the last ended, and the last ends with the file": every byte of the body is of one row
  pub rows : (h : Reading) (n : ℕ) → opening.Opens file index most h n
      → Partition (bound_of (layout_of file) index) n (layout_of file).start (length file)

-- row i of an opened table of n rows, and its values
abbrev pub row_start : List ℕ → List ℕ → ℕ → ℕ
row_start file index i = bound_of (layout_of file) index (pred i)

abbrev pub row_end : List ℕ → List ℕ → ℕ → ℕ
row_end file index i = bound_of (layout_of file) index i

abbrev pub RowRight : List ℕ → List ℕ → ℕ → Type 0
RowRight file index i = table.RowRight file (layout_of file) (row_start file index i) (row_end file index i) i

pub record RowMeans (file index : List ℕ) (n i : ℕ) : Type 0 where
  -- where it lies: by the one width, or by its entry of the index
  pub lies : (start end : ℕ) → table.Lies file index i start end ↔ ((start ≡ row_start file index i) × (end ≡ row_end file index i))
  pub accepted : (row_of file index (table_with file n) i ≡ between (row_start file index i) (row_end file index i))
      ↔ RowRight file index i
  pub refused : (m p : ℕ) → (row_of file index (table_with file n) i ≡ Err (refusal m p))
      ↔ table.RowRefused file (layout_of file) (row_start file index i) (row_end file index i) i m p
  -- a value is the field of column k of its row, at the place where the fields before it end; and any bytes that agree with the row's own
  -- show the same
  pub values : (right : RowRight file index i) (k : ℕ) → In (layout_of file).columns k
      → (s : List ℕ) → table.SameRow file s (row_start file index i) (row_end file index i)
      → value_of file index (table_with file n) i k
      ≡ shown (layout_of file).order s (layout_at (layout_of file) k) (right.place k) (row_end file index i)
  -- the coordinates of a rectangle are all that the field has: as many as its `*` count says, or the column's
  pub coordinates : (right : RowRight file index i) (k : ℕ) → In (layout_of file).columns k
      → (f : Format) (p : Parts) → (column_at (layout_of file) k).kind ≡ rectangle.type_with f p
      → count (rectangle.line file index (table_with file n) i k f p)
      ≡ rectangle.coordinates_said (layout_of file).order file (layout_at (layout_of file) k) (right.place k)

-- "13: no such row, ring or column", then the row's own refusal: row i and its column k, of any table value, opened or made by anybody
pub record ValueMeans (file index : List ℕ) (t : Table) (i k : ℕ) : Type 0 where
  pub no_row : (p : ℕ) → (row_of file index t i ≡ Err (refusal 13 p)) ↔ ((table.RowThere t i → ⊥) × (p ≡ i))
  pub refused : (n p : ℕ) → (value_of file index t i k ≡ Err (refusal n p)) ↔ table.ValueRefused file index t i k n p

-- the rectangle of column k in row i, of any table value
pub record RectangleMeans (file index : List ℕ) (t : Table) (i k : ℕ) : Type 0 where
  pub found : (f : Format) (r : Rectangle) → (rectangle_of file index t i k ≡ rectangle.in_width f r) ↔ rectangle.RectangleIs file index t i k f r
  pub refused : (n p : ℕ) → (rectangle_of file index t i k ≡ refused_with (refusal n p)) ↔ rectangle.RefusedWith file index t i k n p

-- ======== TRIPLET IDS AND WAVE HEIGHTS

-- triplets in a byte order: read exactly, written exactly, "written and read back is the same triplet"
pub record TripletMeans (o : Order) : Type 0 where
  pub read : (s : List ℕ) (t : Ids) (n : ℕ) → (triplet_of o s ≡ Ok (triplet t n)) ↔ triplet_words.BeginsWith o s t n
  pub refused : (s : List ℕ) (q : Refusal) → (triplet_of o s ≡ Err q)
      ↔ ((q ≡ refusal bad_triplet q.place) × triplet_words.BadAt o s q.place)
  pub is-written : (len at : ℕ) (t : Ids) (n : ℕ) → (written_of len at t ≡ Ok n) ↔ triplet_words.FitsAt len at t n
  -- "a part too large (11, lowest such part, 1 to 3), then a place beyond the buffer (13), then room (14, start place plus bytes)"
  pub is_not_written : (len at : ℕ) (t : Ids) (n p : ℕ) → (written_of len at t ≡ Err (refusal n p))
      ↔ triplet_words.NotWritten len at t n p
  pub read_back : (row : List ℕ) (at : ℕ) (t : Ids) (n : ℕ) → written_of (length row) at t ≡ Ok n
      → triplet_of o (drop at (row_after (Ok n) o row at t)) ≡ Ok (triplet t n)
  -- "The writer uses the shortest form": no fewer bytes are read as the same triplet
  pub shortest : (s : List ℕ) (t : Ids) (n : ℕ) → AreBytes s → triplet_of o s ≡ Ok (triplet t n) → size_of t ≤ n
  -- "and changes no other byte"; the row is as long as it was
  pub no_other_byte : (row : List ℕ) (at : ℕ) (t : Ids) (w : Written) → written_of (length row) at t ≡ w → (j : ℕ)
      → (at ≤ j → j < at + size_of t → ⊥) → get_or (row_after w o row at t) j 0 ≡ get_or row j 0
  pub same_length : (row : List ℕ) (at : ℕ) (t : Ids) (w : Written) → written_of (length row) at t ≡ w
      → length (row_after w o row at t) ≡ length row

-- "A wave height is 1 to 6 digits, optionally a point and 1 to 3 digits, then only spaces. It becomes whole thousandths"; "16: text is no
-- wave height", at the first bad byte or the text's length
pub record WaveMeans (text : List ℕ) : Type 0 where
  pub read : (v : ℕ) → (height_of text ≡ Ok v) ↔ wave.IsHeight text v
  pub one_value : (v w : ℕ) → wave.IsHeight text v → wave.IsHeight text w → v ≡ w
  pub refused : (q : Refusal) → (height_of text ≡ Err q) ↔ ((q.number ≡ no_wave_height) × LeavesAt wave.WaveHeight text q.place)

-- "A measured height passes exactly when not above the limit; of two bad texts the limit's is refused."
pub record LimitMeans (measured limit : List ℕ) : Type 0 where
  pub passes : (judgement_of measured limit ≡ Ok Passes) ↔ wave.NotAbove measured limit
  pub too_high : (judgement_of measured limit ≡ Ok TooHigh) ↔ wave.Above measured limit
  pub refused : (q : Refusal) → (judgement_of measured limit ≡ Err q)
      ↔ ((height_of limit ≡ Err q) ⊎ ((most : ℕ) × wave.IsHeight limit most × (height_of measured ≡ Err q)))

-- ======== TILES

-- a tile loaded; element i of the lent column of place k is what the table of that place says in row i + 1, and past the rows nothing is
-- written
pub record LoadMeans (f : Files) (most : ℕ) (lengths : List ℕ) : Type 0 where
  pub is-loaded : (c : Counts) → (load_of f most lengths ≡ Ok c) ↔ load.Loads f most lengths c
  pub refused : (q : Finding) → (load_of f most lengths ≡ Err q) ↔ load.RefusedWith f most lengths q
  pub element : (c : Counts) → load_of f most lengths ≡ Ok c → (k : ℕ) → In 10 k
      → (d : List ℕ) (i : ℕ) → i < load.count_of c (table_at k)
      → get_or (column_left (Ok c) f most (table_at k) k d) i 0
      ≡ load.loaded
      (value_of (file_of f (table_at k)) (index_of f (table_at k)) (table_of f most (table_at k)) (suc i) (column_of (file_of f (table_at k)) (name_at k)))
  pub rest : (c : Counts) → load_of f most lengths ≡ Ok c → (k : ℕ) → In 10 k
      → (d : List ℕ) (i : ℕ) → load.count_of c (table_at k) ≤ i
      → get_or (column_left (Ok c) f most (table_at k) k d) i 0 ≡ get_or d i 0

-- the side s is refused with the number n
abbrev pub WrongWith : Edges → ℕ → ℕ → Type 0
WrongWith t s n = (k : Kind) × (number_of k ≡ n) × (successor t s ≡ Err k)

-- the successor of a side: demand 3 stands over this one, and over no other
pub record SuccessorMeans (t : Edges) (s : ℕ) : Type 0 where
  -- "The successor is the side of the linked edge that leaves from that node", the one with the present face
  pub is : (u : ℕ) → (successor t s ≡ Ok u) ↔ Follows t s u
  -- "link does not touch; face differs; loop with the face on both sides" (23, 24, 25), the link being in 1..E
  pub wrong : (n : ℕ) → In (edge_count t) (link t s) → WrongWith t s n ↔ Fault t s n
  -- 22 where it is not
  pub no_link : WrongWith t s 22 ↔ (In (edge_count t) (link t s) → ⊥)

-- the walk from ring row r of any tile, accepted or not
pub record WalkMeans (t : Tile) (r : ℕ) : Type 0 where
  -- "The start side is the one with the ring's face; if both have it, the right one."
  pub start : tile.StartsOnSide t r → (s : ℕ) → tile.StartSideIs t r s ↔ (start_side t r ≡ s)
  -- document 02, No. 1, in place of 01's "Start 0 is allowed only in the one ring of a tile with E = 0 and F = 1.": "Accept start 0 in ring
  -- row 1 when its face is 1, whatever E is. .. Elsewhere 0 stays refusal 29."
  pub start_zero : entry t.start_edge r ≡ 0 → (start_wrong t r ≡ false) ↔ ((r ≡ 1) × (entry t.fac_id r ≡ 1))
  -- "first tests 15, 13, 29, then at each move 22 to 25 ... With no return in 2E moves it gives 32; a short output gives 14 last"
  pub refused : (space n p : ℕ) → (walk_of t r space ≡ Err (refusal n p)) ↔ walk.WalkRefused t r space n p
  pub answered : (space k : ℕ) → (walk_of t r space ≡ Ok k) ↔ walk.WalkAnswered t r space k
  -- "The number of steps reported is the number of successor moves until the start side returns": from a start side and given room, the first
  -- return of that side within 2E moves, and no other number
  pub first_return : tile.Sizes t → In (R t) r → (start_side t r ≡ 0 → ⊥) → (space k : ℕ) → k ≤ space
      → (walk_of t r space ≡ Ok k) ↔ walk.FirstReturn t.edg (start_side t r) k
  -- "writes side numbers, start side first"; "Space beyond the steps is unchanged"
  pub writes : (a : ℕ) → walk.Begins t r a → (out : List ℕ) (k : ℕ) → walk_of t r (length out) ≡ Ok k
      → (path : ℕ → ℕ) → walk.Path t.edg a k path → walk.Writes k path out (sides_written t r (walk_of t r (length out)) out)

-- a tile checked, and walked
pub record TileMeans (t : Tile) (space : ℕ) : Type 0 where
  pub accepted : (verdict_of t space ≡ Ok tt) ↔ tile.Facts t space
  pub refused : (n p : ℕ) → (verdict_of t space ≡ Err (refusal n p)) ↔ tile.RefusedWith t space n p
  pub successors : (s : ℕ) → SuccessorMeans t.edg s
  pub walks : (r : ℕ) → WalkMeans t r

-- ======== DIRECTORIES

-- a directory loaded, then checked: its verdict is the check's verdict on the tile that its files say; `lengths` are those of the ten lent
-- columns, `space` that of the owner marks
pub record DirectoryMeans (z : Sizes) (d : Directory) (lengths : List ℕ) (space : ℕ) : Type 0 where
  pub accepted : (c : Counts) → (outcome_of z d lengths space ≡ Ok c) ↔ directory.AcceptedWith z d lengths space c
  pub refused : (w : Named) → (outcome_of z d lengths space ≡ Err w) ↔ directory.RefusedWith z d lengths space w
  -- "cnx if K occurs": cnd's header is accepted, and a column of its reading is of type K
  pub reads_cnx : (cnx_read d ≡ true) ↔ ShowsK d.cnd

-- what the program writes of a directory that is refused: "`REFUSE edg 23 2`: file, number, place". (Of one that is accepted: demand 3.)
pub record TextMeans (z : Sizes) (d : Directory) : Type 0 where
  pub refused : (w : Named) → outcome_of z d own_columns program_sides ≡ Err w → text_of z d ≡ refuse_line w.file w.refusal

-- ======== ALL OF THEM

pub record Demand2 : Type 0 where
  pub headers : (file : List ℕ) → HeaderMeans file
  -- document 02, No. 5: "Accept a column with that comma missing. A second comma missing in that column stays refusal 3. The reading records
  -- which form stood there .. This amends 01's header grammar"
  pub amended : (text : List ℕ) → Amended text
  pub columns : (file : List ℕ) (h : Reading) → AcceptedHeader file h → ColumnsMean file h
  pub no_columns : (file : List ℕ) (n p : ℕ) → header.RefusedWith file n p → NoColumnsMean file n p
  pub readers : (file : Bor (List ℕ)) (h : Reading) → AcceptedHeader file.now h → ReaderMeans file h
  pub readers_refused : (file : Bor (List ℕ)) (n p : ℕ) → header.RefusedWith file.now n p → (place : ℕ) → Refuses (reader_at file place) n p
  pub tables : (file index : List ℕ) (most : ℕ) → TableMeans file index most
  pub rows : (file index : List ℕ) (most : ℕ) (h : Reading) (n : ℕ) → opening.Opens file index most h n
      → (i : ℕ) → In n i → RowMeans file index n i
  pub values : (file index : List ℕ) (t : Table) (i k : ℕ) → ValueMeans file index t i k
  pub rectangles : (file index : List ℕ) (t : Table) (i k : ℕ) → RectangleMeans file index t i k
  pub triplets : (o : Order) → TripletMeans o
  pub waves : (text : List ℕ) → WaveMeans text
  pub limits : (measured limit : List ℕ) → LimitMeans measured limit
  pub loading : (f : Files) (most : ℕ) (lengths : List ℕ) → LoadMeans f most lengths
  pub tiles : (t : Tile) (space : ℕ) → TileMeans t space
  pub directories : (z : Sizes) (d : Directory) (lengths : List ℕ) (space : ℕ) → DirectoryMeans z d lengths space
  pub texts : (z : Sizes) (d : Directory) → TextMeans z d
