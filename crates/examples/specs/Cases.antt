-- "Examples (P: proved, as one table under a single statement)": what each of P1 to P11 hands to a public operation, and what document 01
-- says is answered; and after them what a request of document 02 asks for. The operations' contracts are equations with the definitions
-- that stand here.
use Rattle.std.specs.Prelude.{◌≡◌, Bool, true, false, List, [], ◌∷◌, ◌++◌, map, ℕ, length, replicate, Some, Ok, Err}
use Prim.Native.String.{String}
use Rattle.laws.specs.Buffer.{one_to}
use Rattle.laws.specs.Texts.{bytes}
use Rattle.refusal.specs.declared.Refusal.{Refusal}
use Rattle.refusal.specs.Order.{refusal}
use Rattle.number.specs.declared.Order.{Order}
use Rattle.number.specs.declared.Order.TheVariants.{Least, Most}
use Rattle.number.specs.Bytes.{bytes_of}
use Rattle.header.specs.declared.Definition.{Definition}
use Rattle.header.specs.Layouts.{layout_of, handed_on, header_of}
use Rattle.header.specs.Steps.{step_of}
use Rattle.triplet.specs.declared.Ids.{Ids}
use Rattle.triplet.specs.Triplet.{ids, triplet, triplet_of}
use Rattle.triplet.specs.Written.{written_of, row_after}
use Rattle.wave.specs.declared.Judgement.{Judgement}
use Rattle.wave.specs.declared.Judgement.TheVariants.{Passes, TooHigh}
use Rattle.wave.specs.Height.{height_of}
use Rattle.wave.specs.Judgement.{judgement_of}
use Rattle.tile.specs.Columns.{Tile, R, sides}
use Rattle.tile.specs.Check.{verdict_of}
use Rattle.tile.specs.Walk.{Walked, walk_of, sides_written}

-- ---- what is asked and answered

pub data Case : Type 0 where
  -- a header text of L bytes is accepted, with rows of so many bytes from a byte on
  rows_of : String → ℕ → ℕ → ℕ → Case
  -- the file of a header text, with this L before it, is refused
  no_header : String → ℕ → Refusal → Case
  -- the file of a header text, with this L before it, gives a column at a place: whether its last comma stands, and the place after it
  column-at : String → ℕ → ℕ → Bool → ℕ → Case
  -- a triplet is these bytes: they are what is written, and what it is read from
  triplet_is : Order → Ids → List ℕ → Case
  -- a type byte is refused
  no_triplet : ℕ → Refusal → Case
  -- a measured height against a limit
  against : String → String → Judgement → Case
  -- a text is refused as a height
  no_height : String → Refusal → Case
  -- a tile is accepted, and the walks from its ring rows have so many steps
  rings_of : Tile → List ℕ → Case
  -- the walk from a ring row of a tile, into an output with room for just these sides, writes them
  writes_of : Tile → ℕ → List ℕ → Case
  -- a tile is refused
  no_tile : Tile → Refusal → Case

-- "Four bytes L, then L bytes of text, then rows", of no row, least significant byte first
abbrev pub file_of : ℕ → String → List ℕ
file_of L text = bytes_of Least 4 L ++ bytes text

-- the answers of the walks from all ring rows, with room for all sides
abbrev pub walks : Tile → List Walked
walks t = one_to (λ r. walk_of t r (sides t)) (R t)

abbrev pub Holds : Case → Type 0
Holds (rows_of text L width start) =
    (length (bytes text) ≡ L)
    × (header_of (file_of L text) ≡ Ok (handed_on (file_of L text)))
    × ((layout_of (file_of L text)).width ≡ width)
    × ((layout_of (file_of L text)).start ≡ start)
Holds (no_header text L q) = header_of (file_of L text) ≡ Err q
Holds (column-at text L place comma after) =
    (d : Definition) × (step_of (file_of L text) place ≡ Ok (Some d)) × (d.comma ≡ comma) × (d.after ≡ after)
-- written at the start of a row of just those bytes
Holds (triplet_is o t s) =
    (written_of (length s) 0 t ≡ Ok (length s))
    × (row_after (written_of (length s) 0 t) o (replicate (length s) 0) 0 t ≡ s)
    × (triplet_of o s ≡ Ok (triplet t (length s)))
-- in either order, whatever follows
Holds (no_triplet t q) = (o : Order) (later : List ℕ) → triplet_of o (t ∷ later) ≡ Err q
Holds (against measured limit j) = judgement_of (bytes measured) (bytes limit) ≡ Ok j
-- alone, and as the limit of whatever is measured
Holds (no_height text q) =
    (height_of (bytes text) ≡ Err q) × ((measured : List ℕ) → judgement_of measured (bytes text) ≡ Err q)
Holds (rings_of t steps) = (verdict_of t (sides t) ≡ Ok tt) × (walks t ≡ map Ok steps)
Holds (writes_of t r sides) =
    (walk_of t r (length sides) ≡ Ok (length sides))
    × (sides_written t r (walk_of t r (length sides)) (replicate (length sides) 0) ≡ sides)
Holds (no_tile t q) = verdict_of t (sides t) ≡ Err q

-- each case of a table is so
abbrev pub All : (Case → Type 0) → List Case → Type 0
All Such [] = Unit {0}
All Such (c ∷ l) = Such c × All Such l

-- ---- the table

-- P1's text
abbrev pub ring_table : String
ring_table = "L;Ring Table;-;id=I,1,P,Row Id,-,-,-,:fac_id=I,1,N,Face,-,-,-,:start_edge=I,1,N,Edge,-,-,-,:;"

-- P1's text, its second column without the last comma, and without the last two
abbrev pub ring_table_lacking : String
ring_table_lacking = "L;Ring Table;-;id=I,1,P,Row Id,-,-,-,:fac_id=I,1,N,Face,-,-,-:start_edge=I,1,N,Edge,-,-,-,:;"

abbrev pub ring_table_lacking_two : String
ring_table_lacking_two = "L;Ring Table;-;id=I,1,P,Row Id,-,-,-,:fac_id=I,1,N,Face,-,-:start_edge=I,1,N,Edge,-,-,-,:;"

-- "document 000, tile MJ21: edges 1 A-B, 2 B-C, 3 C-A; right face 2, left 1; right edges 2, 3, 1", and "first edges 1, 1, 2", by its left
-- edges, and by ring_ptr, fac_id and start_edge of its rings. A, B and C are nodes 1, 2 and 3
abbrev pub mj21_rings : List ℕ → List ℕ → List ℕ → List ℕ → Tile
mj21_rings left_edges ring_ptrs fac_ids start_edges =
    record {
      edg =
          record {
            start_node = 1 ∷ 2 ∷ 3 ∷ [];
            end_node = 2 ∷ 3 ∷ 1 ∷ [];
            right_face = 2 ∷ 2 ∷ 2 ∷ [];
            left_face = 1 ∷ 1 ∷ 1 ∷ [];
            right_edge = 2 ∷ 3 ∷ 1 ∷ [];
            left_edge = left_edges;
          };
      ring_ptr = ring_ptrs;
      fac_id = fac_ids;
      start_edge = start_edges;
      first_edge = 1 ∷ 1 ∷ 2 ∷ [];
    }

-- "Rings for faces 1 and 2 from edge 1"; "face ring pointers 1 and 2"
abbrev pub mj21 : List ℕ → Tile
mj21 left_edges = mj21_rings left_edges (1 ∷ 2 ∷ []) (1 ∷ 2 ∷ []) (1 ∷ 1 ∷ [])

-- "one loop, right face 2, left 1, both links 1"; a ring for each face
abbrev pub loop : Tile
loop =
    record {
      edg =
          record {
            start_node = 1 ∷ [];
            end_node = 1 ∷ [];
            right_face = 2 ∷ [];
            left_face = 1 ∷ [];
            right_edge = 1 ∷ [];
            left_edge = 1 ∷ [];
          };
      ring_ptr = 1 ∷ 2 ∷ [];
      fac_id = 1 ∷ 2 ∷ [];
      start_edge = 1 ∷ 1 ∷ [];
      first_edge = 1 ∷ [];
    }

-- "one dangling edge, both faces 1, both links 1"; one ring
abbrev pub dangling : Tile
dangling =
    record {
      edg =
          record {
            start_node = 1 ∷ [];
            end_node = 2 ∷ [];
            right_face = 1 ∷ [];
            left_face = 1 ∷ [];
            right_edge = 1 ∷ [];
            left_edge = 1 ∷ [];
          };
      ring_ptr = 1 ∷ [];
      fac_id = 1 ∷ [];
      start_edge = 1 ∷ [];
      first_edge = 1 ∷ 1 ∷ [];
    }

abbrev pub cases : List Case
cases =
    -- P1: "has L = 93, rows of 12 from byte 97"
    rows_of ring_table 93 12 97
    -- P2: "with L = 92, refusal 3"; the text stops while more is wanted: at L + 4
    ∷ no_header ring_table 92 (refusal 3 96)
    -- P3: "triplet 6, 260, 210 (document 002) is `64 06 04 01 D2` under `L`"
    ∷ triplet_is Least (ids 6 260 210) (0x64 ∷ 0x06 ∷ 0x04 ∷ 0x01 ∷ 0xD2 ∷ [])
    -- P4: "1, 0, 0 is `40 01`", in either order
    ∷ triplet_is Least (ids 1 0 0) (0x40 ∷ 0x01 ∷ [])
    ∷ triplet_is Most (ids 1 0 0) (0x40 ∷ 0x01 ∷ [])
    -- P5: "type byte `41` is 11"; at the type byte
    ∷ no_triplet 0x41 (refusal 11 0)
    -- P6: "`10.0` against limit `2.5` does not pass; `2.5` does"
    ∷ against "10.0" "2.5" TooHigh
    ∷ against "2.5" "2.5" Passes
    -- P7: "four spaces, refusal 16 at 0"
    ∷ no_height "    " (refusal 16 0)
    -- P8: "left 3, 1, 2. Rings for faces 1 and 2 from edge 1: 3 and 3 steps"
    ∷ rings_of (mj21 (3 ∷ 1 ∷ 2 ∷ [])) (3 ∷ 3 ∷ [])
    -- P9: "left edge of 1 made 2 gives 23 at side 2"
    ∷ no_tile (mj21 (2 ∷ 1 ∷ 2 ∷ [])) (refusal 23 2)
    -- P10: "one loop [..]: two rings of 1 step"
    ∷ rings_of loop (1 ∷ 1 ∷ [])
    -- P11: "one dangling edge [..]: one ring of 2 steps": its right side, 1, then its left side, 2
    ∷ rings_of dangling (2 ∷ [])
    ∷ writes_of dangling 1 (1 ∷ 2 ∷ [])
    -- document 02, No. 1: "Accept start 0 in ring row 1 when its face is 1, whatever E is. Such a ring has 0 steps and owns no side; other
    -- rings follow in its face's run. Elsewhere 0 stays refusal 29": P8's tile with such a row 1, and with the 0 in row 2 instead
    ∷ rings_of (mj21_rings (3 ∷ 1 ∷ 2 ∷ []) (1 ∷ 3 ∷ []) (1 ∷ 1 ∷ 2 ∷ []) (0 ∷ 1 ∷ 1 ∷ [])) (0 ∷ 3 ∷ 3 ∷ [])
    ∷ no_tile (mj21_rings (3 ∷ 1 ∷ 2 ∷ []) (1 ∷ 3 ∷ []) (1 ∷ 1 ∷ 2 ∷ []) (1 ∷ 0 ∷ 1 ∷ [])) (refusal 29 2)
    -- document 02, No. 5: "Accept a column with that comma missing. A second comma missing in that column stays refusal 3. The reading records
    -- which form stood there"
    ∷ rows_of ring_table_lacking 92 12 96
    ∷ column-at ring_table_lacking 92 19 true 42
    ∷ column-at ring_table_lacking 92 42 false 66
    ∷ no_header ring_table_lacking_two 90 (refusal 3 63)
    ∷ []
