-- The tile that stands at the front of ten columns, and counts that the columns cannot have.
use Rattle.std.specs.Prelude.{Bool, cond, ◌||◌, List, ℕ, ltb, length, take, Some, None}
use Rattle.side.specs.Edges.{edges}
use Rattle.tile.specs.Columns.{Tile, tile}
use Rattle.load.specs.declared.Counts.{Counts}
use Rattle.load.specs.Columns.{Columns}
use Rattle.directory.specs.Files.{AtFault}
use Rattle.report.specs.declared.FileName.TheVariants.{Edg, Fac, Rng, Cnd}

-- the tile that stands at their front: as many rows of each as the counts say
abbrev pub held : Counts → Columns → Tile
held c l =
    tile
    (edges (take c.edges l.start_node) (take c.edges l.end_node) (take c.edges l.right_face)
    (take c.edges l.left_face) (take c.edges l.right_edge) (take c.edges l.left_edge))
    (take c.faces l.ring_ptr) (take c.rings l.fac_id) (take c.rings l.start_edge) (take c.nodes l.first_edge)

-- a column that has not so many rows
abbrev pub short : ℕ → List ℕ → Bool
short n column = ltb (length column) n

abbrev pub edges_short : Counts → Columns → Bool
edges_short c l =
    (short c.edges l.start_node || short c.edges l.end_node)
    || ((short c.edges l.right_face || short c.edges l.left_face) || (short c.edges l.right_edge || short c.edges l.left_edge))

-- counts that the columns cannot have: the first table of which a column is shorter than they say
unfoldable pub short_of : Counts → Columns → AtFault
short_of c l =
    cond (edges_short c l) (Some Edg)
    (cond (short c.faces l.ring_ptr) (Some Fac)
    (cond (short c.rings l.fac_id || short c.rings l.start_edge) (Some Rng)
    (cond (short c.nodes l.first_edge) (Some Cnd) None)))
