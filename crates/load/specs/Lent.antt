-- The ten columns as they are lent to be written.
use Rattle.std.specs.Prelude.{◌≡◌}
use Rattle.load.specs.declared.ColumnsMut.{ColumnsMut}
use Rattle.load.specs.Columns.{Columns, columns}

-- what stands in them
abbrev pub contents : ColumnsMut → Columns
contents l =
    columns l.start_node.now l.end_node.now l.right_face.now l.left_face.now l.right_edge.now l.left_edge.now
    l.ring_ptr.now l.fac_id.now l.start_edge.now l.first_edge.now

-- the same ten columns, whatever stands in them
abbrev pub SameColumns : ColumnsMut → ColumnsMut → Type 0
SameColumns old new =
    (new.start_node.ghost_name ≡ old.start_node.ghost_name)
    × (new.end_node.ghost_name ≡ old.end_node.ghost_name)
    × (new.right_face.ghost_name ≡ old.right_face.ghost_name)
    × (new.left_face.ghost_name ≡ old.left_face.ghost_name)
    × (new.right_edge.ghost_name ≡ old.right_edge.ghost_name)
    × (new.left_edge.ghost_name ≡ old.left_edge.ghost_name)
    × (new.ring_ptr.ghost_name ≡ old.ring_ptr.ghost_name)
    × (new.fac_id.ghost_name ≡ old.fac_id.ghost_name)
    × (new.start_edge.ghost_name ≡ old.start_edge.ghost_name)
    × (new.first_edge.ghost_name ≡ old.first_edge.ghost_name)
