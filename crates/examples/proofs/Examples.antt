-- P1 to P11 of document 01 hold, and the cases of document 02: every case of the table, computed from the definitions that the operations'
-- contracts are equations with.
use mathlib.Core.Path.{refl}
use lib.Dec.{eqb-suc-zero}
use lib.ListN.{length}
use Rattle.refusal.specs.Order.{first, located, lowest_of}
use Rattle.number.specs.Bytes.{order_of, value, number, bytes_of}
use Rattle.grammar.specs.Fields.{printable, letter, plain, digit, holds, allowed}
use Rattle.grammar.specs.Scan.{takes, closes, ends, stars, lacks_comma, move, scan_of}
use Rattle.field.specs.Fields.{type_of, count_right}
use Rattle.header.specs.Places.{seek, count_of, definition, first_place, place_after}
use Rattle.header.specs.Names.{lower, same_name, is_named, column_named}
use Rattle.header.specs.Judge.{order_of_file, text_length, head_of, column_count, key_listed, sound, id_column, id_wrong, header_refusal}
use Rattle.header.specs.Steps.{step_of}
use Rattle.header.specs.Layouts.{varies, field_size, column_layout, row_width, layout_of, header_of}
use Rattle.triplet.specs.Triplet.{part_at, parts_of, triplet_of}
use Rattle.triplet.specs.Written.{width_for, form, encoded, size_of, written_of}
use Rattle.wave.specs.Height.{height_of}
use Rattle.wave.specs.Judgement.{judgement_of}
use Rattle.side.specs.Successor.{leaving_edge, successor}
use Rattle.tile.specs.Columns.{start_side, empty_start}
use Rattle.tile.specs.Check.{slices_unequal, too_many_rows, sizes_wrong, verdict}
use Rattle.tile.specs.Walk.{moves, walk_of}
use Rattle.examples.specs.Cases.{Holds, All, file_of, ring_table_lacking, cases}

-- the first of the cases, and the others
infixr 10 ◌then◌
abbrev ◌then◌ : {A B : Type 0} → A → B → A × B
a then b = (a, b)

pub all_hold : All Holds cases
unfolding first located lowest_of order_of value number bytes_of
    printable letter plain digit holds allowed takes closes ends stars lacks_comma move scan_of type_of count_right
    seek count_of definition first_place place_after lower same_name is_named column_named order_of_file text_length head_of column_count
    key_listed sound id_column id_wrong header_refusal varies field_size column_layout row_width layout_of header_of step_of
    part_at parts_of triplet_of width_for form encoded size_of written_of height_of judgement_of
    leaving_edge successor start_side empty_start slices_unequal too_many_rows sizes_wrong verdict moves walk_of
all_hold =
    -- P1, P2
    (refl, refl, refl, refl)
    then refl
    -- P3, P4, P5
    then (refl, refl, refl)
    then (refl, refl, refl)
    then (refl, refl, refl)
    then (λ o later. rw (eqb-suc-zero (length later)))
    -- P6, P7
    then refl
    then refl
    then (refl, (λ measured. refl))
    -- P8, P9
    then (refl, refl)
    then refl
    -- P10, P11
    then (refl, refl)
    then (refl, refl)
    then (refl, refl)
    -- No. 1
    then (refl, refl)
    then refl
    -- No. 5
    then (refl, refl, refl, refl)
    then (definition (head_of (file_of 92 ring_table_lacking)) 19, refl, refl, refl)
    then (definition (head_of (file_of 92 ring_table_lacking)) 42, refl, refl, refl)
    then refl
    then tt
