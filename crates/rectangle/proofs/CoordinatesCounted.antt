-- THE COORDINATES OF A RECTANGLE ARE ALL THAT THE FIELD HAS: in a right row of an opened table they are as many as the `*` field's count
-- says, or the column's, so that no coordinate is left out and nothing else is read as one.
use mathlib.Core.Path.{◌≡◌, refl, ap, subst, ◌∙◌}
use mathlib.Core.List.{List}
use Prim.Native.Nat.{ℕ, ◌*◌, ◌≤◌}
use native.Mathlib.Omega.{arith}
use lib.Ieee.{Format, binary32, binary64}
use lib.ListN.{length, drop, length-take, length-drop}
use Rattle.laws.specs.Lowest.{In}
use Rattle.laws.proofs.LowestLaws.{bool_cases}
use Rattle.number.specs.declared.Order.{Order}
use Rattle.grammar.specs.Words.{Reading}
use Rattle.field.specs.declared.FieldType.{FieldType}
use Rattle.field.specs.Fields.{width_of}
use Rattle.bounds.specs.declared.Parts.{Parts}
use Rattle.bounds.specs.declared.Parts.TheVariants.{Two, Three}
use Rattle.bounds.specs.Bounds.{part_count, part_bytes, count}
use Rattle.bounds.proofs.ReadLaws.{count_exact}
use Rattle.header.specs.declared.ColumnLayout.{ColumnLayout}
use Rattle.std.specs.Prelude.{Ok}
use Rattle.table.specs.declared.Value.TheVariants as value
use Rattle.table.specs.Rows.{column_at, column_place}
use Rattle.table.specs.Values.{ValueRead, part_at, elements, elements_start, elements_bytes, shown, value_of, part_of}
use Rattle.opening.specs.Words.{Opens}
use Rattle.table.specs.Words.{RowRight, PartInside}
use Rattle.table.proofs.RowExactly.{inside-file}
use Rattle.table.specs.Serving.OpenedRows.{opened_row}
use Rattle.table.proofs.ValueOfRow.{value_of_row, value_inside}
use Rattle.rectangle.specs.Words.{type_with, coordinates_said, line}

-- "8, 12; 16, 24"
width_with : (f : Format) (p : Parts) → width_of (type_with f p) ≡ part_count p * part_bytes f
width_with binary32 Two = refl
width_with binary32 Three = refl
width_with binary64 Two = refl
width_with binary64 Three = refl

coordinates_shown : (f : Format) (p : Parts) (o : Order) (s : List ℕ) (c : ColumnLayout) (at end : ℕ) → c.kind ≡ type_with f p
    → shown o s c at end ≡ Ok (value.Coordinates (elements o s c at end))
unfolding shown
coordinates_shown binary32 Two o s c at end e = rw e
coordinates_shown binary32 Three o s c at end e = rw e
coordinates_shown binary64 Two o s c at end e = rw e
coordinates_shown binary64 Three o s c at end e = rw e

-- a part that lies inside what is lent has all its bytes
part_length : (s : List ℕ) (start end p n : ℕ) → end ≤ length s → PartInside start end (Ok (value.Coordinates (part_at p n)))
    → length (part_of s (Ok (value.Coordinates (part_at p n)))) ≡ n
unfolding part_of
part_length s start end p n a b = length-take n (drop p s) ∙ omega (arith, length-drop p s, b.0, b.1)

module _ (file index : List ℕ) (most : ℕ) (h : Reading) (n : ℕ) (o : Opens file index most h n) (i : ℕ) (r : In n i) where
  open opened_row file index n i use {layout as l, table as opened, start, end}

  module _ (right : RowRight file l start end i) (k : ℕ) (c : In l.columns k) (f : Format) (p : Parts)
      (e : (column_at l k).kind ≡ type_with f p) where
    abbrev at : ℕ
    at = column_place file l start end k

    abbrev said : ℕ
    said = coordinates_said l.order file (column_at l k) at

    abbrev whole : end ≤ length file
    whole = inside-file file index most h n o i r

    value_is : value_of file index opened i k ≡ Ok (value.Coordinates (elements l.order file (column_at l k) at end))
    value_is =
        value_of_row file index most h n o i r right k c file (record { in_first = whole; in_second = whole; same = refl })
        ∙ coordinates_shown f p l.order file (column_at l k) at end e

    -- the bytes are those of so many coordinates
    bytes_are : elements_bytes l.order file (column_at l k) at ≡ said * width_of (column_at l k).kind
    bytes_are = bool_cases (column_at l k).star (λ b. rw b) (λ b. rw b)

    -- THE COORDINATES are as many as the field says
    pub coordinates_counted : count (line file index opened i k f p) ≡ said
    coordinates_counted =
        let v = elements_start (column_at l k) at end in
        let m = elements_bytes l.order file (column_at l k) at in
        let inside = subst (PartInside start end) value_is (value_inside file index most h n o i r right k c) in
        count_exact f p l.order (part_of file (value_of file index opened i k)) said
        (ap (λ (x : ValueRead). length (part_of file x)) value_is
        ∙ part_length file start end v m whole inside
        ∙ bytes_are
        ∙ ap (λ (x : FieldType). said * width_of x) e
        ∙ ap (λ (w : ℕ). said * w) (width_with f p))
