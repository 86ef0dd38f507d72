-- The types with coordinates, and that what is found in a value is what is found in its row: a value of such a type is refused only with
-- its row.
use mathlib.Core.Path.{◌≡◌, refl, sym, ap, ◌∙◌}
use mathlib.Core.Logic.{◌⊎◌, inl, inr}
use mathlib.Core.Bool.{true, false, true≢false}
use mathlib.Core.List.{List}
use Prim.Native.Nat.{ℕ}
use lib.Ieee.{Format, binary32, binary64}
use Rattle.field.specs.declared.FieldType.{FieldType}
use Rattle.field.specs.declared.FieldType.TheVariants as type
use Rattle.bounds.specs.declared.Parts.{Parts}
use Rattle.bounds.specs.declared.Parts.TheVariants.{Two, Three}
use Rattle.header.specs.declared.ColumnLayout.{ColumnLayout}
use Rattle.header.specs.declared.Layout.{Layout}
use Rattle.opening.specs.declared.Table.{Table}
use Rattle.std.specs.Prelude.{Ok, Err}
use Rattle.laws.proofs.TestLaws.{clash}
use Rattle.refusal.specs.declared.Refusal.{Refusal}
use Rattle.table.specs.declared.Value.{Value}
use Rattle.table.specs.Rows.{Row, rows_of, columns_of, no_such_row, no_such_column, column_at, column_place, row_of}
use Rattle.table.specs.Values.{ValueRead, in_row as row_value, field_in, value_of, part_of}
use Rattle.table.proofs.RowLaws.{such}
use Rattle.table.proofs.ValueRefusedExactly.{shown_refused, value_in_row}
use Rattle.rectangle.specs.Rectangles.{Answer, refused_with, by_type, is_coordinates, in_row, coordinates_in, rectangle_of}
use Rattle.rectangle.specs.Words.{type_with}

pub coordinates_are : (f : Format) (p : Parts) → is_coordinates (type_with f p) ≡ true
coordinates_are binary32 Two = refl
coordinates_are binary32 Three = refl
coordinates_are binary64 Two = refl
coordinates_are binary64 Three = refl

-- a type is one of C, Z, B, Y, or has no coordinates
pub kind_cases : (x : FieldType) → ((f : Format) × (p : Parts) × (x ≡ type_with f p)) ⊎ (is_coordinates x ≡ false)
kind_cases type.ShortPair = inl (binary32, Two, refl)
kind_cases type.ShortTriple = inl (binary32, Three, refl)
kind_cases type.DoublePair = inl (binary64, Two, refl)
kind_cases type.DoubleTriple = inl (binary64, Three, refl)
kind_cases type.Text = inr refl
kind_cases type.Latin = inr refl
kind_cases type.Float = inr refl
kind_cases type.Double = inr refl
kind_cases type.Short = inr refl
kind_cases type.Integer = inr refl
kind_cases type.Date = inr refl
kind_cases type.NullField = inr refl
kind_cases type.Triplet = inr refl

module _ (file index : List ℕ) (t : Table) (i k : ℕ) where
  abbrev l : Layout
  l = t.layout

  abbrev column : ColumnLayout
  column = column_at l k

  abbrev bounds : ℕ → ℕ → Answer
  bounds start end = by_type column.kind l.order (coordinates_in file l k start end) k

  -- a field of coordinates is refused only with its row
  refused_row : is_coordinates column.kind ≡ true → (q : Refusal) (x : Row) → row_value x (field_in file l k) ≡ Err q
      → in_row x bounds ≡ refused_with q
  refused_row c q (Ok lies) e =
      let w = (shown_refused l.order file column (column_place file l lies.start lies.end k) lies.end q).0 e in
      absurd (true≢false (sym c ∙ ap is_coordinates w.0))
  refused_row c q (Err r) e = let w : r ≡ q = cc in ap refused_with w

  found_row : (v : Value) (x : Row) → row_value x (field_in file l k) ≡ Ok v
      → by_type column.kind l.order (part_of file (Ok v)) k ≡ in_row x bounds
  found_row v (Ok lies) e = ap (λ (r : ValueRead). by_type column.kind l.order (part_of file r) k) (sym e)
  found_row v (Err r) e = clash (cc)

  -- of a row and a column of coordinates that are there
  module _ (a : no_such_row t i ≡ false) (b : no_such_column l k ≡ false) (c : is_coordinates column.kind ≡ true) where
    read : row_value (row_of file index t i) (field_in file l k) ≡ value_of file index t i k
    read = sym (value_in_row file index t i k (such (rows_of t) i a) (such (columns_of l) k b))

    -- A VALUE THAT IS REFUSED is the refusal
    pub refused_rectangle : (q : Refusal) → value_of file index t i k ≡ Err q → rectangle_of file index t i k ≡ refused_with q
    unfolding rectangle_of
    refused_rectangle q u = rw (a, b, c) (refused_row c q (row_of file index t i) (read ∙ u))

    -- WHAT IS FOUND IN A VALUE IS THE RECTANGLE
    pub found_rectangle : (v : Value) → value_of file index t i k ≡ Ok v
        → by_type column.kind l.order (part_of file (Ok v)) k ≡ rectangle_of file index t i k
    unfolding rectangle_of
    found_rectangle v u = rw (a, b, c) (found_row v (row_of file index t i) (read ∙ u))
