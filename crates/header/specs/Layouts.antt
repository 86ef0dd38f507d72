-- What a row needs of the header, by value: "so that nothing parses text per row".
use Rattle.std.specs.Prelude.{Bool, true, false, cond, List, ◌++◌, ℕ, zero, suc, pred, ◌+◌, ◌-◌, ◌*◌, replicate, Option, Some, None, Result}
use Rattle.laws.specs.Buffer.{one_to}
use Rattle.refusal.specs.declared.Refusal.{Refusal}
use Rattle.field.specs.declared.FieldType.{FieldType}
use Rattle.field.specs.declared.FieldType.TheVariants.{Text}
use Rattle.field.specs.Fields.{type_of, width_of, is_triplet}
use Rattle.header.specs.declared.Definition.{Definition}
use Rattle.header.specs.declared.ColumnLayout.{ColumnLayout}
use Rattle.header.specs.declared.Layout.{Layout}
use Rattle.header.specs.declared.Header.{Header}
use Rattle.header.specs.Places.{column}
use Rattle.header.specs.Names.{names_of}
use Rattle.limits.specs.Limits.{most_columns}
use Rattle.refusal.specs.Order.{unless}
use Rattle.header.specs.Judge.{order_of_file, text_length, head_of, column_count, id_column, header_refusal}

-- the type of a listed letter; text for the others, which no accepted header has
abbrev pub kind_of : Option FieldType → FieldType
kind_of (Some t) = t
kind_of None = Text

-- "Without a `*` or K column all rows have one width": a field of this definition has no fixed width
unfoldable pub varies : Definition → Bool
varies d = cond d.star true (is_triplet (kind_of (type_of d.kind)))

-- the count of a definition, 0 for a `*`
abbrev pub count_kept : Definition → ℕ
count_kept d = cond d.star 0 d.count

-- the bytes of a field of fixed width: so many elements of its type. It is 0 of the others, as a `*` has the count 0 and a triplet no width
unfoldable pub field_size : Definition → ℕ
field_size d = count_kept d * width_of (kind_of (type_of d.kind))

-- one of the columns 1..n has no fixed width
abbrev pub some_varies : List ℕ → ℕ → Bool
some_varies s zero = false
some_varies s (suc k) = cond (some_varies s k) true (varies (column s (suc k)))

-- the bytes of the columns 1..n that are fixed
abbrev pub bytes_of_all : List ℕ → ℕ → ℕ
bytes_of_all s zero = 0
bytes_of_all s (suc k) = bytes_of_all s k + field_size (column s (suc k))

-- what a row needs of column k: its type and count, and the fixed bytes of the columns before it, which in a row of fixed width is
-- where it starts
unfoldable pub column_layout : List ℕ → ℕ → ColumnLayout
column_layout s k =
    record {
      kind = kind_of (type_of (column s k).kind);
      star = (column s k).star;
      count = count_kept (column s k);
      offset = bytes_of_all s (pred k);
    }

abbrev pub blank_column : ColumnLayout
blank_column = record { kind = Text; star = false; count = 0; offset = 0 }

-- the bytes of a field of fixed width by what a row needs of its column; of those that a header gives, 0 of the others
abbrev pub fixed_bytes : ColumnLayout → ℕ
fixed_bytes c = c.count * width_of c.kind

-- the columns 1..n
abbrev pub laid_out : List ℕ → ℕ → List ColumnLayout
laid_out s n = one_to (column_layout s) n

-- the one width of the rows, or 0 where they have none (an id column is always there, so a width is at least 4)
unfoldable pub row_width : List ℕ → ℕ → ℕ
row_width s n = cond (some_varies s n) 0 (bytes_of_all s n)

unfoldable pub layout_of : List ℕ → Layout
layout_of file =
    record {
      order = order_of_file file;
      start = text_length file + 4;
      columns = column_count file;
      id = id_column (head_of file) (column_count file);
      width = row_width (head_of file) (column_count file);
      cols = laid_out (head_of file) (column_count file) ++ replicate (most_columns - column_count file) blank_column;
    }

-- what an accepted header hands on: its layout, and where its names lie
abbrev pub handed_on : List ℕ → Header
handed_on file = record { layout = layout_of file; names = names_of (head_of file) (column_count file) }

-- THE HEADER: what it hands on, or the refusal, which hands on nothing
unfoldable pub header_of : List ℕ → Result Header Refusal
header_of file = unless (header_refusal file) (handed_on file)
