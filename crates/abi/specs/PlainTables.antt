-- Answers over tables as plain numbers, for C. Each question opens its table first: a refusal of the opening is the answer.
use Rattle.std.specs.Prelude.{false, cond, List, pos, ℕ, eqb, Float, Some, None, Result, Ok, Err}
use Rattle.std.specs.Float.{fin}
use Rattle.refusal.specs.declared.Refusal.{Refusal}
use Rattle.number.specs.declared.Order.{Order}
use Rattle.number.specs.declared.Order.TheVariants.{Least, Most}
use Rattle.bounds.specs.Bounds as bounds
use Rattle.header.specs.declared.Header.{Header}
use Rattle.opening.specs.declared.Table.{Table}
use Rattle.opening.specs.declared.Opened.{Opened}
use Rattle.table.specs.declared.Value.TheVariants as value
use Rattle.limits.specs.Limits.{most_rows}
use Rattle.opening.specs.Opening.{opened_of}
use Rattle.table.specs.Rows.{Row, rows_refusal, row_of}
use Rattle.table.specs.Values.{ValueRead, value_of}
use Rattle.rectangle.specs.Rectangles as rectangle
use Rattle.abi.specs.declared.PlainHeader.{PlainHeader}
use Rattle.abi.specs.declared.PlainTable.{PlainTable}
use Rattle.abi.specs.declared.PlainRow.{PlainRow}
use Rattle.abi.specs.declared.PlainValue.{PlainValue}
use Rattle.abi.specs.declared.PlainRectangle.{PlainRectangle}

-- a byte order by its letter
abbrev pub letter_of : Order → ℕ
letter_of Least = 76
letter_of Most = 77

abbrev pub plain_header : Result Header Refusal → PlainHeader
plain_header (Ok h) =
    record {
      number = 0;
      place = 0;
      order = letter_of h.layout.order;
      start = h.layout.start;
      columns = h.layout.columns;
      id = h.layout.id;
      width = h.layout.width;
    }
plain_header (Err q) = record { number = q.number; place = q.place; order = 0; start = 0; columns = 0; id = 0; width = 0 }

abbrev pub plain_table : Result Opened Refusal → PlainTable
plain_table (Ok o) =
    record {
      number = 0;
      place = 0;
      order = letter_of o.table.layout.order;
      start = o.table.layout.start;
      columns = o.table.layout.columns;
      id = o.table.layout.id;
      width = o.table.layout.width;
      rows = o.table.rows;
    }
plain_table (Err q) = record { number = q.number; place = q.place; order = 0; start = 0; columns = 0; id = 0; width = 0; rows = 0 }

abbrev pub on_table : {A : Type 0} → Result Opened Refusal → (Table → Result A Refusal) → Result A Refusal
on_table (Ok o) ask = ask o.table
on_table (Err q) ask = Err q

-- what is asked of the table that the file and its index are
abbrev pub in_table : {A : Type 0} → List ℕ → List ℕ → (Table → Result A Refusal) → Result A Refusal
in_table file index ask = on_table (opened_of file index most_rows) ask

-- ---- a row

abbrev pub plain_row : Row → PlainRow
plain_row (Ok lies) = record { number = 0; place = 0; start = lies.start; end = lies.end }
plain_row (Err q) = record { number = q.number; place = q.place; start = 0; end = 0 }

-- row i of the table that the file and its index are
unfoldable pub row_in : List ℕ → List ℕ → ℕ → Row
row_in file index i = in_table file index (λ t. row_of file index t i)

-- ---- every row

-- the table that was opened, with every row judged, the lowest that is refused first
abbrev pub judged : List ℕ → List ℕ → Result Opened Refusal → Result Opened Refusal
judged file index (Ok o) = cond (eqb (rows_refusal file index o.table).number 0) (Ok o) (Err (rows_refusal file index o.table))
judged file index (Err q) = Err q

abbrev pub rows_judged : List ℕ → List ℕ → Result Opened Refusal → PlainTable
rows_judged file index o = plain_table (judged file index o)

-- ---- a value: its kind is the number of its case below, 1 to 13

abbrev pub pattern : ℕ → ℕ → PlainValue
pattern kind b = record { number = 0; place = 0; kind = kind; short = pos 0; integer = pos 0; bits = b; id = 0; tile = 0; other = 0; start = 0; bytes = 0 }

abbrev pub part_of : ℕ → ℕ → ℕ → PlainValue
part_of kind p n = record { number = 0; place = 0; kind = kind; short = pos 0; integer = pos 0; bits = 0; id = 0; tile = 0; other = 0; start = p; bytes = n }

abbrev pub plain_value : ValueRead → PlainValue
plain_value (Ok (value.Short (Some v))) =
    record { number = 0; place = 0; kind = 1; short = v; integer = pos 0; bits = 0; id = 0; tile = 0; other = 0; start = 0; bytes = 0 }
plain_value (Ok (value.Short None)) = part_of 2 0 0
plain_value (Ok (value.Integer (Some v))) =
    record { number = 0; place = 0; kind = 3; short = pos 0; integer = v; bits = 0; id = 0; tile = 0; other = 0; start = 0; bytes = 0 }
plain_value (Ok (value.Integer None)) = part_of 4 0 0
plain_value (Ok (value.Float b)) = pattern 5 b
plain_value (Ok (value.FloatNull b)) = pattern 6 b
plain_value (Ok (value.Double b)) = pattern 7 b
plain_value (Ok (value.DoubleNull b)) = pattern 8 b
plain_value (Ok (value.Triplet ids)) =
    record { number = 0; place = 0; kind = 9; short = pos 0; integer = pos 0; bits = 0; id = ids.id; tile = ids.tile; other = ids.other; start = 0; bytes = 0 }
plain_value (Ok (value.Text e)) = part_of 10 e.start e.bytes
plain_value (Ok (value.Date e)) = part_of 11 e.start e.bytes
plain_value (Ok (value.Coordinates e)) = part_of 12 e.start e.bytes
plain_value (Ok value.Empty) = part_of 13 0 0
plain_value (Err q) =
    record { number = q.number; place = q.place; kind = 0; short = pos 0; integer = pos 0; bits = 0; id = 0; tile = 0; other = 0; start = 0; bytes = 0 }

-- the value of column k in row i of the table that the file and its index are
unfoldable pub value_in : List ℕ → List ℕ → ℕ → ℕ → ValueRead
value_in file index i k = in_table file index (λ t. value_of file index t i k)

-- ---- a rectangle, in the one width or the other; the four of the other width are 0.0

abbrev pub zero : Float
zero = fin false 0 (pos 0)

abbrev pub nowhere : bounds.Rectangle
nowhere = record { least_x = zero; least_y = zero; greatest_x = zero; greatest_y = zero }

abbrev pub plain_bounds : ℕ → ℕ → ℕ → bounds.Rectangle → bounds.Rectangle → PlainRectangle
plain_bounds number place width s d =
    record {
      number = number;
      place = place;
      width = width;
      short_least_x = s.least_x;
      short_least_y = s.least_y;
      short_greatest_x = s.greatest_x;
      short_greatest_y = s.greatest_y;
      least_x = d.least_x;
      least_y = d.least_y;
      greatest_x = d.greatest_x;
      greatest_y = d.greatest_y;
    }

abbrev pub plain_rectangle : rectangle.Answer → PlainRectangle
plain_rectangle (rectangle.short r) = plain_bounds 0 0 4 r nowhere
plain_rectangle (rectangle.double r) = plain_bounds 0 0 8 nowhere r
plain_rectangle (rectangle.refused_with q) = plain_bounds q.number q.place 0 nowhere nowhere

abbrev pub rectangle_under : Result Opened Refusal → (Table → rectangle.Answer) → rectangle.Answer
rectangle_under (Ok o) ask = ask o.table
rectangle_under (Err q) ask = rectangle.refused_with q

-- the rectangle of the coordinates in column k of row i of the table that the file and its index are
unfoldable pub rectangle_in : List ℕ → List ℕ → ℕ → ℕ → rectangle.Answer
rectangle_in file index i k = rectangle_under (opened_of file index most_rows) (λ t. rectangle.rectangle_of file index t i k)
