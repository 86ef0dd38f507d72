-- A row walked, and where it lies, by plain numbers, which are taken from the layout once for all rows. That the walk comes as far as the
-- layout says is proved in PlanLaws.
use Rattle.std.specs.Prelude.{cond, List, ℕ, zero, suc, min, ◌+◌, ◌-◌, ◌*◌, eqb, leb, get_or, set, replicate, Option, Some, None, Ok, Err}
use Rattle.laws.specs.Buffer.{front}
use Rattle.number.specs.declared.Order.{Order}
use Rattle.field.specs.Fields.{width_of, is_triplet}
use Rattle.header.specs.declared.ColumnLayout.{ColumnLayout}
use Rattle.header.specs.declared.Layout.{Layout}
use Rattle.header.specs.Layouts.{fixed_bytes}
use Rattle.limits.specs.Limits.{most_columns}
use Rattle.opening.specs.Opening.{entry_end}
use Rattle.table.specs.declared.Unreached.TheVariants.{Short}
use Rattle.table.specs.declared.rows.Rows.{Rows}
use Rattle.table.specs.Rows.{columns_of, column_at, no_such_column, outside, Reach, plain_end, star_end, triplet_end, onward}

-- ---- where rows lie

-- "Without a `*` or K column all rows have one width": where row k ends, and row k + 1 starts
abbrev pub fixed_bound : ℕ → ℕ → ℕ → ℕ
fixed_bound first width k = first + width * k

-- THE BOUND of rows of one width, or of rows with an index, by plain numbers
unfoldable pub bound_by : Order → List ℕ → ℕ → ℕ → ℕ → ℕ
bound_by o index first width k = cond (eqb width 0) (entry_end o index first k) (fixed_bound first width k)

-- ---- the plan of a row

-- what a walk needs of a column, as a code: a triplet's; the bytes of an element of a `*` field, none over 24; the bytes of any other
abbrev pub triplet_code : ℕ
triplet_code = 0

abbrev pub star_code : ℕ
star_code = 1

abbrev pub fixed_code : ℕ
fixed_code = 26

unfoldable pub code_of : ColumnLayout → ℕ
code_of c = cond (is_triplet c.kind) triplet_code (cond c.star (star_code + width_of c.kind) (fixed_code + fixed_bytes c))

-- the codes of the columns that there are
abbrev pub code_at : Layout → ℕ → ℕ
code_at l k = code_of (column_at l (suc k))

unfoldable pub plan_of : Layout → List ℕ
plan_of l = front (code_at l) (columns_of l) (replicate most_columns 0)

-- ---- what is taken of a layout once for all rows

-- where the id column starts in a row of one width, if there is one
unfoldable pub id_offset : Layout → Option ℕ
id_offset l = cond (no_such_column l l.id) None (Some (column_at l l.id).offset)

-- THE ROWS of a layout, by plain numbers: only rows with an index need the plan of a walk
abbrev pub rows_by : Layout → Rows
rows_by l =
    record {
      order = l.order;
      first = l.start;
      width = l.width;
      columns = columns_of l;
      id = l.id;
      offset = id_offset l;
      plan = cond (eqb l.width 0) (plan_of l) (replicate most_columns 0);
    }

-- ---- the walk over a row

-- the field of a code that starts at the place `at` of a row that ends at `end`
unfoldable pub code_end : Order → List ℕ → ℕ → ℕ → ℕ → Reach
code_end o s end code at =
    cond (leb fixed_code code) (plain_end at end (code - fixed_code))
    (cond (eqb code triplet_code) (triplet_end o s at end) (star_end o s at end (code - star_code)))

-- past the columns 1..n of a row: each starts where the last ended
abbrev pub plan_reach : Order → List ℕ → List ℕ → ℕ → ℕ → ℕ → Reach
plan_reach o s plan start end zero = Ok start
plan_reach o s plan start end (suc n) = onward (plan_reach o s plan start end n) (λ p. code_end o s end (get_or plan n 0) p)

-- where each of the columns 1..n starts that a walk came to, column k's at k - 1; `r k` says how far it came past the columns 1..k, and
-- the other places stay
abbrev pub keep : List ℕ → ℕ → Reach → List ℕ
keep places k (Ok p) = set places k p
keep places k (Err e) = places

abbrev pub places_left : (ℕ → Reach) → ℕ → List ℕ → List ℕ
places_left r zero old = old
places_left r (suc n) old = keep (places_left r n old) n (r n)

-- THE WALK past the columns 1..n, as far as the limit, from a start, and at most to a bound: how far it comes, and the places that it
-- leaves. Of a row outside the file, nothing
unfoldable pub walk_of : Order → List ℕ → List ℕ → ℕ → ℕ → ℕ → Reach
walk_of o s plan n start bound = cond (outside s start bound) (Err Short) (plan_reach o s plan start bound (min n most_columns))

unfoldable pub places_after : Order → List ℕ → List ℕ → ℕ → ℕ → ℕ → List ℕ → List ℕ
places_after o s plan n start bound old = cond (outside s start bound) old (places_left (plan_reach o s plan start bound) (min n most_columns) old)
