-- "Rows and index": when a table opens with its lent index. "then 8 at 0 for a needed index under 8 bytes, 15 (rows, whole ones in a
-- fixed body, n in an index), 7 or 8."
use Rattle.std.specs.Prelude.{Result, Bool, true, false, cond, not, List, [], ◌∷◌, ℕ, zero, suc, pred, min, ◌+◌, ◌-◌, ◌*◌, ◌/◌, ◌%◌, eqb, ltb, length}
use Rattle.laws.specs.Lowest.{lowest}
use Rattle.refusal.specs.declared.Refusal.{Refusal}
use Rattle.refusal.specs.Order.{refused_if, located, first_of, unless}
use Rattle.number.specs.declared.Order.{Order}
use Rattle.number.specs.Bytes.{number}
use Rattle.header.specs.declared.Layout.{Layout}
use Rattle.header.specs.Judge.{header_refusal}
use Rattle.header.specs.Layouts.{layout_of, handed_on}
use Rattle.limits.specs.Limits.{most_rows}
use Rattle.opening.specs.declared.Table.{Table}
use Rattle.opening.specs.declared.Opened.{Opened}

-- "Otherwise an index is needed": the rows have no one width
abbrev pub needs_index : Layout → Bool
needs_index l = eqb l.width 0

-- "count n, a header size, then n pairs of offset and length, all four bytes"
abbrev pub entries_said : Layout → List ℕ → ℕ
entries_said l index = number l.order index 0 4

abbrev pub header_size : Layout → List ℕ → ℕ
header_size l index = number l.order index 4 4

-- entry k, from 1, stands at 8k
abbrev pub offset_in : Order → List ℕ → ℕ → ℕ
offset_in o index k = number o index (8 * k) 4

abbrev pub length_in : Order → List ℕ → ℕ → ℕ
length_in o index k = number o index (8 * k + 4) 4

abbrev pub offset_at : Layout → List ℕ → ℕ → ℕ
offset_at l index k = offset_in l.order index k

abbrev pub length_at : Layout → List ℕ → ℕ → ℕ
length_at l index k = length_in l.order index k

-- where row k ends by its entry, in a file of the order whose row 1 starts at `first`; row 0, which is none, ends there
abbrev pub entry_end : Order → List ℕ → ℕ → ℕ → ℕ
entry_end o index first zero = first
entry_end o index first (suc k) = offset_in o index (suc k) + length_in o index (suc k)

-- in a table of the layout: "Row 1 starts at L + 4"
unfoldable pub end_at : Layout → List ℕ → ℕ → ℕ
end_at l index k = entry_end l.order index l.start k

-- "each next row where the last ended"
abbrev pub entry_wrong : Layout → List ℕ → ℕ → Bool
entry_wrong l index k = not (eqb (offset_at l index k) (end_at l index (pred k)))

-- "The header size must be L or L + 4."
unfoldable pub size_wrong : Layout → List ℕ → Bool
size_wrong l index = cond (eqb (header_size l index) l.start) false (not (eqb (header_size l index + 4) l.start))

-- "its length is exactly 8 + 8n"
unfoldable pub head_wrong : Layout → List ℕ → Bool
head_wrong l index = cond (eqb (length index) (8 + 8 * entries_said l index)) (size_wrong l index) true

-- 8 at 0, at the lowest entry that starts elsewhere, at n where the last does not end with the file
unfoldable pub index_refusal : Layout → List ℕ → ℕ → Refusal
index_refusal l index size =
    first_of
    (refused_if (head_wrong l index) 8 0
    ∷ located 8 (lowest (entry_wrong l index) (entries_said l index))
    ∷ refused_if (not (eqb (end_at l index (entries_said l index)) size)) 8 (entries_said l index)
    ∷ [])

-- "the body is a whole number of them; the lent index is empty"
unfoldable pub fixed_refusal : Layout → List ℕ → ℕ → Refusal
fixed_refusal l index size =
    refused_if (cond (eqb (length index) 0) (not (eqb ((size - l.start) % l.width) 0)) true) 7 size

-- "whole ones in a fixed body, n in an index"
unfoldable pub rows_said : Layout → List ℕ → ℕ → ℕ
rows_said l index size = cond (needs_index l) (entries_said l index) ((size - l.start) / l.width)

abbrev pub body_refusal : Layout → List ℕ → ℕ → Refusal
body_refusal l index size = cond (needs_index l) (index_refusal l index size) (fixed_refusal l index size)

-- the tests after the header's own; `most` is the most rows that the caller takes, and never over 1,000,000
unfoldable pub open_refusal : Layout → List ℕ → ℕ → ℕ → Refusal
open_refusal l index size most =
    first_of
    (refused_if (cond (needs_index l) (ltb (length index) 8) false) 8 0
    ∷ refused_if (ltb (min most most_rows) (rows_said l index size)) 15 0
    ∷ body_refusal l index size
    ∷ [])

-- THE OPENING'S JUDGEMENT
unfoldable pub table_refusal : List ℕ → List ℕ → ℕ → Refusal
table_refusal file index most = first_of (header_refusal file ∷ open_refusal (layout_of file) index (length file) most ∷ [])

-- a table whose rows this layout describes
abbrev pub table_from : Layout → List ℕ → ℕ → Table
table_from l index size = record { layout = l; rows = rows_said l index size }

abbrev pub table_of : List ℕ → List ℕ → Table
table_of file index = table_from (layout_of file) index (length file)

-- what an opening hands on: the table, and where the names of its columns lie
abbrev pub opened : List ℕ → List ℕ → Opened
opened file index = record { table = table_of file index; names = (handed_on file).names }

-- THE OPENING: that, or the refusal
unfoldable pub opened_of : List ℕ → List ℕ → ℕ → Result Opened Refusal
opened_of file index most = unless (table_refusal file index most) (opened file index)
