-- What a row needs of the header, in the words of the reading.
use Rattle.std.specs.Prelude.{◌≡◌, ◌⊎◌, ◌↔◌, true, List, [], ◌∷◌, ℕ, pred, ◌+◌, ◌-◌, ◌≤◌, length, get_or, replicate, drop, Some}
use Rattle.laws.specs.Lowest.{In, Each}
use Rattle.laws.specs.Sums.{sum}
use Rattle.number.specs.Bytes.{number}
use Rattle.grammar.specs.Words.{star, Column, Reading, Numeral}
use Rattle.field.specs.Letters.{letter_k}
use Rattle.field.specs.Fields.{type_of}
use Rattle.header.specs.declared.ColumnLayout.{ColumnLayout}
use Rattle.header.specs.declared.Layout.{Layout}
use Rattle.header.specs.Places.{decimal}
use Rattle.header.specs.Names.{same_text}
use Rattle.limits.specs.Limits.{most_columns}
use Rattle.header.specs.Judge.{id_name}
use Rattle.header.specs.Layouts.{blank_column, fixed_bytes}
use Rattle.header.specs.Words.{column_at, OrderIs, AcceptedHeader}

-- a `*` column
abbrev pub Starred : Column → Type 0
Starred c = c.count ≡ star ∷ []

-- "Without a `*` or K column all rows have one width": a field of this column has no fixed width
abbrev pub Varies : Column → Type 0
Varies c = Starred c ⊎ (c.type ≡ letter_k)

-- column k of a layout, from 1
abbrev pub layout_at : Layout → ℕ → ColumnLayout
layout_at l k = get_or l.cols (pred k) blank_column

-- the layout of a column says its type, its star and its count, which is 0 for a star; a field that varies has no fixed bytes
pub record ColumnLaidOut (c : Column) (l : ColumnLayout) : Type 0 where
  pub kind : type_of c.type ≡ Some l.kind
  pub star : (l.star ≡ true) ↔ Starred c
  pub count : Numeral c.count → l.count ≡ decimal 0 c.count
  pub no_count : Starred c → l.count ≡ 0
  pub no_bytes : Varies c → fixed_bytes l ≡ 0

-- THE LAYOUT of an accepted file whose text is read as h
pub record LaidOut (file : List ℕ) (h : Reading) (l : Layout) : Type 0 where
  pub order : OrderIs (get_or file 4 0) l.order
  -- "Four bytes L, then L bytes of text, then rows."
  pub start : l.start ≡ number l.order file 0 4 + 4
  pub start_inside : l.start ≤ length file
  pub columns : l.columns ≡ length h.columns
  pub columns_limit : l.columns ≤ most_columns
  -- the one column named `id`
  pub id_within : In l.columns l.id
  pub id_named : same_text (column_at h l.id).name id_name ≡ true
  pub id_only : (k : ℕ) → In l.columns k → same_text (column_at h k).name id_name ≡ true → k ≡ l.id
  pub each : Each l.columns (λ k. ColumnLaidOut (column_at h k) (layout_at l k))
  -- a field starts after the fixed bytes of the columns before it, of which a `*` and a triplet have none
  pub offset : Each l.columns (λ k. (layout_at l k).offset ≡ sum (λ j. fixed_bytes (layout_at l j)) (pred k))
  -- 0 where a column has `*` or type K, else the one width of all rows: at least the id's four bytes
  pub no_width : (k : ℕ) → In l.columns k → Varies (column_at h k) → l.width ≡ 0
  pub width : Each l.columns (λ k. Varies (column_at h k) → ⊥) → l.width ≡ sum (λ k. fixed_bytes (layout_at l k)) l.columns
  pub width_some : Each l.columns (λ k. Varies (column_at h k) → ⊥) → 4 ≤ l.width
  -- the array's other places are blank
  pub others : drop l.columns l.cols ≡ replicate (most_columns - l.columns) blank_column

-- "if K occurs", "once cnd's header is accepted and shows K": the file's header is accepted, and a column of its reading is of type K
pub record ShowsK (file : List ℕ) : Type 0 where
  pub reading : Reading
  pub accepted : AcceptedHeader file reading
  pub column : ℕ
  pub within : In (length reading.columns) column
  pub letter : (column_at reading column).type ≡ letter_k
