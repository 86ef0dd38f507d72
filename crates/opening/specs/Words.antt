-- "Rows and index" in the paper's words: when a table opens, and what each refusal of the opening says.
use Rattle.std.specs.Prelude.{◌≡◌, ◌⊎◌, List, [], ℕ, suc, ◌+◌, ◌*◌, ◌≤◌, ◌<◌, length}
use Rattle.laws.specs.Lowest.{In, Each, LowestFailing}
use Rattle.grammar.specs.Words.{Reading}
use Rattle.header.specs.declared.Layout.{Layout}
use Rattle.header.specs.Layouts.{layout_of}
use Rattle.header.specs.Words.{column_at, AcceptedHeader}
use Rattle.header.specs.LayoutWords.{Varies}
use Rattle.header.specs.Refusals as header
use Rattle.limits.specs.Limits.{most_rows}
use Rattle.opening.specs.Opening.{entries_said, header_size, offset_at, length_at, rows_said}

-- ---- when a table opens

-- "Without a `*` or K column all rows have one width"; "Otherwise an index is needed"
abbrev pub NoneVaries : Reading → Type 0
NoneVaries h = Each (length h.columns) (λ k. Varies (column_at h k) → ⊥)

abbrev pub SomeVaries : Reading → Type 0
SomeVaries h = (k : ℕ) × In (length h.columns) k × Varies (column_at h k)

-- a body of n rows of one width: "the body is a whole number of them; the lent index is empty"
pub record FixedBody (l : Layout) (index : List ℕ) (size n : ℕ) : Type 0 where
  pub no_index : index ≡ []
  pub whole_rows : size ≡ l.start + l.width * n

-- a body of n rows that the index places
pub record IndexedBody (l : Layout) (index : List ℕ) (size n : ℕ) : Type 0 where
  pub count : entries_said l index ≡ n
  -- "its length is exactly 8 + 8n"
  pub long : length index ≡ 8 + 8 * n
  -- "The header size must be L or L + 4."
  pub size_of_header : (header_size l index ≡ l.start) ⊎ (header_size l index + 4 ≡ l.start)
  -- "Row 1 starts at L + 4, each next row where the last ended"
  pub row_1 : 0 < n → offset_at l index 1 ≡ l.start
  pub next_row : (k : ℕ) → 0 < k → k < n → offset_at l index (suc k) ≡ offset_at l index k + length_at l index k
  -- "and the last ends with the file (at L + 4 when n is 0)"
  pub last_row : 0 < n → offset_at l index n + length_at l index n ≡ size
  pub no_row : n ≡ 0 → l.start ≡ size

-- A TABLE OPENS with n rows EXACTLY WHEN these hold of it and the reading h of its header
pub record Opens (file index : List ℕ) (most : ℕ) (h : Reading) (n : ℕ) : Type 0 where
  pub header : AcceptedHeader file h
  -- the caller's most rows, and "over 1,000,000 rows"
  pub as_asked : n ≤ most
  pub row_limit : n ≤ most_rows
  pub body : (NoneVaries h × FixedBody (layout_of file) index (length file) n) ⊎ (SomeVaries h × IndexedBody (layout_of file) index (length file) n)

-- ---- the tests by name, after the header's own: "8 at 0 for a needed index under 8 bytes, 15, 7 or 8"

pub data Test : Type 0 where
  header_accepted : Test
  index_there : Test
  rows_few : Test
  whole_rows : Test
  index_head : Test
  entries : Test
  last_end : Test

-- the place of each test in the order
abbrev pub rank : Test → ℕ
rank header_accepted = 0
rank index_there = 1
rank rows_few = 2
rank whole_rows = 3
rank index_head = 4
rank entries = 5
rank last_end = 6

-- "Without a `*` or K column all rows have one width": of an accepted header
abbrev pub HasOneWidth : List ℕ → Type 0
HasOneWidth file = (h : Reading) × AcceptedHeader file h × NoneVaries h

-- "Otherwise an index is needed"
abbrev pub NeedsIndex : List ℕ → Type 0
NeedsIndex file = (h : Reading) × AcceptedHeader file h × SomeVaries h

-- "count n" of the index
abbrev pub entries_of : List ℕ → List ℕ → ℕ
entries_of file index = entries_said (layout_of file) index

-- "rows, whole ones in a fixed body, n in an index": m rows are said. So many whole rows fit between L + 4 and the file's end
pub record WholeRows (l : Layout) (size m : ℕ) : Type 0 where
  pub fit : l.start + l.width * m ≤ size
  pub no_more : size < l.start + l.width * suc m

abbrev pub RowsSaid : List ℕ → List ℕ → ℕ → Type 0
RowsSaid file index m = (HasOneWidth file × WholeRows (layout_of file) (length file) m) ⊎ (NeedsIndex file × (entries_of file index ≡ m))

-- they are as many as a table's rows, once it is opened
abbrev pub rows_in : List ℕ → List ℕ → ℕ
rows_in file index = rows_said (layout_of file) index (length file)

-- "the body is a whole number of them; the lent index is empty"
abbrev pub FixedRight : List ℕ → List ℕ → Type 0
FixedRight file index = (n : ℕ) × FixedBody (layout_of file) index (length file) n

-- "its length is exactly 8 + 8n", "The header size must be L or L + 4."
pub record HeadRight (l : Layout) (index : List ℕ) : Type 0 where
  pub long : length index ≡ 8 + 8 * entries_said l index
  pub size_of_header : (header_size l index ≡ l.start) ⊎ (header_size l index + 4 ≡ l.start)

-- entry k: "Row 1 starts at L + 4, each next row where the last ended"
pub record StartsRight (l : Layout) (index : List ℕ) (k : ℕ) : Type 0 where
  pub row_1 : k ≡ 1 → offset_at l index 1 ≡ l.start
  pub next_row : (j : ℕ) → 0 < j → k ≡ suc j → offset_at l index (suc j) ≡ offset_at l index j + length_at l index j

-- "the last ends with the file (at L + 4 when n is 0)"
pub record EndsRight (l : Layout) (index : List ℕ) (size n : ℕ) : Type 0 where
  pub last_row : 0 < n → offset_at l index n + length_at l index n ≡ size
  pub no_row : n ≡ 0 → l.start ≡ size

-- what each test asks: of rows at most as many as the caller takes, and not "over 1,000,000 rows"
abbrev pub Holds : List ℕ → List ℕ → ℕ → Test → Type 0
Holds file index most header_accepted = (h : Reading) × AcceptedHeader file h
Holds file index most index_there = NeedsIndex file → 8 ≤ length index
Holds file index most rows_few = (m : ℕ) → RowsSaid file index m → (m ≤ most) × (m ≤ most_rows)
Holds file index most whole_rows = HasOneWidth file → FixedRight file index
Holds file index most index_head = NeedsIndex file → HeadRight (layout_of file) index
Holds file index most entries = NeedsIndex file → Each (entries_of file index) (StartsRight (layout_of file) index)
Holds file index most last_end = NeedsIndex file → EndsRight (layout_of file) index (length file) (entries_of file index)

-- this test fails, with the number n at the place p: "8 at 0 for a needed index under 8 bytes", "15", "7 file length", "8 entry number, 0
-- for its head", at the lowest entry whose row does not start where the last ended, "A wrong end of the last row is 8 at entry n"
abbrev pub FailsAt : List ℕ → List ℕ → ℕ → Test → ℕ → ℕ → Type 0
FailsAt file index most header_accepted n p = header.RefusedWith file n p
FailsAt file index most index_there n p = (n ≡ 8) × (p ≡ 0) × NeedsIndex file × (length index < 8)
FailsAt file index most rows_few n p = (n ≡ 15) × (p ≡ 0) × ((m : ℕ) × RowsSaid file index m × ((most < m) ⊎ (most_rows < m)))
FailsAt file index most whole_rows n p = (n ≡ 7) × (p ≡ length file) × HasOneWidth file × (FixedRight file index → ⊥)
FailsAt file index most index_head n p = (n ≡ 8) × (p ≡ 0) × NeedsIndex file × (HeadRight (layout_of file) index → ⊥)
FailsAt file index most entries n p = (n ≡ 8) × NeedsIndex file × LowestFailing (entries_of file index) (StartsRight (layout_of file) index) p
FailsAt file index most last_end n p =
    (n ≡ 8) × (p ≡ entries_of file index) × NeedsIndex file × (EndsRight (layout_of file) index (length file) (entries_of file index) → ⊥)

-- A TABLE IS REFUSED WITH n AT p EXACTLY WHEN a test fails so and all earlier ones hold
pub record RefusedWith (file index : List ℕ) (most n p : ℕ) : Type 0 where
  pub test : Test
  pub earlier : (x : Test) → rank x < rank test → Holds file index most x
  pub fails : FailsAt file index most test n p
