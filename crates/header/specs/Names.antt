-- Column names, "case ignored": A to Z with a to z only.
use Rattle.std.specs.Prelude.{Bool, true, false, cond, ◌&&◌, List, [], ◌∷◌, ◌++◌, ℕ, pred, min, ◌+◌, ◌-◌, eqb, ltb, leb, get_or, replicate}
use Rattle.laws.specs.Lowest.{lowest}
use Rattle.laws.specs.Buffer.{one_to}
use Rattle.limits.specs.Limits.{most_columns}
use Rattle.header.specs.declared.NameSpan.{NameSpan}
use Rattle.header.specs.declared.Names.{Names}
use Rattle.header.specs.Places.{part, span, column}

unfoldable pub lower : ℕ → ℕ
lower b = cond (leb 65 b) (cond (leb b 90) (b + 32) b) b

abbrev pub same_text : List ℕ → List ℕ → Bool
same_text [] [] = true
same_text [] (y ∷ l) = false
same_text (x ∷ k) [] = false
same_text (x ∷ k) (y ∷ l) = eqb (lower x) (lower y) && same_text k l

-- the name of column k
abbrev pub name_of : List ℕ → ℕ → List ℕ
name_of s k = part s (column s k).name

unfoldable pub same_name : List ℕ → ℕ → ℕ → Bool
same_name s i j = same_text (name_of s i) (name_of s j)

-- an earlier column has the name of column j
abbrev pub named_before : List ℕ → ℕ → Bool
named_before s j = ltb 0 (lowest (λ i. same_name s i j) (pred j))

-- column k has the name
unfoldable pub is_named : List ℕ → List ℕ → ℕ → Bool
is_named s name k = same_text (name_of s k) name

-- the column of the name, or 0
unfoldable pub column_named : List ℕ → ℕ → List ℕ → ℕ
column_named s n name = lowest (is_named s name) n

-- ---- the names given on: where they lie in the file, so that nobody reads the header again for a name

-- where the name of column k lies
abbrev pub span_of : List ℕ → ℕ → NameSpan
span_of s k = record { start = (column s k).name.start; end = (column s k).name.end }

-- of the columns 1..n; past the last nowhere
abbrev pub no_span : NameSpan
no_span = record { start = 0; end = 0 }

unfoldable pub names_of : List ℕ → ℕ → Names
names_of s n = record { spans = one_to (span_of s) n ++ replicate (most_columns - n) no_span }

-- the part of the file that is the name of column k; cut where the file ends
abbrev pub part_at : List ℕ → NameSpan → List ℕ
part_at file x = part file (span x.start x.end)

abbrev pub name_among : List ℕ → Names → ℕ → List ℕ
name_among file names k = part_at file (get_or names.spans (pred k) no_span)

unfoldable pub is_among : List ℕ → Names → List ℕ → ℕ → Bool
is_among file names name k = same_text (name_among file names k) name

-- the column of the name among the names of so many columns, never over the limit, or 0
unfoldable pub column_among : List ℕ → Names → ℕ → List ℕ → ℕ
column_among file names columns name = lowest (is_among file names name) (min columns most_columns)
