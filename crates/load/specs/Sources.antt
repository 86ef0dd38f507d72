-- "Loaded from tables edg, fac, rng, cnd with columns start_node, end_node; right_face, left_face, right_edge, left_edge (I or K);
-- ring_ptr; fac_id, start_edge; first_edge (I or K). Others listed are I. ... In that order the ten have places 1 to 10."
use Rattle.std.specs.Prelude.{Bool, true, false, cond, List, [], ◌∷◌, ℕ, pred, eqb, ltb, leb, get_or, replicate, Result, Ok, Err}
use Rattle.laws.specs.Texts.{bytes}
use Rattle.field.specs.declared.FieldType.{FieldType}
use Rattle.field.specs.Fields.{is_integer, is_triplet}
use Rattle.limits.specs.Limits.{most_columns}
use Rattle.refusal.specs.declared.Refusal.{Refusal}
use Rattle.number.specs.declared.Order.TheVariants.{Least}
use Rattle.header.specs.declared.Layout.{Layout}
use Rattle.header.specs.Layouts.{blank_column}
use Rattle.header.specs.Steps.{column_of}
use Rattle.opening.specs.declared.Table.{Table}
use Rattle.opening.specs.declared.Opened.{Opened}
use Rattle.opening.specs.Opening.{opened_of}
use Rattle.table.specs.Rows.{column_at, no_such_column}
use Rattle.load.specs.declared.TableName.{TableName}
use Rattle.load.specs.declared.TableName.TheVariants.{Edg, Fac, Rng, Cnd}
use Rattle.load.specs.declared.OfTables.{OfTables}

-- the four tables, each with its lent index
pub record Files : Type 0 where
  pub edg : List ℕ
  pub edx : List ℕ
  pub fac : List ℕ
  pub fax : List ℕ
  pub rng : List ℕ
  pub rnx : List ℕ
  pub cnd : List ℕ
  pub cnx : List ℕ

abbrev pub files : List ℕ → List ℕ → List ℕ → List ℕ → List ℕ → List ℕ → List ℕ → List ℕ → Files
files edg edx fac fax rng rnx cnd cnx = record { edg = edg; edx = edx; fac = fac; fax = fax; rng = rng; rnx = rnx; cnd = cnd; cnx = cnx }

-- of four things the one of a table
abbrev pub by_table : {A : Type 0} → A → A → A → A → TableName → A
by_table edg fac rng cnd Edg = edg
by_table edg fac rng cnd Fac = fac
by_table edg fac rng cnd Rng = rng
by_table edg fac rng cnd Cnd = cnd

abbrev pub in_tables : {A : Type 0} → OfTables A → TableName → A
in_tables t n = by_table t.edg t.fac t.rng t.cnd n

abbrev pub file_of : Files → TableName → List ℕ
file_of f n = by_table f.edg f.fac f.rng f.cnd n

abbrev pub index_of : Files → TableName → List ℕ
index_of f n = by_table f.edx f.fax f.rnx f.cnx n

abbrev pub Tables : Type 0
Tables = OfTables Table

abbrev pub table_in : Tables → TableName → Table
table_in t n = in_tables t n

-- what stands for a table that is refused: no columns and no rows
abbrev pub no_layout : Layout
no_layout = record { order = Least; start = 0; columns = 0; id = 0; width = 0; cols = replicate most_columns blank_column }

abbrev pub nothing_opened : Opened
nothing_opened =
    record {
      table = record { layout = no_layout; rows = 0 };
      names = record { spans = replicate most_columns (record { start = 0; end = 0 }) };
    }

abbrev pub given : Result Opened Refusal → Opened
given (Ok o) = o
given (Err q) = nothing_opened

-- the tables as their opening left them; `most` is the most rows that the caller takes
abbrev pub table_of : Files → ℕ → TableName → Table
table_of f most n = (given (opened_of (file_of f n) (index_of f n) most)).table

unfoldable pub tables_of : Files → ℕ → Tables
tables_of f most = record { edg = table_of f most Edg; fac = table_of f most Fac; rng = table_of f most Rng; cnd = table_of f most Cnd }

-- ---- the ten columns

-- their names, by their places
abbrev pub names : List (List ℕ)
names =
    bytes "start_node" ∷ bytes "end_node" ∷ bytes "right_face" ∷ bytes "left_face" ∷ bytes "right_edge"
    ∷ bytes "left_edge" ∷ bytes "ring_ptr" ∷ bytes "fac_id" ∷ bytes "start_edge" ∷ bytes "first_edge" ∷ []

abbrev pub name_at : ℕ → List ℕ
name_at k = get_or names (pred k) []

-- the table of a place: six of edg, one of fac, two of rng, one of cnd
unfoldable pub table_at : ℕ → TableName
table_at k = cond (leb k 6) Edg (cond (eqb k 7) Fac (cond (leb k 9) Rng Cnd))

-- "(I or K)": places 3 to 6 and 10
unfoldable pub triplets_too : ℕ → Bool
triplets_too k = cond (ltb k 3) false (cond (leb k 6) true (eqb k 10))

unfoldable pub type_fits : ℕ → FieldType → Bool
type_fits k t = cond (is_integer t) true (cond (triplets_too k) (is_triplet t) false)

-- a column that the table has and whose type fits place k, or 0
unfoldable pub fitting : Layout → ℕ → ℕ → ℕ
fitting l k c = cond (no_such_column l c) 0 (cond (type_fits k (column_at l c).kind) c 0)

-- "Names match in either case.": the column of place k in its table, or 0 where it is missing or of a wrong type
unfoldable pub column_for : List ℕ → Table → ℕ → ℕ
column_for file t k = fitting t.layout k (column_of file (name_at k))

-- one for each of the ten places, by the table of the place
abbrev pub ten : (TableName → ℕ → ℕ) → List ℕ
ten g = g Edg 1 ∷ g Edg 2 ∷ g Edg 3 ∷ g Edg 4 ∷ g Edg 5 ∷ g Edg 6 ∷ g Fac 7 ∷ g Rng 8 ∷ g Rng 9 ∷ g Cnd 10 ∷ []

-- the ten columns, by their places
unfoldable pub columns_of : Files → Tables → List ℕ
columns_of f t = ten (λ n. column_for (file_of f n) (table_in t n))

-- what stands at place k of ten
abbrev pub number_at_place : List ℕ → ℕ → ℕ
number_at_place l k = get_or l (pred k) 0

-- the rows of each place's table
unfoldable pub rows_for : Tables → List ℕ
rows_for t = ten (λ n k. (table_in t n).rows)
