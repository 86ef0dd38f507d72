-- The columns found by where the names lie are those of the definition, whatever the openings answered.
use mathlib.Core.Path.{◌≡◌, refl, sym, ap, ◌∙◌}
use mathlib.Core.Bool.{true}
use mathlib.Core.List.{List}
use Prim.Native.Nat.{ℕ}
use native.Mathlib.Omega.{arith}
use lib.Dec.{eqb}
use Rattle.laws.proofs.LowestLaws.{bool_cases}
use Rattle.header.specs.declared.Layout.{Layout}
use Rattle.std.proofs.Common.{Result, Ok, Err}
use Rattle.refusal.specs.declared.Refusal.{Refusal}
use Rattle.opening.specs.Opening.{opened_of}
use Rattle.opening.proofs.OpeningLaws.{opened_column}
use Rattle.table.specs.Rows as rows
use Rattle.table.specs.Rows.{no_such_column}
use Rattle.table.proofs.RowLaws.{such}
use Rattle.opening.specs.declared.Opened.{Opened}
use Rattle.load.specs.declared.OfTables.{OfTables}
use Rattle.load.specs.declared.TableName.{TableName}
use Rattle.load.specs.declared.TableName.TheVariants.{Edg, Fac, Rng, Cnd}
use Rattle.header.specs.Names.{column_among}
use Rattle.header.specs.Steps.{column_of}
use Rattle.load.specs.Sources.{Files, given, no_layout, nothing_opened, file_of, table_in, in_tables, tables_of, name_at, fitting, column_for, ten, columns_of}
use Rattle.load.specs.Serving.Named.{opened_four, tables_among, column_by, columns_by}

-- a layout without columns has none that fits
none_there : (l : Layout) → rows.columns_of l ≡ 0 → (c : ℕ) → no_such_column l c ≡ true
none_there l e c = bool_cases (no_such_column l c) (λ a. a) (λ a. let w = such (rows.columns_of l) c a in absurd (omega (arith, w.0, w.1, e)))

none_fits : (l : Layout) → rows.columns_of l ≡ 0 → (k c : ℕ) → fitting l k c ≡ 0
unfolding fitting
none_fits l e k c = rw (none_there l e c) refl

-- of an opened table the names are the header's; a refused one has no columns
module _ (file index : List ℕ) (most k : ℕ) where
  alike : (r : Result Opened Refusal) → opened_of file index most ≡ r → column_by file (given r) k (name_at k) ≡ column_for file (given r).table k
  unfolding column_by column_for fitting
  alike (Ok o) e = ap (fitting o.table.layout k) (opened_column file index most o e (name_at k))
  alike (Err q) e =
      none_fits no_layout refl k (column_among file nothing_opened.names 0 (name_at k)) ∙ sym (none_fits no_layout refl k (column_of file (name_at k)))

  found_alike : column_by file (given (opened_of file index most)) k (name_at k) ≡ column_for file (given (opened_of file index most)).table k
  found_alike = alike (opened_of file index most) refl

-- the table of a name among what was opened
pub among : (o : OfTables Opened) (n : TableName) → (in_tables o n).table ≡ table_in (tables_among o) n
among o Edg = refl
among o Fac = refl
among o Rng = refl
among o Cnd = refl

module _ (f : Files) (most : ℕ) where
  column_found : (n : TableName) (k : ℕ)
      → column_by (file_of f n) (in_tables (opened_four f most) n) k (name_at k) ≡ column_for (file_of f n) (table_in (tables_of f most) n) k
  unfolding tables_of opened_four
  column_found Edg k = found_alike f.edg f.edx most k
  column_found Fac k = found_alike f.fac f.fax most k
  column_found Rng k = found_alike f.rng f.rnx most k
  column_found Cnd k = found_alike f.cnd f.cnx most k

  pub columns_found : columns_by f (opened_four f most) ≡ columns_of f (tables_of f most)
  unfolding columns_by columns_of
  columns_found = λ i. ten (λ n k. column_found n k i)

  pub tables_found : tables_among (opened_four f most) ≡ tables_of f most
  unfolding tables_of opened_four
  tables_found = refl
