-- Row i of a table that a file and its index open with n rows, by the names that theorems give to its parts: what the header says of it, the
-- table, and where the row starts and ends.
use Rattle.std.specs.Prelude.{List, ℕ, pred}
use Rattle.header.specs.declared.Layout.{Layout}
use Rattle.opening.specs.declared.Table.{Table}
use Rattle.header.specs.Layouts.{layout_of}
use Rattle.table.specs.Rows.{bound_of}

pub record OpenedRow : Type 0 where
  pub layout : Layout
  pub table : Table
  pub start : ℕ
  pub end : ℕ

abbrev pub opened_row : List ℕ → List ℕ → ℕ → ℕ → OpenedRow
opened_row file index n i =
    record {
      layout = layout_of file;
      table = record { layout = layout_of file; rows = n };
      start = bound_of (layout_of file) index (pred i);
      end = bound_of (layout_of file) index i;
    }
