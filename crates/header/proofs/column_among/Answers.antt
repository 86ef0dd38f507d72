use Rattle.std.proofs.Common.{ℕ, ap, ◌∙◌}
use native.Mathlib.Nat.{min-le_right}
use Rattle.laws.specs.Lowest.{found, lowest}
use Rattle.limits.specs.Limits.{most_columns}
use Rattle.header.specs.Names.{is_among, column_among}
use Rattle.header.proofs.column_among.Goals as goal

pub column-requires : goal.column-requires
column-requires c = rw c.columns_within.ensures (min-le_right c.args.columns most_columns)

pub returns : goal.returns
unfolding column_among
returns c =
    c.column.ensures ∙ ap (λ (n : ℕ). found (lowest (is_among c.args.file.now c.args.names c.args.name.now) n)) c.columns_within.ensures
