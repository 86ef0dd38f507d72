-- A tile loaded, as plain numbers. On a refusal the counts are 0; number, place and the table that it speaks of are not.
use Rattle.std.specs.Prelude.{ℕ, Ok, Err}
use Rattle.load.specs.declared.TableName.{TableName}
use Rattle.load.specs.declared.TableName.TheVariants.{Edg, Fac, Rng, Cnd}
use Rattle.load.specs.declared.Finding.{Finding}
use Rattle.load.specs.Sources.{Files}
use Rattle.load.specs.Columns.{Columns, lengths}
use Rattle.load.specs.Load.{Loaded, load_of, columns_left}
use Rattle.abi.specs.declared.PlainLoaded.{PlainLoaded}

-- the table that a refusal speaks of
abbrev pub table_number : TableName → ℕ
table_number Edg = 1
table_number Fac = 2
table_number Rng = 3
table_number Cnd = 4

abbrev pub refused_load : Finding → PlainLoaded
refused_load f =
    record { number = f.refusal.number; place = f.refusal.place; table = table_number f.table; edges = 0; faces = 0; rings = 0; nodes = 0 }

abbrev pub plain_loaded : Loaded → PlainLoaded
plain_loaded (Ok c) = record { number = 0; place = 0; table = 0; edges = c.edges; faces = c.faces; rings = c.rings; nodes = c.nodes }
plain_loaded (Err f) = refused_load f

-- what the load leaves in the ten lent columns
abbrev pub columns_loaded : Files → ℕ → Columns → Columns
columns_loaded f most l = columns_left (load_of f most (lengths l)) f most l
