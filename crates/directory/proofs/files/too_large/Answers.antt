-- `directory::files::too_large` meets its contract: file by file, as the definition has them.
use mathlib.Core.Path.{◌≡◌}
use mathlib.Core.Bool.{cond}
use lib.Dec.{ltb}
use borrow.Author.Tests.{le-ltb, lt-ltb}
use Rattle.limits.specs.Limits.{most_bytes}
use Rattle.directory.specs.Files.{too_large}
use Rattle.std.proofs.Common.{Some, None}
use Rattle.report.specs.declared.FileName.TheVariants.{Cnx}
use Rattle.directory.proofs.files.too_large.Goals as goal
use Rattle.directory.proofs.files.too_large.Goals.{Else-sizes-gt-MOST_BYTES-5}

pub returns-then-sizes-gt-MOST_BYTES : goal.returns-then-sizes-gt-MOST_BYTES
unfolding too_large
returns-then-sizes-gt-MOST_BYTES c = simp (lt-ltb _ _ c.if-sizes-gt-MOST_BYTES.true)

pub returns-then-sizes-gt-MOST_BYTES-2 : goal.returns-then-sizes-gt-MOST_BYTES-2
unfolding too_large
returns-then-sizes-gt-MOST_BYTES-2 c = simp (lt-ltb _ _ c.if-sizes-gt-MOST_BYTES-2.true, le-ltb _ _ c.if-sizes-gt-MOST_BYTES.false)

pub returns-then-sizes-gt-MOST_BYTES-3 : goal.returns-then-sizes-gt-MOST_BYTES-3
unfolding too_large
returns-then-sizes-gt-MOST_BYTES-3 c =
    simp (lt-ltb _ _ c.if-sizes-gt-MOST_BYTES-3.true, le-ltb _ _ c.if-sizes-gt-MOST_BYTES-2.false, le-ltb _ _ c.if-sizes-gt-MOST_BYTES.false)

pub returns-then-sizes-gt-MOST_BYTES-4 : goal.returns-then-sizes-gt-MOST_BYTES-4
unfolding too_large
returns-then-sizes-gt-MOST_BYTES-4 c =
    simp (lt-ltb _ _ c.if-sizes-gt-MOST_BYTES-4.true, le-ltb _ _ c.if-sizes-gt-MOST_BYTES-3.false, le-ltb _ _ c.if-sizes-gt-MOST_BYTES-2.false, le-ltb _ _ c.if-sizes-gt-MOST_BYTES.false)

pub returns-then-sizes-gt-MOST_BYTES-5 : goal.returns-then-sizes-gt-MOST_BYTES-5
unfolding too_large
returns-then-sizes-gt-MOST_BYTES-5 c =
    simp (
      lt-ltb _ _ c.if-sizes-gt-MOST_BYTES-5.true,
      le-ltb _ _ c.if-sizes-gt-MOST_BYTES-4.false,
      le-ltb _ _ c.if-sizes-gt-MOST_BYTES-3.false,
      le-ltb _ _ c.if-sizes-gt-MOST_BYTES-2.false,
      le-ltb _ _ c.if-sizes-gt-MOST_BYTES.false,
    )

-- the five files that are always read are not too large
small : (c : Else-sizes-gt-MOST_BYTES-5) → too_large c.args.sizes c.args.cnx_read ≡ cond c.args.cnx_read (cond (ltb most_bytes c.args.sizes.cnx) (Some Cnx) None) None
unfolding too_large
small c =
    simp (
      le-ltb _ _ c.if-sizes-gt-MOST_BYTES-5.false,
      le-ltb _ _ c.if-sizes-gt-MOST_BYTES-4.false,
      le-ltb _ _ c.if-sizes-gt-MOST_BYTES-3.false,
      le-ltb _ _ c.if-sizes-gt-MOST_BYTES-2.false,
      le-ltb _ _ c.if-sizes-gt-MOST_BYTES.false,
    )

pub returns-then-sizes-gt-MOST_BYTES-6 : goal.returns-then-sizes-gt-MOST_BYTES-6
returns-then-sizes-gt-MOST_BYTES-6 c =
    rw (small (goal.at.returns-then-sizes-gt-MOST_BYTES-6 c).Else-sizes-gt-MOST_BYTES-5) (simp (lt-ltb _ _ c.if-sizes-gt-MOST_BYTES-6.true, c.if-cnx_read.true))

pub returns-else-sizes-gt-MOST_BYTES-6 : goal.returns-else-sizes-gt-MOST_BYTES-6
returns-else-sizes-gt-MOST_BYTES-6 c =
    rw (small (goal.at.returns-else-sizes-gt-MOST_BYTES-6 c).Else-sizes-gt-MOST_BYTES-5) (simp (le-ltb _ _ c.if-sizes-gt-MOST_BYTES-6.false, c.if-cnx_read.true))

pub returns-else-cnx_read : goal.returns-else-cnx_read
returns-else-cnx_read c = rw (small (goal.at.returns-else-cnx_read c).Else-sizes-gt-MOST_BYTES-5) (simp c.if-cnx_read.false)
