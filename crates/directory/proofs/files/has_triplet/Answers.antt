-- `directory::files::has_triplet` meets its contract: none of the columns passed is a triplet, and the first that is answers.
use Rattle.directory.specs.Files.{triplet_column, has_triplet}
use Rattle.table.specs.Rows.{columns_of}
use Rattle.laws.proofs.LowestLaws.{none_start, none_next, lowest_found, lowest_nothing}
use native.Mathlib.Omega.{arith}
use Prim.Native.Nat.{suc}
use mathlib.Core.Path.{◌≡◌, sym, ◌∙◌}
use borrow.Author.Tests.{lt-ltb}
use Rattle.directory.proofs.files.has_triplet.Goals as goal

pub loop-k-init : goal.loop-k-init
loop-k-init c = none_start (triplet_column c.args.layout.now)

pub returns-then-is_triplet : goal.returns-then-is_triplet
unfolding has_triplet
returns-then-is_triplet c =
    rw (lowest_found (triplet_column c.args.layout.now) (columns_of c.args.layout.now) c.loop-k.k (omega (arith, c.loop-k-test.true, c.columns_within-k-end.ensures)) c.loop-k.invariant (sym
    c.is_triplet.ensures ∙ c.if-is_triplet.true))
    (sym (lt-ltb 0 (suc c.loop-k.k) (omega arith)))

pub loop-k-preserved : goal.loop-k-preserved
loop-k-preserved c =
    none_next (triplet_column c.args.layout.now) c.loop-k.k c.loop-k.invariant (sym c.is_triplet.ensures ∙ c.if-is_triplet.false)

pub returns : goal.returns
unfolding has_triplet
returns c =
    let q : c.loop-k.k ≡ columns_of c.args.layout.now = omega (arith, c.loop-k-test.false, c.loop-k.auto, c.columns_within-k-end.ensures) in
    rw (lowest_nothing (triplet_column c.args.layout.now) (columns_of c.args.layout.now) (rw q at c.loop-k.invariant))
