use borrow.Author.Tests.{le-leb, le-ltb, lt-leb, lt-ltb}
use Rattle.load.specs.Sources.{triplets_too}
use Rattle.load.proofs.fitting.takes_triplets.Goals as goal

pub returns-then-place-lt3 : goal.returns-then-place-lt3
unfolding triplets_too
returns-then-place-lt3 c = simp (lt-ltb _ _ c.if-place-lt3.true)

pub returns-then-place-le6 : goal.returns-then-place-le6
unfolding triplets_too
returns-then-place-le6 c = simp (le-leb _ _ c.if-place-le6.true, le-ltb _ _ c.if-place-lt3.false)

pub returns : goal.returns
unfolding triplets_too
returns c = simp (lt-leb _ _ c.if-place-le6.false, le-ltb _ _ c.if-place-lt3.false)
