use borrow.Author.Tests.{eq-eqb, le-leb, lt-leb, ne_eqb}
use Rattle.load.specs.Sources.{table_at}
use Rattle.load.proofs.fitting.table_at.Goals as goal

pub returns-then-place-le6 : goal.returns-then-place-le6
unfolding table_at
returns-then-place-le6 c = simp (le-leb _ _ c.if-place-le6.true)

pub returns-then-place-eq7 : goal.returns-then-place-eq7
unfolding table_at
returns-then-place-eq7 c = simp (eq-eqb _ _ c.if-place-eq7.true, lt-leb _ _ c.if-place-le6.false)

pub returns-then-place-le9 : goal.returns-then-place-le9
unfolding table_at
returns-then-place-le9 c = simp (le-leb _ _ c.if-place-le9.true, ne_eqb _ _ c.if-place-eq7.false, lt-leb _ _ c.if-place-le6.false)

pub returns : goal.returns
unfolding table_at
returns c = simp (lt-leb _ _ c.if-place-le9.false, ne_eqb _ _ c.if-place-eq7.false, lt-leb _ _ c.if-place-le6.false)
