use borrow.Author.Tests.{eq-eqb, ne_eqb}
use Rattle.load.specs.Load.{empty_finding, unless_found}
use Rattle.load.proofs.fitting.judge_empty.Goals as goal

pub returns-then-rows-eq0 : goal.returns-then-rows-eq0
unfolding empty_finding unless_found
returns-then-rows-eq0 c = simp (c.at.ensures, eq-eqb _ _ c.if-rows-eq0.true)

pub returns : goal.returns
unfolding empty_finding unless_found
returns c = simp (ne_eqb _ _ c.if-rows-eq0.false)
