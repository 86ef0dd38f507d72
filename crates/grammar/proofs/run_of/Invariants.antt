use Rattle.grammar.specs.Serving.Passing.{Run}
use Rattle.grammar.proofs.run_of.Given as goal

abbrev pub invariant-loop-n : goal.invariant-loop-n
invariant-loop-n g l = Run l.text g.B.Bytes.class l.most l.from l.n
