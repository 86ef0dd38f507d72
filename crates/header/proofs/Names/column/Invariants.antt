use Rattle.laws.specs.Lowest.{None}
use Rattle.header.specs.Names.{is_among}
use Rattle.header.proofs.Names.column.Given as goal

abbrev pub invariant-loop-k : goal.invariant-loop-k
invariant-loop-k l = None (is_among l.file l.self l.name) l.k
