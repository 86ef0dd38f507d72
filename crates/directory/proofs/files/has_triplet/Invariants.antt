use Rattle.laws.specs.Lowest.{None}
use Rattle.directory.specs.Files.{triplet_column}
use Rattle.directory.proofs.files.has_triplet.Given as goal

abbrev pub invariant-loop-k : goal.invariant-loop-k
invariant-loop-k l = None (triplet_column l.layout) l.k
