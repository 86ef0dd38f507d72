use Rattle.header.specs.Serving.Stages.{unsound}
use Rattle.header.specs.Places.{place_after}
use Rattle.laws.specs.Lowest.{None}
use mathlib.Core.Path.{◌≡◌}
use Rattle.header.proofs.judge.judge_past.Given as goal

abbrev pub invariant-loop-k : goal.invariant-loop-k
invariant-loop-k l = (l.at ≡ place_after l.head l.k) × None (unsound l.head) l.k
