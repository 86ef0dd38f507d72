use Rattle.std.specs.Prelude.{◌≡◌}
use Rattle.casefile.specs.Fields.{place_of}
use Rattle.casefile.proofs.part.Given as goal

-- before each turn the place is that of the field counted to
abbrev pub invariant-loop : goal.invariant-loop
invariant-loop l = l.at ≡ place_of l.case l.counter
