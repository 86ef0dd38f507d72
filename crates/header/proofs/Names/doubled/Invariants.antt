use Rattle.std.proofs.Common.{◌≡◌, ◌-◌, ◌≤◌, ◌++◌, length}
use Rattle.std.specs.Prelude.{None as Nothing}
use lib.ListN.{replicate}
use Rattle.laws.specs.Buffer.{one_to}
use Rattle.laws.specs.Lowest.{None}
use Rattle.limits.specs.Limits.{most_columns}
use Rattle.header.specs.Names.{named_before}
use Rattle.header.specs.Serving.Numbers.{slots}
use Rattle.header.proofs.NameLaws.{names_as}
use Rattle.header.proofs.NumberLaws.{number_at, Marked}
use Rattle.header.proofs.Names.doubled.Given as goal

abbrev pub invariant-loop-earlier : goal.invariant-loop-earlier
invariant-loop-earlier l = (l.doubled ≡ Nothing) × (l.earlier ≤ l.later) × None (names_as l.head l.later) l.earlier

abbrev pub invariant-search : goal.invariant-search
invariant-search l =
    (l.doubled ≡ Nothing)
    × None (named_before l.head) l.later
    × (l.seen ≡ one_to (number_at l.head) l.later ++ replicate (most_columns - l.later) 0)
    × (length l.marked ≡ slots)
    × Marked l.head l.marked l.later
