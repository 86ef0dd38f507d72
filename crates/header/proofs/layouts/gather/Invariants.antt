use Rattle.header.specs.Serving.Stages.{sound_size, unsound}
use Rattle.header.specs.Layouts.{some_varies, bytes_of_all, blank_column, laid_out}
use Rattle.header.specs.Names.{span_of, no_span}
use Rattle.header.specs.Places.{first_place, place_after, column}
use Rattle.limits.specs.Limits.{most_columns}
use Rattle.laws.specs.Buffer.{one_to}
use Rattle.laws.specs.Lowest.{None}
use lib.ListN.{replicate}
use Prim.Native.Nat.{◌-◌, ◌*◌, ◌≤◌}
use mathlib.Core.List.{◌++◌}
use mathlib.Core.Path.{◌≡◌}
use Rattle.header.proofs.layouts.gather.Given as goal

abbrev pub invariant-loop-k : goal.invariant-loop-k
invariant-loop-k l =
    (l.at ≡ place_after l.head l.k)
    × (l.bytes ≡ bytes_of_all l.head l.k)
    × (l.bytes ≤ l.k * sound_size)
    × (l.varying ≡ some_varies l.head l.k)
    × (l.cols ≡ laid_out l.head l.k ++ replicate (most_columns - l.k) blank_column)
    × (l.names.spans ≡ one_to (span_of l.head) l.k ++ replicate (most_columns - l.k) no_span)
    × (l.keys ≡ one_to (λ j. (column l.head j).key) l.k ++ replicate (most_columns - l.k) 0)
    × (l.first ≡ first_place l.head)
    × None (unsound l.head) l.k
