-- No more bytes are counted than the buffer has, which stays as long as it is. Each turn leaves fewer bytes to read or fewer tries.
use Rattle.std.proofs.Common.{length, ◌+◌, ◌-◌, ◌≡◌, ◌≤◌}
use Rattle.tilecheck.proofs.read_whole.Given as goal

abbrev pub invariant-loop-at : goal.invariant-loop-at
invariant-loop-at g l = (l.at ≤ length l.buf) × (length l.buf ≡ length l.initial.buf)

abbrev pub decreases-loop-at : goal.decreases-loop-at
decreases-loop-at g l = (length l.buf - l.at) + l.tries
