use mathlib.Core.Path.{◌≡◌}
use lib.ListN.{drop}
use Rattle.laws.specs.Machine.{run}
use Rattle.grammar.specs.Scan.{machine, start}
use Rattle.grammar.proofs.ScanBounds.{Bound}
use Rattle.grammar.proofs.scan_bytes.Given as goal

abbrev pub invariant-loop-i : goal.invariant-loop-i
invariant-loop-i l = Bound l.i l.at × (run machine (drop l.i l.text) l.at l.i ≡ run machine l.text start 0)
