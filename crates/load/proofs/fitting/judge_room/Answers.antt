use borrow.Author.Tests.{lt-ltb, le-ltb}
use mathlib.Core.Path.{sym}
use native.Mathlib.Omega.{arith}
use Rattle.laws.proofs.LowestLaws.{none_start, none_next, lowest_next, lowest_ended}
use Rattle.load.specs.Load.{too_short}
use Rattle.load.proofs.FitLaws.{room_told, room_enough}
use Rattle.load.proofs.fitting.judge_room.Goals as goal

pub loop-i-init : goal.loop-i-init
loop-i-init c = none_start (too_short c.args.lengths c.args.rows)

pub returns-then-lengths-i : goal.returns-then-lengths-i
returns-then-lengths-i c =
    rw (c.at.ensures, c.table_at.ensures)
    (room_told c.args.lengths c.args.rows c.loop-i.i
    (sym (lowest_next (too_short c.args.lengths c.args.rows) 10 c.loop-i.i c.loop-i-test.true c.loop-i.invariant (lt-ltb _ _ c.if-lengths-i.true))))

pub loop-i-preserved : goal.loop-i-preserved
loop-i-preserved c =
    none_next (too_short c.args.lengths c.args.rows) c.loop-i.i c.loop-i.invariant (le-ltb _ _ c.if-lengths-i.false)

pub returns : goal.returns
returns c =
    room_enough c.args.lengths c.args.rows
    (sym (lowest_ended (too_short c.args.lengths c.args.rows) 10 c.loop-i.i c.loop-i-test.false (omega (arith, c.loop-i.auto)) c.loop-i.invariant))
