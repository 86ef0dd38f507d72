use Rattle.std.proofs.Common.{arith}
use Rattle.header.proofs.GatherLaws.{count-sound}
use Rattle.header.proofs.layouts.count_kept.Goals as goal

pub overflow_cast-result : goal.overflow_cast-result
overflow_cast-result c = omega (arith, count-sound c.args.d c.requires c.if-d.false)
