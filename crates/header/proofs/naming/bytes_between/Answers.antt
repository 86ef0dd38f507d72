use Rattle.header.proofs.NameLaws.{part_within, part_empty}
use Rattle.header.proofs.naming.bytes_between.Goals as goal

pub returns-then-start-end : goal.returns-then-start-end
returns-then-start-end c = part_within c.args.file.now c.args.start c.args.end c.min-end.result c.min-end.ensures

pub returns-else-start-end : goal.returns-else-start-end
returns-else-start-end c = part_empty c.args.file.now c.args.start c.args.end c.min-end.result c.min-end.ensures c.if-start-end.false
