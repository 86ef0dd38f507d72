use Rattle.std.proofs.Common.{◌∙◌}
use Rattle.header.proofs.CountLaws.{count_cut}
use Rattle.header.proofs.places.count_of.Goals as goal

pub returns : goal.returns
returns c = c.number_from.ensures ∙ count_cut c.args.head.now c.args.p c.args.e c.min.result c.min.ensures
