use Rattle.std.proofs.lemmas.Option.{IfSome_then}
use Rattle.grammar.proofs.PassLaws.{past_field}
use Rattle.grammar.proofs.past_field.Goals as goal

pub returns : goal.returns
returns g c =
    IfSome_then c.past_closer.result c.past_closer.ensures
    (λ place h. past_field c.args.text.now c.args.field c.rule_of-rule.ensures c.requires.1 c.run_of-n.ensures h)
