use mathlib.Core.Path.{refl}
use Rattle.grammar.specs.declared.Field.TheVariants.{Narrative, ColumnEnd}
use Rattle.std.proofs.lemmas.Option.{IfSome_then}
use Rattle.grammar.proofs.PassLaws.{run_none, past_field, past_bare, past_both}
use Rattle.grammar.proofs.past_last.Goals as goal

-- the comma, then the colon
pub returns-in-Some : goal.returns-in-Some
returns-in-Some c =
    let name = past_field c.args.text.now Narrative c.rule_of-rule.ensures refl c.run_of-n.ensures c.in-Some.ensures in
    IfSome_then c.past_closer-in-Some.result c.past_closer-in-Some.ensures
    (λ place h. past_both c.args.text.now name (past_field c.args.text.now ColumnEnd refl refl (run_none c.args.text.now name.within) h))

-- no comma stands after the name
pub returns-in-None : goal.returns-in-None
returns-in-None c =
    IfSome_then c.past_closer-in-None.result c.past_closer-in-None.ensures
    (λ place h. past_bare c.args.text.now c.rule_of-rule.ensures c.run_of-n.ensures h)
