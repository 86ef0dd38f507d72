use mathlib.Core.Path.{sym, ◌∙◌}
use Rattle.std.proofs.lemmas.Option.{IfSome_then}
use Rattle.grammar.proofs.PassLaws.{past_star, past_both}
use Rattle.grammar.proofs.past_count.Goals as goal

pub returns-then-stands_at : goal.returns-then-stands_at
returns-then-stands_at c =
    let star-stands = sym c.stands_at.ensures ∙ c.if-stands_at.true in
    IfSome_then c.past_field.result c.past_field.ensures
    (λ place h. past_both c.args.text.now (past_star c.args.text.now c.args.from star-stands) h)
