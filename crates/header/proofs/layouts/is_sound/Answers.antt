use Rattle.std.proofs.Common.{◌∙◌, sym}
use Rattle.header.specs.Judge.{sound}
use Rattle.header.proofs.layouts.is_sound.Goals as goal

pub returns-then-key_listed : goal.returns-then-key_listed
unfolding sound
returns-then-key_listed c =
    simp (← c.count_right.ensures, c.if-key_listed.true, ← c.key_listed.ensures, sym c.of.ensures ∙ c.in-Some.is)

pub returns-else-key_listed : goal.returns-else-key_listed
unfolding sound
returns-else-key_listed c = simp (c.if-key_listed.false, ← c.key_listed.ensures, sym c.of.ensures ∙ c.in-Some.is)

pub returns-in-None : goal.returns-in-None
unfolding sound
returns-in-None c = simp (sym c.of.ensures ∙ c.in-None.is)
