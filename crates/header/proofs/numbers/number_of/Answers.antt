use Rattle.std.proofs.Common.{refl, sym, arith, ◌∙◌}
use Rattle.header.specs.Serving.Numbers.{number_of}
use Rattle.header.proofs.NumberLaws.{letter_next, letters_done}
use Rattle.header.proofs.numbers.number_of.Goals as goal

pub loop-letter-init : goal.loop-letter-init
loop-letter-init c = refl

pub loop-letter-preserved : goal.loop-letter-preserved
loop-letter-preserved c =
    rw c.with_letter-number.ensures (sym (letter_next c.args.name.now c.loop-letter.letter-index c.loop-letter.number (omega arith)) ∙ c.loop-letter.invariant)

pub returns : goal.returns
unfolding number_of
returns c = letters_done c.args.name.now c.loop-letter.letter-index c.loop-letter.number (omega arith) ∙ c.loop-letter.invariant
