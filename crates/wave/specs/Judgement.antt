-- "A measured height passes exactly when not above the limit; of two bad texts the limit's is refused."
use Rattle.std.specs.Prelude.{cond, List, ℕ, leb, Result, Ok, Err}
use Rattle.refusal.specs.declared.Refusal.{Refusal}
use Rattle.wave.specs.declared.Judgement.{Judgement}
use Rattle.wave.specs.declared.Judgement.TheVariants.{Passes, TooHigh}
use Rattle.wave.specs.Height.{Height, height_of}

-- a judgement, or the refusal of a text
abbrev pub Compared : Type 0
Compared = Result Judgement Refusal

-- the limit's reading, then the measured text's
abbrev pub judged : Height → Height → Compared
judged (Err bad) measured = Err bad
judged (Ok most) (Err bad) = Err bad
judged (Ok most) (Ok seen) = Ok (cond (leb seen most) Passes TooHigh)

unfoldable pub judgement_of : List ℕ → List ℕ → Compared
judgement_of measured limit = judged (height_of limit) (height_of measured)
