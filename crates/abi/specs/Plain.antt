-- Answers as plain numbers, for C: number 0 is no refusal; where there is one, every number beside number and place is 0.
use Rattle.std.specs.Prelude.{Bool, true, false, ℕ, Ok, Err}
use Rattle.number.specs.declared.Order.{Order}
use Rattle.number.specs.declared.Order.TheVariants.{Least, Most}
use Rattle.wave.specs.declared.Judgement.TheVariants.{Passes, TooHigh}
use Rattle.wave.specs.Height.{Height}
use Rattle.wave.specs.Judgement.{Compared}
use Rattle.triplet.specs.declared.Ids.{Ids}
use Rattle.triplet.specs.Triplet.{Reading}
use Rattle.triplet.specs.Written.{Written}
use Rattle.tile.specs.Check.{Verdict}
use Rattle.tile.specs.Walk.{Walked}
use Rattle.abi.specs.declared.PlainVerdict.{PlainVerdict}
use Rattle.abi.specs.declared.PlainSteps.{PlainSteps}
use Rattle.abi.specs.declared.PlainHeight.{PlainHeight}
use Rattle.abi.specs.declared.PlainJudgement.{PlainJudgement}
use Rattle.abi.specs.declared.PlainTriplet.{PlainTriplet}
use Rattle.abi.specs.declared.PlainWritten.{PlainWritten}

-- the most significant byte first, or the least
abbrev pub order_for : Bool → Order
order_for true = Most
order_for false = Least

abbrev pub ids_for : ℕ → ℕ → ℕ → Ids
ids_for id tile other = record { id = id; tile = tile; other = other }

abbrev pub plain_verdict : Verdict → PlainVerdict
plain_verdict (Ok done) = record { number = 0; place = 0 }
plain_verdict (Err q) = record { number = q.number; place = q.place }

abbrev pub plain_steps : Walked → PlainSteps
plain_steps (Ok k) = record { number = 0; place = 0; steps = k }
plain_steps (Err q) = record { number = q.number; place = q.place; steps = 0 }

abbrev pub plain_height : Height → PlainHeight
plain_height (Ok v) = record { number = 0; place = 0; thousandths = v }
plain_height (Err q) = record { number = q.number; place = q.place; thousandths = 0 }

abbrev pub plain_judgement : Compared → PlainJudgement
plain_judgement (Ok Passes) = record { number = 0; place = 0; passes = 1 }
plain_judgement (Ok TooHigh) = record { number = 0; place = 0; passes = 0 }
plain_judgement (Err q) = record { number = q.number; place = q.place; passes = 0 }

abbrev pub plain_triplet : Reading → PlainTriplet
plain_triplet (Ok t) = record { number = 0; place = 0; id = t.ids.id; tile = t.ids.tile; other = t.ids.other; bytes = t.bytes }
plain_triplet (Err q) = record { number = q.number; place = q.place; id = 0; tile = 0; other = 0; bytes = 0 }

abbrev pub plain_written : Written → PlainWritten
plain_written (Ok n) = record { number = 0; place = 0; bytes = n }
plain_written (Err q) = record { number = q.number; place = q.place; bytes = 0 }
