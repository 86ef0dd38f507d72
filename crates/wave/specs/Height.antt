-- Reading a wave height byte by byte: "1 to 6 digits, optionally a point and 1 to 3 digits, then only spaces. It becomes whole
-- thousandths". What this machine reads is what Words.antt says, by the theorems of proofs/Exact.antt.
use Rattle.std.specs.Prelude.{cond, List, ℕ, ◌+◌, ◌*◌, ◌^◌, ◌≤◌, ◌<◌, length, ltb, leb, eqb, Option, Some, None, Result, Ok, Err}
use Rattle.laws.specs.Machine.{End, ended, stuck, Next, go, stop, run}
use Rattle.refusal.specs.declared.Refusal.{Refusal}
use Rattle.refusal.specs.Order.{refusal}
use Rattle.wave.specs.Words.{point, space, first_digit, last_digit, most_whole, most_part, thousand, digit}
use Rattle.wave.specs.declared.Kind.{Kind}
use Rattle.wave.specs.declared.Kind.TheVariants.{Digit, Point, Space, Other}
use Rattle.wave.specs.declared.State.{State}
use Rattle.wave.specs.declared.State.TheVariants.{Whole, Part, Spaces}

-- refusal 16, "text is no wave height"
abbrev pub no_wave_height : ℕ
no_wave_height = 16

-- "It becomes whole thousandths", or it is refused
abbrev pub Height : Type 0
Height = Result ℕ Refusal

-- the next state, or that no wave height goes on so
abbrev pub Step : Type 0
Step = Option State

-- what a byte can be; a digit with the number that it says
abbrev pub kind_of : ℕ → Kind
kind_of b =
    cond (leb first_digit b) (cond (leb b last_digit) (Digit (digit b)) Other)
    (cond (eqb b point) Point (cond (eqb b space) Space Other))

-- the thousandths that the digit d says with n digits between the point and it
abbrev pub worth_of : ℕ → ℕ → ℕ
worth_of d n = cond (eqb n 0) (d * 100) (cond (eqb n 1) (d * 10) d)

-- what the next byte makes of a reading
abbrev pub step_of : State → Kind → Step
step_of (Whole n v) (Digit d) = cond (ltb n most_whole) (Some (Whole (n + 1) (v * 10 + d))) None
step_of (Whole n v) Point = cond (ltb 0 n) (Some (Part 0 (v * thousand))) None
step_of (Whole n v) Space = cond (ltb 0 n) (Some (Spaces (v * thousand))) None
step_of (Whole n v) Other = None
step_of (Part n v) (Digit d) = cond (ltb n most_part) (Some (Part (n + 1) (v + worth_of d n))) None
step_of (Part n v) Point = None
step_of (Part n v) Space = cond (ltb 0 n) (Some (Spaces v)) None
step_of (Part n v) Other = None
step_of (Spaces v) (Digit d) = None
step_of (Spaces v) Point = None
step_of (Spaces v) Space = Some (Spaces v)
step_of (Spaces v) Other = None

-- "first bad byte, or text length": the text ended at this place, perhaps where a digit is still wanted
abbrev pub finish_of : ℕ → State → Height
finish_of at (Whole n v) = cond (ltb 0 n) (Ok (v * thousand)) (Err (refusal no_wave_height at))
finish_of at (Part n v) = cond (ltb 0 n) (Ok v) (Err (refusal no_wave_height at))
finish_of at (Spaces v) = Ok v

abbrev pub next_of : Step → Next State
next_of (Some st) = go st
next_of None = stop

abbrev pub machine : State → ℕ → Next State
machine st b = next_of (step_of st (kind_of b))

abbrev pub start : State
start = Whole 0 0

abbrev pub answer : ℕ → End State → Height
answer n (ended st) = finish_of n st
answer n (stuck i) = Err (refusal no_wave_height i)

-- what a text is: a height in thousandths, or refused with 16 at a place
unfoldable pub height_of : List ℕ → Height
height_of text = answer (length text) (run machine text start 0)

-- what holds of each state that is reached, so that no number grows past 32 bits
abbrev pub Roomy : State → Type 0
Roomy (Whole n v) = (n ≤ most_whole) × (v < 10 ^ n)
Roomy (Part n v) = (n ≤ most_part) × (v ≤ 999999000 + 900 * n)
Roomy (Spaces v) = Unit {0}

abbrev pub OneDigit : Kind → Type 0
OneDigit (Digit d) = d ≤ 9
OneDigit Point = Unit {0}
OneDigit Space = Unit {0}
OneDigit Other = Unit {0}
