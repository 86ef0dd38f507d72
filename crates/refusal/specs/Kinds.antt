-- "Refusals by number": what each kind of refusal is called in code, and its number in document 01's table.
use Rattle.std.specs.Prelude.{◌≡◌, ℕ, Result, MatchResult}
use Rattle.refusal.specs.declared.Kind.{Kind}
use Rattle.refusal.specs.declared.Kind.TheVariants.{
  CutOff,
  NoOrderLetter,
  NotInGrammar,
  WrongDefinition,
  WrongColumns,
  WrongKey,
  WrongBody,
  WrongIndex,
  WrongId,
  WrongRow,
  BadTriplet,
  NotFinite,
  NoSuch,
  TooShort,
  OverLimit,
  NoWaveHeight,
  WrongColumn,
  NodeOutOfRange,
  FaceOutOfRange,
  EdgeOutOfRange,
  NotTouching,
  FaceDiffers,
  LoopOfOneFace,
  ManyBefore,
  WrongFirstEdge,
  WrongRingRows,
  WrongStart,
  CycleOwned,
  NoRing,
  NotClosed,
}
use Rattle.refusal.specs.declared.Unlisted.{Unlisted}

abbrev pub number_of : Kind → ℕ
number_of CutOff = 1
number_of NoOrderLetter = 2
number_of NotInGrammar = 3
number_of WrongDefinition = 4
number_of WrongColumns = 5
number_of WrongKey = 6
number_of WrongBody = 7
number_of WrongIndex = 8
number_of WrongId = 9
number_of WrongRow = 10
number_of BadTriplet = 11
number_of NotFinite = 12
number_of NoSuch = 13
number_of TooShort = 14
number_of OverLimit = 15
number_of NoWaveHeight = 16
number_of WrongColumn = 17
number_of NodeOutOfRange = 20
number_of FaceOutOfRange = 21
number_of EdgeOutOfRange = 22
number_of NotTouching = 23
number_of FaceDiffers = 24
number_of LoopOfOneFace = 25
number_of ManyBefore = 26
number_of WrongFirstEdge = 27
number_of WrongRingRows = 28
number_of WrongStart = 29
number_of CycleOwned = 30
number_of NoRing = 31
number_of NotClosed = 32

-- the result is the kind of this number, or says that no kind has it
abbrev pub NumberOf : ℕ → Result Kind Unlisted → Type 0
NumberOf n r = MatchResult r (λ kind. number_of kind ≡ n) (λ e. (e.0 ≡ n) × ((kind : Kind) → number_of kind ≡ n → ⊥))
