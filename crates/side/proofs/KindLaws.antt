-- A refusal's number tells its kind.
use Rattle.std.proofs.Common.{◌≡◌, refl, sym, ap, ◌∙◌, List, [], ◌∷◌, ℕ, get_or}
use Rattle.refusal.specs.Kinds.{number_of}
use Rattle.refusal.specs.declared.Kind.{Kind}
use Rattle.refusal.specs.declared.Kind.TheVariants.{
  CutOff,
  NoOrderLetter,
  NotInGrammar,
  WrongDefinition,
  WrongColumns,
  WrongKey,
  WrongBody,
  WrongIndex,
  WrongId,
  WrongRow,
  BadTriplet,
  NotFinite,
  NoSuch,
  TooShort,
  OverLimit,
  NoWaveHeight,
  WrongColumn,
  NodeOutOfRange,
  FaceOutOfRange,
  EdgeOutOfRange,
  NotTouching,
  FaceDiffers,
  LoopOfOneFace,
  ManyBefore,
  WrongFirstEdge,
  WrongRingRows,
  WrongStart,
  CycleOwned,
  NoRing,
  NotClosed,
}

-- the kinds at the places of their numbers; 0, 18 and 19 are no kind's
abbrev kinds : List Kind
kinds =
    CutOff
    ∷ CutOff
    ∷ NoOrderLetter
    ∷ NotInGrammar
    ∷ WrongDefinition
    ∷ WrongColumns
    ∷ WrongKey
    ∷ WrongBody
    ∷ WrongIndex
    ∷ WrongId
    ∷ WrongRow
    ∷ BadTriplet
    ∷ NotFinite
    ∷ NoSuch
    ∷ TooShort
    ∷ OverLimit
    ∷ NoWaveHeight
    ∷ WrongColumn
    ∷ CutOff
    ∷ CutOff
    ∷ NodeOutOfRange
    ∷ FaceOutOfRange
    ∷ EdgeOutOfRange
    ∷ NotTouching
    ∷ FaceDiffers
    ∷ LoopOfOneFace
    ∷ ManyBefore
    ∷ WrongFirstEdge
    ∷ WrongRingRows
    ∷ WrongStart
    ∷ CycleOwned
    ∷ NoRing
    ∷ NotClosed
    ∷ []

abbrev kind_at : ℕ → Kind
kind_at n = get_or kinds n CutOff

at_its_number : (k : Kind) → kind_at (number_of k) ≡ k
at_its_number CutOff = refl
at_its_number NoOrderLetter = refl
at_its_number NotInGrammar = refl
at_its_number WrongDefinition = refl
at_its_number WrongColumns = refl
at_its_number WrongKey = refl
at_its_number WrongBody = refl
at_its_number WrongIndex = refl
at_its_number WrongId = refl
at_its_number WrongRow = refl
at_its_number BadTriplet = refl
at_its_number NotFinite = refl
at_its_number NoSuch = refl
at_its_number TooShort = refl
at_its_number OverLimit = refl
at_its_number NoWaveHeight = refl
at_its_number WrongColumn = refl
at_its_number NodeOutOfRange = refl
at_its_number FaceOutOfRange = refl
at_its_number EdgeOutOfRange = refl
at_its_number NotTouching = refl
at_its_number FaceDiffers = refl
at_its_number LoopOfOneFace = refl
at_its_number ManyBefore = refl
at_its_number WrongFirstEdge = refl
at_its_number WrongRingRows = refl
at_its_number WrongStart = refl
at_its_number CycleOwned = refl
at_its_number NoRing = refl
at_its_number NotClosed = refl

pub same_kind : (a b : Kind) → number_of a ≡ number_of b → a ≡ b
same_kind a b e = sym (at_its_number a) ∙ ap kind_at e ∙ at_its_number b
