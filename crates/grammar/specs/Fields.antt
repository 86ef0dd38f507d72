-- What each field of the header text asks: a row for each, in the order of the text.
use Rattle.std.specs.Prelude.{Bool, true, false, cond, not, ℕ, ltb, leb, eqb}
use Rattle.grammar.specs.Words.{semicolon, colon, comma, equals}
use Rattle.grammar.specs.declared.Field.{Field}
use Rattle.grammar.specs.declared.Field.TheVariants.{OrderLetter, TableDescription, TableNarrative, Name, Kind, Numeral, AfterStar}
use Rattle.grammar.specs.declared.Field.TheVariants.{Key, Description, ValueTable, ThematicIndex, Narrative, ColumnEnd, TextEnd}
use Rattle.grammar.specs.declared.Class.{Class}
use Rattle.grammar.specs.declared.Class.TheVariants.{Letters, NoSemicolon, Plain, Digits}
use Rattle.grammar.specs.declared.Special.{Special}
use Rattle.grammar.specs.declared.Special.TheVariants.{Usual, ColumnsMayEnd, StarMayStand, ColonMayStand, ColumnIsWhole, TextIsWhole}
use Rattle.grammar.specs.declared.Rule.{Rule}

-- least and most bytes, which bytes, the byte that closes the field, the field after it, and what is special
abbrev pub asks : ℕ → ℕ → Class → ℕ → Field → Special → Rule
asks least most holds closer next special = record { least = least; most = most; holds = holds; closer = closer; next = next; special = special }

abbrev pub rule : Field → Rule
rule OrderLetter = asks 0 1 Letters semicolon TableDescription Usual
rule TableDescription = asks 0 80 NoSemicolon semicolon TableNarrative Usual
rule TableNarrative = asks 1 12 NoSemicolon semicolon Name Usual
rule Name = asks 1 24 Plain equals Kind ColumnsMayEnd
rule Kind = asks 1 1 Plain comma Numeral Usual
rule Numeral = asks 1 5 Digits comma Key StarMayStand
rule AfterStar = asks 0 0 Plain comma Key Usual
rule Key = asks 1 1 Plain comma Description Usual
rule Description = asks 0 80 Plain comma ValueTable Usual
rule ValueTable = asks 1 12 Plain comma ThematicIndex Usual
rule ThematicIndex = asks 1 12 Plain comma Narrative Usual
-- "Accept a column with that comma missing."
rule Narrative = asks 1 12 Plain comma ColumnEnd ColonMayStand
rule ColumnEnd = asks 0 0 Plain colon Name ColumnIsWhole
-- nothing more: no byte is taken and none closes it
rule TextEnd = asks 1 0 Plain semicolon TextEnd TextIsWhole

-- "Bytes are 32 to 126."
unfoldable pub printable : ℕ → Bool
printable b = cond (ltb b 32) false (leb b 126)

unfoldable pub letter : ℕ → Bool
letter b = cond (eqb b 76) true (eqb b 77)

-- "none of `; : , =`"
unfoldable pub plain : ℕ → Bool
plain b = cond (eqb b semicolon) false (cond (eqb b colon) false (cond (eqb b comma) false (not (eqb b equals))))

-- "1 to 5 digits, the first not 0": b as byte n, counted from 0
unfoldable pub digit : ℕ → ℕ → Bool
digit n b = cond (eqb n 0) (cond (leb 49 b) (leb b 57) false) (cond (leb 48 b) (leb b 57) false)

-- b may stand as byte n of a field that holds the class
unfoldable pub holds : Class → ℕ → ℕ → Bool
holds Letters n b = letter b
holds NoSemicolon n b = not (eqb b semicolon)
holds Plain n b = plain b
holds Digits n b = digit n b

unfoldable pub allowed : Class → ℕ → ℕ → Bool
allowed k n b = cond (printable b) (holds k n b) false
