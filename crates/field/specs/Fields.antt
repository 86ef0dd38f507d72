-- "Each field type knows its own width and null": what the functions of a field type give, by type.
use Rattle.std.specs.Prelude.{Bool, true, false, cond, List, [], ◌∷◌, ℕ, negsuc, eqb, leb, Option, Some, None}
use Rattle.field.specs.Letters.{letter_t, letter_l, letter_f, letter_r, letter_s, letter_i, letter_c, letter_z, letter_b, letter_y, letter_d, letter_x, letter_k}
use Rattle.field.specs.declared.FieldType.{FieldType}
use Rattle.field.specs.declared.FieldType.TheVariants.{Text, Latin, Float, Double, Short, Integer, ShortPair, ShortTriple, DoublePair}
use Rattle.field.specs.declared.FieldType.TheVariants.{DoubleTriple, Date, NullField, Triplet}
use Rattle.field.specs.declared.NullValue.{NullValue}
use Rattle.field.specs.declared.NullValue.TheVariants.{Nothing, Number, NotANumber}
use Rattle.field.specs.declared.Rule.{Rule}

abbrev pub letter_of : FieldType → ℕ
letter_of Text = letter_t
letter_of Latin = letter_l
letter_of Float = letter_f
letter_of Double = letter_r
letter_of Short = letter_s
letter_of Integer = letter_i
letter_of ShortPair = letter_c
letter_of ShortTriple = letter_z
letter_of DoublePair = letter_b
letter_of DoubleTriple = letter_y
letter_of Date = letter_d
letter_of NullField = letter_x
letter_of Triplet = letter_k

-- the bytes of one element; a triplet says its own length
abbrev pub width_of : FieldType → ℕ
width_of Text = 1
width_of Latin = 1
width_of Float = 4
width_of Double = 8
width_of Short = 2
width_of Integer = 4
width_of ShortPair = 8
width_of ShortTriple = 12
width_of DoublePair = 16
width_of DoubleTriple = 24
width_of Date = 20
width_of NullField = 0
width_of Triplet = 0

-- no element is wider
abbrev pub widest : ℕ
widest = 24

-- whether the count may be `*`
abbrev pub star_of : FieldType → Bool
star_of Text = true
star_of Latin = true
star_of Float = false
star_of Double = false
star_of Short = false
star_of Integer = false
star_of ShortPair = true
star_of ShortTriple = true
star_of DoublePair = true
star_of DoubleTriple = true
star_of Date = false
star_of NullField = false
star_of Triplet = false

-- "Null is -32,768 for S, -2,147,483,648 for I, NaN for floats; others have none." `negsuc n` is -(n + 1).
abbrev pub null_of : FieldType → NullValue
null_of Text = Nothing
null_of Latin = Nothing
null_of Float = NotANumber
null_of Double = NotANumber
null_of Short = Number (negsuc 32767)
null_of Integer = Number (negsuc 2147483647)
null_of ShortPair = Nothing
null_of ShortTriple = Nothing
null_of DoublePair = Nothing
null_of DoubleTriple = Nothing
null_of Date = Nothing
null_of NullField = Nothing
null_of Triplet = Nothing

-- all that a type knows
abbrev pub rule_of : FieldType → Rule
rule_of t = record { letter = letter_of t; width = width_of t; star = star_of t; null = null_of t }

abbrev pub types : List FieldType
types = Text ∷ Latin ∷ Float ∷ Double ∷ Short ∷ Integer ∷ ShortPair ∷ ShortTriple ∷ DoublePair ∷ DoubleTriple ∷ Date ∷ NullField ∷ Triplet ∷ []

-- the type of a letter, or that the letter is not listed
abbrev pub Lookup : Type 0
Lookup = Option FieldType

-- the first of these types that has the letter
abbrev pub find : ℕ → List FieldType → Lookup
find b [] = None
find b (t ∷ ts) = cond (eqb b (letter_of t)) (Some t) (find b ts)

unfoldable pub type_of : ℕ → Lookup
type_of b = find b types

-- type I, type K
abbrev pub is_integer : FieldType → Bool
is_integer t = eqb (letter_of t) letter_i

abbrev pub is_triplet : FieldType → Bool
is_triplet t = eqb (letter_of t) letter_k

-- "counts above 65,535 .. are 4"
abbrev pub most_count : ℕ
most_count = 65535

abbrev pub in_range : ℕ → Bool
in_range n = cond (eqb n 0) false (leb n most_count)

-- "number or `*`" where a star is allowed, else 1; a count is a star or a number
unfoldable pub count_right : FieldType → Bool → ℕ → Bool
count_right t star n = cond star (star_of t) (cond (star_of t) (in_range n) (eqb n 1))
