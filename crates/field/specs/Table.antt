-- Document 01's table of field types, row by row in its order, and what it says of a letter.
use Rattle.std.specs.Prelude.{◌≡◌, Bool, true, false, cond, List, [], ◌∷◌, ◌↔◌, ℕ, ◌≤◌, negsuc, eqb, Some, None}
use Rattle.field.specs.Letters.{letter_t, letter_l, letter_f, letter_r, letter_s, letter_i, letter_c, letter_z, letter_b, letter_y, letter_d, letter_x, letter_k}
use Rattle.field.specs.Fields.{Lookup, letter_of, width_of, star_of, null_of, count_right, most_count}
use Rattle.field.specs.declared.FieldType.{FieldType}
use Rattle.field.specs.declared.NullValue.{NullValue}
use Rattle.field.specs.declared.NullValue.TheVariants.{Nothing, Number, NotANumber}

-- the column "Bytes": so many for each element, or from the least to the most for one value
pub data Bytes : Type 0 where
  exactly : ℕ → Bytes
  between : ℕ → ℕ → Bytes

-- the column "Count"
pub data Count : Type 0 where
  number_or_star : Count
  one : Count

pub record Row : Type 0 where
  pub letter : ℕ
  pub bytes : Bytes
  pub count : Count
  pub null : NullValue

abbrev pub row : ℕ → Bytes → Count → NullValue → Row
row l b c n = record { letter = l; bytes = b; count = c; null = n }

-- the table, with the nulls of the text below it
abbrev pub table : List Row
table =
    row letter_t (exactly 1) number_or_star Nothing
    ∷ row letter_l (exactly 1) number_or_star Nothing
    ∷ row letter_f (exactly 4) one NotANumber
    ∷ row letter_r (exactly 8) one NotANumber
    ∷ row letter_s (exactly 2) one (Number (negsuc 32767))
    ∷ row letter_i (exactly 4) one (Number (negsuc 2147483647))
    ∷ row letter_c (exactly 8) number_or_star Nothing
    ∷ row letter_z (exactly 12) number_or_star Nothing
    ∷ row letter_b (exactly 16) number_or_star Nothing
    ∷ row letter_y (exactly 24) number_or_star Nothing
    ∷ row letter_d (exactly 20) one Nothing
    ∷ row letter_x (exactly 0) one Nothing
    ∷ row letter_k (between 1 13) one Nothing
    ∷ []

-- the width of an element; what is between a least and a most says its own length
abbrev pub element_width : Bytes → ℕ
element_width (exactly n) = n
element_width (between least most) = 0

abbrev pub star_allowed : Count → Bool
star_allowed number_or_star = true
star_allowed one = false

-- the counts that are right: of a star, and of a number
abbrev pub RightCount : Count → Bool → ℕ → Type 0
RightCount number_or_star true n = Unit {0}
RightCount number_or_star false n = (1 ≤ n) × (n ≤ most_count)
RightCount one true n = ⊥
RightCount one false n = n ≡ 1

-- the functions' definitions say of a type what a row says
pub record Agrees (r : Row) (t : FieldType) : Type 0 where
  pub letter : letter_of t ≡ r.letter
  pub width : width_of t ≡ element_width r.bytes
  pub star : star_of t ≡ star_allowed r.count
  pub null : null_of t ≡ r.null
  pub counts : (star : Bool) (n : ℕ) → (count_right t star n ≡ true) ↔ RightCount r.count star n

-- what the table says of a letter
pub data Entry : Type 0 where
  listed : Row → Entry
  unlisted : Entry

abbrev pub entry_in : ℕ → List Row → Entry
entry_in b [] = unlisted
entry_in b (r ∷ rs) = cond (eqb b r.letter) (listed r) (entry_in b rs)

-- a letter's type has the letter's row, and a letter that has no row has no type
abbrev pub Right : Entry → Lookup → Type 0
Right (listed r) (Some t) = Agrees r t
Right (listed r) None = ⊥
Right unlisted (Some t) = ⊥
Right unlisted None = Unit {0}
