-- "A wave height is 1 to 6 digits, optionally a point and 1 to 3 digits, then only spaces. It becomes whole thousandths:
-- `2.5` is 2,500."
use Rattle.std.specs.Prelude.{◌≡◌, List, [], ◌∷◌, ◌++◌, ℕ, ◌+◌, ◌-◌, ◌*◌, ◌^◌, ◌≤◌, ◌<◌, length}

-- the bytes of a wave height
abbrev pub point : ℕ
point = 46

abbrev pub space : ℕ
space = 32

abbrev pub first_digit : ℕ
first_digit = 48

abbrev pub last_digit : ℕ
last_digit = 57

-- "1 to 6 digits", "1 to 3 digits"
abbrev pub most_whole : ℕ
most_whole = 6

abbrev pub most_part : ℕ
most_part = 3

-- the thousandths of a whole
abbrev pub thousand : ℕ
thousand = 1000

abbrev pub IsDigit : ℕ → Type 0
IsDigit b = (first_digit ≤ b) × (b ≤ last_digit)

abbrev pub IsSpace : ℕ → Type 0
IsSpace b = b ≡ space

-- each byte of the list is such a one
abbrev pub Every : (ℕ → Type 0) → List ℕ → Type 0
Every Such [] = Unit {0}
Every Such (b ∷ bs) = Such b × Every Such bs

-- the number that a digit says, and the number that digits say: each counts ten times what it would one place further
abbrev pub digit : ℕ → ℕ
digit b = b - first_digit

abbrev pub number : List ℕ → ℕ
number [] = 0
number (b ∷ ds) = digit b * 10 ^ length ds + number ds

-- from 1 to so many digits
pub record Digits (most : ℕ) (ds : List ℕ) : Type 0 where
  pub some : 1 ≤ length ds
  pub few : length ds ≤ most
  pub digits : Every IsDigit ds

-- "optionally a point and 1 to 3 digits": the text, and the thousandths that it says
pub data Fraction : List ℕ → ℕ → Type 0 where
  absent : Fraction [] 0
  present : {ds : List ℕ} → Digits most_part ds → Fraction (point ∷ ds) (number ds * 10 ^ (most_part - length ds))

-- the text is a wave height of v thousandths
pub record IsHeight (text : List ℕ) (v : ℕ) : Type 0 where
  pub whole : List ℕ
  pub part : List ℕ
  pub part_value : ℕ
  pub blanks : List ℕ
  pub stands : text ≡ whole ++ (part ++ blanks)
  pub digits : Digits most_whole whole
  pub fraction : Fraction part part_value
  pub spaces : Every IsSpace blanks
  pub value : v ≡ number whole * thousand + part_value

-- the text is a wave height
abbrev pub WaveHeight : List ℕ → Type 0
WaveHeight text = (v : ℕ) × IsHeight text v

-- "A measured height passes exactly when not above the limit": both are heights, and the measured one is not above
pub record NotAbove (measured limit : List ℕ) : Type 0 where
  pub seen : ℕ
  pub most : ℕ
  pub measures : IsHeight measured seen
  pub limits : IsHeight limit most
  pub within : seen ≤ most

-- both are heights, and the measured one is above
pub record Above (measured limit : List ℕ) : Type 0 where
  pub seen : ℕ
  pub most : ℕ
  pub measures : IsHeight measured seen
  pub limits : IsHeight limit most
  pub beyond : most < seen
