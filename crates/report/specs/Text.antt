-- Numbers as text: decimal digits, the most significant first, with no zero in front.
use Rattle.std.specs.Prelude.{cond, List, [], ◌∷◌, ◌++◌, ℕ, zero, suc, ◌+◌, ◌/◌, ◌%◌, ltb}

abbrev pub digit : ℕ → ℕ
digit d = 48 + d

-- with so many digits at the most
abbrev pub spelled : ℕ → ℕ → List ℕ
spelled zero n = []
spelled (suc most) n = cond (ltb n 10) (digit n ∷ []) (spelled most (n / 10) ++ (digit (n % 10) ∷ []))

-- every number below 2^64 has at most so many
abbrev pub most_digits : ℕ
most_digits = 20

unfoldable pub decimal : ℕ → List ℕ
decimal n = spelled most_digits n

abbrev pub space : ℕ
space = 32

-- "every line, the last too, ends with one LF"
abbrev pub line_end : ℕ
line_end = 10
