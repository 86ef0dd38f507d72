-- Document 01's table of refusals, by operation: which numbers each can give.
use Rattle.std.specs.Prelude.{◌≡◌, ◌⊎◌, List, [], ◌∷◌, ◌++◌, ℕ}

-- n is one of these
abbrev pub Among : List ℕ → ℕ → Type 0
Among [] n = ⊥
Among (a ∷ l) n = (n ≡ a) ⊎ Among l n

-- nothing is refused (number 0), or the number is one of these
abbrev pub NoneOrAmong : List ℕ → ℕ → Type 0
NoneOrAmong l n = (n ≡ 0) ⊎ Among l n

-- "16: text is no wave height"
abbrev pub of_wave : List ℕ
of_wave = 16 ∷ []

-- "11: type byte or part bad, or cut short"
abbrev pub of_triplet : List ℕ
of_triplet = 11 ∷ []

-- "It tests a part too large (11 ..), then a place beyond the buffer (13), then room (14 ..)."
abbrev pub of_writing : List ℕ
of_writing = 11 ∷ 13 ∷ 14 ∷ []

-- "1, 2, 1, 15, 3 over the whole text, 4 by column, 5, 6"
abbrev pub of_header : List ℕ
of_header = 1 ∷ 2 ∷ 3 ∷ 4 ∷ 5 ∷ 6 ∷ 15 ∷ []

-- "a place where the header's reading starts no definition gives 13"
abbrev pub of_step : List ℕ
of_step = 13 ∷ of_header

-- "then 8 at 0 for a needed index under 8 bytes, 15 .., 7 or 8"
abbrev pub of_opening : List ℕ
of_opening = 7 ∷ 8 ∷ of_header

-- "Within a row, 10 and 11 by column order (a cut triplet is 11), then 9."
abbrev pub of_row : List ℕ
of_row = 9 ∷ 10 ∷ 11 ∷ []

-- "13: no such row, ring or column"
abbrev pub of_value : List ℕ
of_value = 13 ∷ of_row

-- "12: x or y not finite, or no coordinates"
abbrev pub of_bounds : List ℕ
of_bounds = 12 ∷ []

abbrev pub of_rectangle : List ℕ
of_rectangle = 12 ∷ of_value

-- "Loading opens the four tables in turn, then tests 17 by place, F, then R, zero (15), room (14, by place), then rows table by table"
abbrev pub of_load : List ℕ
of_load = 14 ∷ 17 ∷ of_row ++ of_opening

-- "a successor at every side (23, 24, 25)", and 22 where the link is none of 1..E
abbrev pub of_successor : List ℕ
of_successor = 22 ∷ 23 ∷ 24 ∷ 25 ∷ []

-- "sizes (15), owner space (14)", and the facts of the tile, 20 to 31
abbrev pub of_check : List ℕ
of_check = 14 ∷ 15 ∷ 20 ∷ 21 ∷ 22 ∷ 23 ∷ 24 ∷ 25 ∷ 26 ∷ 27 ∷ 28 ∷ 29 ∷ 30 ∷ 31 ∷ []

-- "A walk .. first tests 15, 13, 29, then at each move 22 to 25 .. With no return in 2E moves it gives 32; a short output gives 14 last."
abbrev pub of_walk : List ℕ
of_walk = 13 ∷ 14 ∷ 15 ∷ 22 ∷ 23 ∷ 24 ∷ 25 ∷ 29 ∷ 32 ∷ []

-- a directory judged whole: its load, then its check
abbrev pub of_directory : List ℕ
of_directory = of_load ++ of_check
