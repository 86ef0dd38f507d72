-- A buffer as a computed front and an untouched rest: one equation states every element.
use Rattle.std.specs.Prelude.{List, [], ◌∷◌, ◌++◌, ℕ, zero, suc, drop}

-- g 0, .., g (n - 1)
abbrev pub listed : (ℕ → ℕ) → ℕ → List ℕ
listed g zero = []
listed g (suc n) = listed g n ++ (g n ∷ [])

-- a buffer d whose first n are g's
abbrev pub front : (ℕ → ℕ) → ℕ → List ℕ → List ℕ
front g n d = listed g n ++ drop n d

-- f 1, .., f n
abbrev pub one_to : {A : Type 0} → (ℕ → A) → ℕ → List A
one_to f zero = []
one_to f (suc n) = one_to f n ++ (f (suc n) ∷ [])
