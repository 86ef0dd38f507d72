-- Texts of a language, and the place where a text leaves it: "first byte that cannot continue", or the text's end.
use Rattle.std.specs.Prelude.{List, ◌++◌, ℕ, suc, ◌≤◌, ◌<◌, length, take}

module _ (In : List ℕ → Type 0) where
  -- some text of the language begins with these bytes
  abbrev pub Begins : List ℕ → Type 0
  Begins s = (t : List ℕ) × In (s ++ t)

  -- The text is not in the language. Some text of the language begins with what stands before place i, and none with that
  -- and the byte at i; or i is the text's end.
  pub record LeavesAt (s : List ℕ) (i : ℕ) : Type 0 where
    pub outside : In s → ⊥
    pub within : i ≤ length s
    pub before : Begins (take i s)
    pub with_it : i < length s → Begins (take (suc i) s) → ⊥
