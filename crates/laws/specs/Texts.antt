-- Texts as bytes, so that a definition can show the text that it means.
use Rattle.std.specs.Prelude.{List, [], ◌∷◌, ℕ}
use Prim.Native.Char.{code}
use Prim.Native.String.{String, [] as ended, ◌∷◌ as ◌before◌}

-- the bytes of a text
abbrev pub bytes : String → List ℕ
bytes ended = []
bytes (c before s) = code c ∷ bytes s
