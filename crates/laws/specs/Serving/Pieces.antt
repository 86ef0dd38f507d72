-- A text written into a buffer piece by piece, from the buffer's first place on.
use Rattle.std.specs.Prelude.{◌≡◌, List, ℕ, length}
use Rattle.std.proofs.lemmas.List.Edits.{sets}

-- the buffer d has become e: the text stands at its front, and the next piece goes to the place `at`
pub record Begun (d text : List ℕ) (at : ℕ) (e : List ℕ) : Type 0 where
  pub place : at ≡ length text
  pub holds : e ≡ sets d 0 text
