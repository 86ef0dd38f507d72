-- The lines of document 01, byte for byte, as one table under a single statement.
use mathlib.Core.Path.{◌≡◌, refl}
use mathlib.Core.List.{List, [], ◌∷◌, ◌++◌}
use Prim.Native.Nat.{ℕ}
use Prim.Native.String.{String}
use Rattle.laws.specs.Texts.{bytes}
use Rattle.refusal.specs.Order.{refusal}
use Rattle.report.specs.declared.FileName.TheVariants.{Edg}
use Rattle.report.specs.Text.{decimal, line_end}
use Rattle.report.specs.Lines.{refuse_line, accept_line, ring_line, steps_line}

-- a line and the bytes that the paper shows
pub record Example : Type 0 where
  pub line : List ℕ
  pub shown : List ℕ

abbrev example : List ℕ → String → Example
example l s = record { line = l; shown = bytes s ++ (line_end ∷ []) }

abbrev AllAsShown : List Example → Type 0
AllAsShown [] = Unit {0}
AllAsShown (e ∷ es) = (e.line ≡ e.shown) × AllAsShown es

abbrev pub examples : List Example
examples =
    example (refuse_line Edg (refusal 23 2)) "REFUSE edg 23 2"
    ∷ example (accept_line (record { edges = 3; faces = 2; rings = 2; nodes = 3 })) "ACCEPT nodes 3 edges 3 faces 2 rings 2"
    ∷ example (ring_line 1 1 3) "ring 1 face 1 steps 3"
    ∷ example (ring_line 2 2 3) "ring 2 face 2 steps 3"
    ∷ example (steps_line 6) "steps 6"
    ∷ []

pub examples_hold : AllAsShown examples
unfolding decimal refuse_line accept_line ring_line steps_line
examples_hold = (refl, (refl, (refl, (refl, (refl, tt)))))
