-- Worked examples as one table, computed.
use mathlib.Core.Path.{◌≡◌, refl}
use mathlib.Core.Bool.{true, false}
use mathlib.Core.List.{List, [], ◌∷◌}
use lib.IntN.{pos, negsuc}
use lib.Ieee.{fin, binary32, binary64, lt, of_bits}
use Rattle.std.specs.Prelude.{Ok, Err}
use Rattle.refusal.specs.Order.{refusal}
use Rattle.number.specs.declared.Order.TheVariants.{Least, Most}
use Rattle.number.specs.Bytes.{number, value}
use Rattle.bounds.specs.declared.Parts.TheVariants.{Two, Three}
use Rattle.bounds.specs.Bounds.{Coordinates, Bounds, coordinates, count, part_at, xOf, yOf, unfit, rectangle_of, around, bounds_of}

abbrev Gives : List (Coordinates × Bounds) → Type 0
Gives [] = Unit {0}
Gives (e ∷ l) = (bounds_of e.0 ≡ e.1) × Gives l

abbrev examples : List (Coordinates × Bounds)
examples =
    -- (-0, 1.5) and (0, 2): the zeros tie, and the earliest keeps its sign
    (
      coordinates binary32 Two Least (0 ∷ 0 ∷ 0 ∷ 128 ∷ 0 ∷ 0 ∷ 192 ∷ 63 ∷ 0 ∷ 0 ∷ 0 ∷ 0 ∷ 0 ∷ 0 ∷ 0 ∷ 64 ∷ []),
      Ok (record {
        least_x = fin true 0 (pos 0);
        least_y = fin false 3 (negsuc 0);
        greatest_x = fin true 0
            (pos 0);
        greatest_y = fin false 1 (pos 1);
      }),
    )
    -- (1, 2, NaN): z is free
    ∷ (
      coordinates binary32 Three Most (63 ∷ 128 ∷ 0 ∷ 0 ∷ 64 ∷ 0 ∷ 0 ∷ 0 ∷ 127 ∷ 192 ∷ 0 ∷ 0 ∷ []),
      Ok (around (fin false 1 (pos 0)) (fin false 1 (pos 1))),
    )
    -- (1, 2) and (1, infinity): refused at the second
    ∷ (
      coordinates binary32 Two Most (63 ∷ 128 ∷ 0 ∷ 0 ∷ 64 ∷ 0 ∷ 0 ∷ 0 ∷ 63 ∷ 128 ∷ 0 ∷ 0 ∷ 127 ∷ 128 ∷ 0 ∷ 0 ∷ []),
      Err (refusal 12 2),
    )
    -- (1, -2) in f64
    ∷ (
      coordinates binary64 Two Most (63 ∷ 240 ∷ 0 ∷ 0 ∷ 0 ∷ 0 ∷ 0 ∷ 0 ∷ 192 ∷ 0 ∷ 0 ∷ 0 ∷ 0 ∷ 0 ∷ 0 ∷ 0 ∷ []),
      Ok (around (fin false 1 (pos 0)) (fin true 1 (pos 1))),
    )
    -- bytes for no coordinate
    ∷ (coordinates binary64 Two Most (63 ∷ 240 ∷ 0 ∷ 0 ∷ 0 ∷ 0 ∷ 0 ∷ 0 ∷ []), Err (refusal 12 0))
    ∷ []

pub examples_hold : Gives examples
unfolding bounds_of count unfit rectangle_of xOf yOf part_at number value of_bits lt
examples_hold = (refl, (refl, (refl, (refl, (refl, tt)))))
