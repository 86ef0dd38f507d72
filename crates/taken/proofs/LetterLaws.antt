-- The number by a type's letter is the number by its type.
use mathlib.Core.Path.{◌≡◌, refl}
use mathlib.Core.List.{List}
use Prim.Native.Nat.{ℕ}
use Rattle.number.specs.declared.Order.{Order}
use Rattle.field.specs.declared.FieldType.{FieldType}
use Rattle.field.specs.Fields.{letter_of}
use Rattle.taken.specs.Numbers.{number_in, number_by}

pub number_by_lem : (o : Order) (s : List ℕ) (kind : FieldType) (p end : ℕ) → number_by o s (letter_of kind) p end ≡ number_in o s kind p end
unfolding number_by number_in
number_by_lem o s kind p end = refl
