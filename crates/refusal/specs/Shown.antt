-- What a refusal is printed as: its number, ` at ` and its place, both in decimal.
use Rattle.std.specs.Prelude.{List, ◌++◌, ℕ, codes}
use Rattle.std.specs.Fmt.{decimal}
use Rattle.refusal.specs.declared.Refusal.{Refusal}

abbrev pub refusal_text : Refusal → List ℕ
refusal_text q = decimal q.number ++ (codes " at " ++ decimal q.place)
