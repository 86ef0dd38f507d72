-- "gives one column at each step, moving past exactly one definition. A header refusal comes first. After the last it says so and
-- stays; a place where the header's reading starts no definition gives 13, that place, and stays."
use Rattle.std.specs.Prelude.{cond, List, ℕ, zero, suc, pred, eqb, Option, Some, None, Result, Ok, Err}
use Rattle.laws.specs.Lowest.{lowest}
use Rattle.refusal.specs.declared.Refusal.{Refusal}
use Rattle.refusal.specs.Order.{refusal}
use Rattle.header.specs.declared.Definition.{Definition}
use Rattle.header.specs.Places.{definition, first_place, place_after}
use Rattle.header.specs.Names.{column_named}
use Rattle.header.specs.Judge.{head_of, column_count, header_refusal}

-- what a step gives: a column, the end after the last, or a refusal
abbrev pub Step : Type 0
Step = Result (Option Definition) Refusal

-- the column that starts at the place, or 0
abbrev pub starts_at : List ℕ → ℕ → ℕ → ℕ
starts_at s n place = lowest (λ k. eqb (place_after s (pred k)) place) n

abbrev pub step_from : List ℕ → ℕ → ℕ → ℕ → Step
step_from s n place (suc k) = Ok (Some (definition s place))
step_from s n place zero = cond (eqb place (place_after s n)) (Ok None) (Err (refusal 13 place))

-- THE STEP
unfoldable pub step_of : List ℕ → ℕ → Step
step_of file place =
    cond (eqb (header_refusal file).number 0)
    (step_from (head_of file) (column_count file) place (starts_at (head_of file) (column_count file) place))
    (Err (header_refusal file))

-- where a reader goes after a step: past the definition, or it stays
abbrev pub place_of : ℕ → Step → ℕ
place_of place (Ok (Some d)) = d.after
place_of place (Ok None) = place
place_of place (Err q) = place

-- where a new reader stands: at the first definition, at 0 where the header is refused
unfoldable pub start_of : List ℕ → ℕ
start_of file = cond (eqb (header_refusal file).number 0) (first_place (head_of file)) 0

-- the column of a name in either case; 0 where there is none or the header is refused
unfoldable pub column_of : List ℕ → List ℕ → ℕ
column_of file name = cond (eqb (header_refusal file).number 0) (column_named (head_of file) (column_count file) name) 0
