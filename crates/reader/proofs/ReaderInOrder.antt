-- A new reader gives the columns of the header's reading in order, each step moving past exactly one printed definition, and then
-- the end, at which it stays. A step that gives a column at any place does just that; every other place is 13, and a refused header
-- gives its refusal wherever the reader stands.
use mathlib.Core.Path.{◌≡◌, refl, sym, ap, subst, ◌∙◌}
use mathlib.Core.Logic.{by_cases, inl, inr, ⊎_elim}
use mathlib.Core.Bool.{Bool, true, false, false≢true}
use mathlib.Core.List.{List}
use Prim.Native.Nat.{ℕ, zero, suc, pred, ◌+◌, ◌≤◌, ◌<◌}
use native.Mathlib.Decide.{ℕ_discrete, dec_lt}
use native.Mathlib.Omega.{arith}
use denote.Ref.{Bor}
use lib.ListN.{length}
use Rattle.laws.proofs.LowestLaws.{some_or_none}
use Rattle.refusal.specs.Order.{refusal}
use Rattle.grammar.specs.Words.{Reading, printed_mark}
use Rattle.header.specs.declared.Definition.{Definition}
use Rattle.std.specs.Prelude.{Some, None, Ok, Err}
use Rattle.header.specs.Steps.{Step, place_of, start_of}
use Rattle.header.specs.Words.{column_at, AcceptedHeader}
use Rattle.header.specs.Refusals.{RefusedWith}
use Rattle.header.proofs.StepsInOrder.{stepped, refused_everywhere, start-place, place_after_steps, steps_give_columns, steps_move_past, steps_end, step_elsewhere}
use Rattle.reader.specs.declared.Reader.{Reader}
use Rattle.reader.specs.Moves.{reader_at, opened, gives, moved, steps}
use Rattle.reader.specs.Words.{GivesColumn, SaysDone, Refuses}

-- the reader's steps are the covered step's
pub steps_of_place : (file : Bor (List ℕ)) (k place : ℕ) → steps k (reader_at file place) ≡ reader_at file (stepped file.now k place)
steps_of_place file zero place = refl
steps_of_place file (suc k) place = ap moved (steps_of_place file k place)

-- after the end, and at a refusal, it stays
stays : (r : Reader) (s : Step) → gives r ≡ s → place_of r.at s ≡ r.at → moved r ≡ r
stays r s e p = ap (reader_at r.file) (ap (place_of r.at) e ∙ p)

says_done : (r : Reader) → gives r ≡ Ok None → SaysDone r
says_done r e = record { given = e; stays = stays r (Ok None) e refl }

refuses : (r : Reader) (n p : ℕ) → gives r ≡ Err (refusal n p) → Refuses r n p
refuses r n p e = record { given = e; stays = stays r (Err (refusal n p)) e refl }

-- "A HEADER REFUSAL COMES FIRST", wherever the reader stands
pub refused-first : (file : Bor (List ℕ)) (n p : ℕ) → RefusedWith file.now n p → (place : ℕ) → Refuses (reader_at file place) n p
refused-first file n p w place = refuses (reader_at file place) n p (refused_everywhere file.now n p w place)

abbrev is_column : Step → Bool
is_column (Ok (Some d)) = true
is_column (Ok None) = false
is_column (Err q) = false

module _ (file : Bor (List ℕ)) (h : Reading) (a : AcceptedHeader file.now h) where
  abbrev columns : ℕ
  columns = length h.columns

  -- where a new reader stands after k steps
  abbrev place_after : ℕ → ℕ
  place_after k = stepped file.now k (start_of file.now)

  after_steps : (k : ℕ) → reader_at file (place_after k) ≡ steps k (opened file)
  after_steps k = sym (steps_of_place file k (start_of file.now))

  -- the first definition stands past the order letter, the two fields of the table and their `;`
  pub starts_at_first : (opened file).at ≡ 4 + length (printed_mark h.mark) + length h.description + length h.narrative + 3
  starts_at_first = start-place file.now h a

  -- THE COLUMNS IN ORDER: step k + 1 of a new reader gives column k + 1
  pub columns_in_order : (k : ℕ) → k < columns → GivesColumn (steps k (opened file)) (column_at h (suc k))
  columns_in_order k l =
      let w = steps_give_columns file.now h a k l in
      subst (λ (r : Reader). GivesColumn r (column_at h (suc k))) (after_steps k)
      (record { shown = w.0; given = w.1; shows = w.2; past_one = ap (reader_at file) (steps_move_past file.now h a k l) })

  -- THEN THE END, at which it stays
  pub then_done : (k : ℕ) → columns ≤ k → SaysDone (steps k (opened file))
  then_done k l = subst SaysDone (after_steps k) (says_done (reader_at file (place_after k)) (steps_end file.now h a k l))

  -- 13 AT EVERY OTHER PLACE than those that a new reader comes to
  pub elsewhere : (place : ℕ) → ((k : ℕ) → k ≤ columns → reader_at file place ≡ steps k (opened file) → ⊥)
      → Refuses (reader_at file place) 13 place
  elsewhere place none =
      refuses (reader_at file place) 13 place
      (step_elsewhere file.now h a place (λ k l e.
      none k l (ap (reader_at file) (e ∙ sym (place_after_steps file.now h a k l)) ∙ after_steps k)))

  -- EXACTLY ONE DEFINITION, at whatever place a reader stands: one that gives a column is where a new reader comes to, and does the same
  pub one_definition : (place : ℕ) (d : Definition) → gives (reader_at file place) ≡ Ok (Some d)
      → (k : ℕ) × (k < columns) × (reader_at file place ≡ steps k (opened file)) × GivesColumn (reader_at file place) (column_at h (suc k))
  one_definition place d e =
      ⊎_elim
      (λ w.
      let k : ℕ = pred w.0 in
      let q : reader_at file place ≡ steps k (opened file) = ap (reader_at file) w.2 ∙ after_steps k in
      by_cases (dec_lt k columns)
      (λ l. (k, l, q, subst (λ (r : Reader). GivesColumn r (column_at h (suc k))) (sym q) (columns_in_order k l)))
      (λ l. no_column (Ok None) refl (ap gives q ∙ (then_done k (omega arith)).given)))
      (λ none.
      no_column (Err (refusal 13 place)) refl
      (elsewhere place (λ k l q. none (suc k) (omega arith, omega arith) (ap (λ (r : Reader). r.at) (q ∙ sym (after_steps k))))).given)
      (some_or_none (λ k. place ≡ place_after (pred k)) (suc columns) (λ k i. by_cases (ℕ_discrete place (place_after (pred k))) inl inr))
    where
      no_column : {C : Type 0} (s : Step) → is_column s ≡ false → gives (reader_at file place) ≡ s → C
      no_column s f g = absurd (false≢true (sym f ∙ ap is_column (sym g ∙ e)))
