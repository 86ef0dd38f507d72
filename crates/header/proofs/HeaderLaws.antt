-- What is read of an accepted header, and of a refused one.
use mathlib.Core.Path.{◌≡◌, sym, ap, ◌∙◌}
use mathlib.Core.Bool.{true, false}
use mathlib.Core.List.{List}
use Prim.Native.Nat.{ℕ, ◌+◌, ◌-◌, ◌≤◌}
use native.Mathlib.Omega.{arith}
use native.Mathlib.Nat.{sub-zero, min-eq_left}
use borrow.Author.Tests.{eq-eqb, ne_eqb, eqb-true, eqb-false}
use lib.Dec.{eqb}
use lib.ListN.{length, take, length-take}
use Rattle.std.specs.Prelude.{Result, Ok, Err}
use Rattle.laws.proofs.LowestLaws.{bool_cases}
use Rattle.refusal.specs.declared.Refusal.{Refusal}
use Rattle.header.specs.declared.Header.{Header}
use Rattle.header.specs.declared.Judged.{Judged}
use Rattle.header.specs.Places.{place_after}
use Rattle.header.specs.Names.{names_of, column_among}
use Rattle.header.specs.Judge.{text_length, head_of, column_count, header_refusal}
use Rattle.header.specs.Layouts.{layout_of, handed_on, header_of}
use Rattle.header.specs.Steps.{step_of, start_of, column_of}
use Rattle.header.specs.Serving.Stages.{most_head, kept_of, step_in}
use Rattle.header.proofs.JudgeLaws.{Passed, passed, given}
use Rattle.header.proofs.NameLaws.{part_head, named_among}

-- an accepted header's names lie in the file as in its head
accepted_among : (file name : List ℕ) → (header_refusal file).number ≡ 0
    → column_among file (names_of (head_of file) (column_count file)) (column_count file) name ≡ column_of file name
unfolding column_among column_of head_of
accepted_among file name z =
    let p = passed file z in
    let m = text_length file + 4 in
    rw (eq-eqb (header_refusal file).number 0 z, min-eq_left p.few)
    (named_among file (take m file) (λ x h. part_head file m x (omega (arith, h, length-take m file))) (column_count file) name)

-- what a header that is given hands on
pub given_header : (file : List ℕ) (head : Header) → header_of file ≡ Ok head → ((header_refusal file).number ≡ 0) × (head ≡ handed_on file)
unfolding header_of
given_header file head e = given (header_refusal file) _ head e

-- a refused header gives no column
refused_among : (file name : List ℕ) → ((header_refusal file).number ≡ 0 → ⊥) → 0 ≡ column_of file name
unfolding column_of
refused_among file name h = rw (ne_eqb (header_refusal file).number 0 h)

-- the column of a name among the names that a header gave on; 0 where it is refused, and none are given
abbrev pub among_given : List ℕ → List ℕ → Result Header Refusal → ℕ
among_given file name (Ok head) = column_among file head.names head.layout.columns name
among_given file name (Err q) = 0

-- THE COLUMN OF A NAME, found among the names that the header gives on: what `find_column` gives, and no header is judged for it
pub among_names : (file name : List ℕ) → among_given file name (header_of file) ≡ column_of file name
unfolding header_of layout_of
among_names file name =
    bool_cases (eqb (header_refusal file).number 0)
    (λ t. rw t (accepted_among file name (eqb-true (header_refusal file).number 0 t)))
    (λ t. rw t (refused_among file name (eqb-false (header_refusal file).number 0 t)))

module _ (file : List ℕ) (f : Judged) (p : Passed file f) where
  -- the head, as the code lends it
  abbrev pub lent : List ℕ
  lent = take (f.header.layout.start - 0) file

  head_lent : lent ≡ head_of file
  unfolding head_of
  head_lent = rw sub-zero (ap (λ (x : Judged). take x.header.layout.start file) p.facts_are)

  accepted : eqb (header_refusal file).number 0 ≡ true
  accepted = eq-eqb (header_refusal file).number 0 p.number

  pub accepted_header : Ok f.header ≡ header_of file
  unfolding header_of layout_of kept_of
  accepted_header = rw accepted (λ t. Ok (p.facts_are t).header)

  pub accepted_step : (place : ℕ) → step_in lent f.header.layout.columns place ≡ step_of file place
  unfolding step_of step_in
  accepted_step place = rw accepted (λ t. step_in (head_lent t) (p.facts_are t).header.layout.columns place)

  -- where the columns start, as the code lends them
  pub accepted_names : f.header.names ≡ names_of lent f.header.layout.columns
  unfolding kept_of
  accepted_names = (λ t. (p.facts_are t).header.names) ∙ sym (λ t. names_of (head_lent t) (p.facts_are t).header.layout.columns)

  pub accepted_long : length lent ≤ most_head
  accepted_long = let h = length-take (f.header.layout.start - 0) file in omega (arith, h, p.short)

  pub accepted_after : f.after ≡ place_after lent f.header.layout.columns
  unfolding kept_of
  accepted_after = (λ t. (p.facts_are t).after) ∙ sym (λ t. place_after (head_lent t) (p.facts_are t).header.layout.columns)

  pub accepted_start : f.first ≡ start_of file
  unfolding start_of kept_of
  accepted_start = rw accepted (λ t. (p.facts_are t).first)

  pub accepted_column : (name : List ℕ) → column_among file f.header.names f.header.layout.columns name ≡ column_of file name
  unfolding kept_of
  accepted_column name =
      (λ t. column_among file (p.facts_are t).header.names (p.facts_are t).header.layout.columns name) ∙ accepted_among file name p.number

-- ---- a refused header
module _ (file : List ℕ) (q : Refusal) (h : (q ≡ header_refusal file) × ((header_refusal file).number ≡ 0 → ⊥)) where
  not_accepted : eqb (header_refusal file).number 0 ≡ false
  not_accepted = ne_eqb (header_refusal file).number 0 h.1

  pub refused_header : Err q ≡ header_of file
  unfolding header_of
  refused_header = rw not_accepted (ap Err h.0)

  pub refused_step : (place : ℕ) → Err q ≡ step_of file place
  unfolding step_of
  refused_step place = rw not_accepted (ap Err h.0)

  pub refused_start : 0 ≡ start_of file
  unfolding start_of
  refused_start = rw not_accepted

  pub refused_column : (name : List ℕ) → 0 ≡ column_of file name
  unfolding column_of
  refused_column name = rw not_accepted
