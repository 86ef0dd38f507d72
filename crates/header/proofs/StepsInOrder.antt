-- The steps through an accepted header give the columns of its reading in order, each moving past exactly its printed definition,
-- and then the end; a refused header gives its refusal at every place.
use mathlib.Core.Path.{◌≡◌, refl, sym, ap, ◌∙◌}
use mathlib.Core.Logic.{by_cases}
use mathlib.Core.Bool.{true}
use mathlib.Core.List.{List, [], ◌∷◌}
use Prim.Native.Nat.{ℕ, zero, suc, pred, ◌+◌, ◌-◌, ◌≤◌, ◌<◌}
use native.Mathlib.Decide.{dec_lt}
use native.Mathlib.Omega.{arith}
use borrow.Author.Tests.{eq-eqb, ne_eqb}
use lib.Dec.{eqb}
use lib.ListN.{length, take, drop, length-take}
use lib.Seq.{take-take}
use Rattle.laws.specs.Orbit.{iterate}
use Rattle.laws.proofs.LowestLaws.{lowest_none, lowest_some}
use Rattle.laws.proofs.PlaceLaws.{drop-take}
use Rattle.refusal.specs.Order.{refusal}
use Rattle.grammar.specs.Words as words
use Rattle.grammar.specs.Words.{semicolon, printed_mark, printed_column, Reading, Reads}
use Rattle.header.specs.declared.Span.{Span}
use Rattle.header.specs.declared.Definition.{Definition}
use Rattle.std.specs.Prelude.{Ok, Err, Some, None}
use Rattle.header.specs.Places.{part, definition, place_after, column}
use Rattle.header.specs.Judge.{head_of, text_of, text_length, column_count, header_refusal}
use Rattle.header.specs.Steps.{starts_at, step_from, step_of, place_of, start_of}
use Rattle.header.specs.Words.{column_at, Shows, AcceptedHeader}
use Rattle.header.specs.Refusals.{RefusedWith}
use Rattle.header.proofs.PlaceLaws.{seek_le, last_le}
use Rattle.header.proofs.ColumnsShown.{column_shown, first_place_lem, last_stands, place_next, place_further}
use Rattle.header.proofs.TestsInWords.{reads_text, column_count_lem}
use Rattle.header.proofs.AcceptedExactly.{accepted_text, accepted_exactly}
use Rattle.header.proofs.RefusedExactly.{refused-exactly, refused_test}

-- ---- what is shown in the head is shown in the file: a field ends inside the head

part_of_head : (m : ℕ) (s : List ℕ) (x : Span) → x.end ≤ length (take m s) → part (take m s) x ≡ part s x
part_of_head m s x h =
    let i : x.end - x.start ≤ m - x.start = omega (arith, length-take m s) in
    ap (take (x.end - x.start)) (drop-take x.start m s) ∙ take-take (x.end - x.start) (m - x.start) (drop x.start s) i

shows_in_file : (m : ℕ) (s : List ℕ) (p : ℕ) (c : words.Column) → Shows (take m s) p c (definition (take m s) p)
    → Shows s p c (definition (take m s) p)
unfolding definition
shows_in_file m s p c w =
    let t = take m s in
    record {
      name-at = w.name-at;
      name = sym (part_of_head m s _ (seek_le t _ _)) ∙ w.name;
      type = w.type;
      star = w.star;
      count = w.count;
      key = w.key;
      description = sym (part_of_head m s _ (seek_le t _ _)) ∙ w.description;
      value_table = sym (part_of_head m s _ (seek_le t _ _)) ∙ w.value_table;
      thematic_index = sym (part_of_head m s _ (seek_le t _ _)) ∙ w.thematic_index;
      narrative = sym (part_of_head m s _ (last_le t _ (seek_le t _ _))) ∙ w.narrative;
      form = w.form;
      after = w.after;
    }

-- a step, then the next: the place after k steps
abbrev pub stepped : List ℕ → ℕ → ℕ → ℕ
stepped file k p = iterate (λ q. place_of q (step_of file q)) k p

-- ---- a refused header
pub refused_everywhere : (file : List ℕ) (n p : ℕ) → RefusedWith file n p → (place : ℕ) → step_of file place ≡ Err (refusal n p)
unfolding step_of
refused_everywhere file n p w place = rw (refused_test file n p w) (ap Err ((refused-exactly file n p).1 w).0)

pub refused_start : (file : List ℕ) (n p : ℕ) → RefusedWith file n p → start_of file ≡ 0
unfolding start_of
refused_start file n p w = rw (refused_test file n p w)

-- ---- an accepted header, with its reading
module _ (file : List ℕ) (h : Reading) (a : AcceptedHeader file h) where
  abbrev head : List ℕ
  head = head_of file

  abbrev columns : ℕ
  columns = length h.columns

  -- the test that every operation over a header asks first
  pub accepted_test : eqb (header_refusal file).number 0 ≡ true
  accepted_test = eq-eqb (header_refusal file).number 0 ((accepted_exactly file).1 (h, a))

  pub head_reads : Reads (text_of file) h
  head_reads = reads_text file h (accepted_text file h a)

  pub accepted_count : column_count file ≡ columns
  accepted_count = column_count_lem file h (accepted_text file h a)

  accepted_step : (place : ℕ) → step_of file place ≡ step_from head columns place (starts_at head columns place)
  unfolding step_of
  accepted_step place = rw (accepted_test, accepted_count)

  -- the places stand one beyond the other
  places_ascend : (j k : ℕ) → j < k → k ≤ columns → place_after head j < place_after head k
  places_ascend j zero l m = absurd (omega arith)
  places_ascend j (suc k) l m =
      by_cases (dec_lt j k)
      (λ c. omega (arith, places_ascend j k c (omega arith), place_further head h head_reads k m))
      (λ c. let e : j ≡ k = omega arith in rw e (place_further head h head_reads k m))

  -- A NEW READER stands at the first definition
  pub start_is_first : start_of file ≡ place_after head 0
  unfolding start_of place_after
  start_is_first = rw accepted_test

  -- the first definition is past the order letter, the two fields of the table and their `;`
  pub start-place : start_of file ≡ 4 + length (printed_mark h.mark) + length h.description + length h.narrative + 3
  unfolding place_after
  start-place = start_is_first ∙ first_place_lem head h head_reads

  found : (place r : ℕ) → 0 < r → step_from head columns place r ≡ Ok (Some (definition head place))
  found place zero l = absurd (omega arith)
  found place (suc r) l = refl

  -- A STEP at the place after k columns gives column k + 1
  pub column_step : (k : ℕ) → k < columns → step_of file (place_after head k) ≡ Ok (Some (column head (suc k)))
  column_step k l =
      accepted_step (place_after head k)
      ∙ found (place_after head k) (starts_at head columns (place_after head k))
      (lowest_some (λ j. eqb (place_after head (pred j)) (place_after head k)) columns (suc k) (omega arith) l
      (eq-eqb (place_after head k) (place_after head k) refl))

  pub step_shows : (k : ℕ) → k < columns → Shows file (place_after head k) (column_at h (suc k)) (column head (suc k))
  unfolding head_of
  step_shows k l = shows_in_file (text_length file + 4) file (place_after head k) (column_at h (suc k)) (column_shown head h head_reads k l)

  not_started : (place : ℕ) → ((k : ℕ) → k < columns → place ≡ place_after head k → ⊥) → starts_at head columns place ≡ 0
  not_started place no_place =
      lowest_none (λ j. eqb (place_after head (pred j)) place) columns
      (λ j l m. ne_eqb (place_after head (pred j)) place (λ e. no_place (pred j) (omega arith) (sym e)))

  -- THE END, after the last
  pub done_step : step_of file (place_after head columns) ≡ Ok None
  done_step =
      let p = place_after head columns in
      let z = not_started p (λ k l e. omega (arith, places_ascend k columns l (omega arith))) in
      accepted_step p ∙ rw (z, eq-eqb p p refl)

  pub done_place : drop (place_after head columns) head ≡ semicolon ∷ []
  done_place = last_stands head h head_reads

  -- 13 AT EVERY OTHER PLACE, and the reader stays
  pub step_elsewhere : (place : ℕ) → ((k : ℕ) → k ≤ columns → place ≡ place_after head k → ⊥) → step_of file place ≡ Err (refusal 13 place)
  step_elsewhere place no_place =
      let z = not_started place (λ k l. no_place k (omega arith)) in
      accepted_step place ∙ rw (z, ne_eqb place (place_after head columns) (no_place columns (omega arith)))

  -- ---- one step after the other, from the start
  pub place_after_steps : (k : ℕ) → k ≤ columns → stepped file k (start_of file) ≡ place_after head k
  unfolding place_after
  place_after_steps zero l = start_is_first
  place_after_steps (suc k) l = rw (place_after_steps k (omega arith), column_step k l)

  -- THE COLUMNS OF THE READING IN ORDER: the step after k others gives a definition that shows column k + 1
  pub steps_give_columns : (k : ℕ) → k < columns
      → (d : Definition) × (step_of file (stepped file k (start_of file)) ≡ Ok (Some d))
      × Shows file (stepped file k (start_of file)) (column_at h (suc k)) d
  steps_give_columns k l =
      rw (place_after_steps k (omega arith)) (column head (suc k), column_step k l, step_shows k l)

  -- moving past exactly one printed definition
  pub steps_move_past : (k : ℕ) → k < columns
      → stepped file (suc k) (start_of file) ≡ stepped file k (start_of file) + length (printed_column (column_at h (suc k)))
  steps_move_past k l =
      let e = place_after_steps k (omega arith) in
      place_after_steps (suc k) l ∙ place_next head h head_reads k l ∙ ap (λ (p : ℕ). p + length (printed_column (column_at h (suc k)))) (sym e)

  -- and then the end, at which the reader stays
  pub steps_stay : (k : ℕ) → columns ≤ k → stepped file k (start_of file) ≡ place_after head columns
  steps_stay zero l = let e : 0 ≡ columns = omega arith in start_is_first ∙ ap (place_after head) e
  steps_stay (suc k) l =
      by_cases (dec_lt k columns)
      (λ c. let e : suc k ≡ columns = omega arith in place_after_steps (suc k) c ∙ ap (place_after head) e)
      (λ c. rw (steps_stay k (omega arith), done_step))

  pub steps_end : (k : ℕ) → columns ≤ k → step_of file (stepped file k (start_of file)) ≡ Ok None
  steps_end k l = ap (step_of file) (steps_stay k l) ∙ done_step
