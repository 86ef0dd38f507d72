-- What a refusal leaves in the lent buffers; and, from what is checked then, the numbers of a directory judged whole.
use mathlib.Core.Path.{◌≡◌, refl, sym, ap, ◌∙◌}
use mathlib.Core.Logic.{◌⊎◌, inl, inr, ⊎_elim}
use mathlib.Core.Bool.{false}
use mathlib.Core.List.{List}
use Prim.Native.Nat.{ℕ, ◌≤◌, ◌<◌}
use Rattle.std.specs.Prelude.{Some, None, Ok, Err}
use native.Mathlib.Omega.{arith}
use borrow.Author.Tests.{lt-ltb, le-ltb, ne_eqb}
use lib.Dec.{eqb}
use lib.ListN.{length}
use Rattle.laws.specs.Buffer.{front}
use Rattle.laws.specs.Marks.{zeros}
use Rattle.laws.proofs.TestLaws.{clash}
use Rattle.refusal.specs.declared.Refusal.{Refusal}
use Rattle.refusal.specs.Order.{refusal}
use Rattle.refusal.proofs.AnswerLaws.{err-is}
use Rattle.number.specs.declared.Order.{Order}
use Rattle.triplet.specs.declared.Ids.{Ids}
use Rattle.triplet.specs.Written.{Written, written_of, row_after}
use Rattle.load.specs.declared.TableName.{TableName}
use Rattle.load.specs.declared.Counts.{Counts}
use Rattle.load.specs.declared.Finding.{Finding}
use Rattle.load.specs.Sources.{Files}
use Rattle.load.specs.Load.{Loaded, load_of, column_left}
use Rattle.tile.specs.Columns.{Tile, F, sides}
use Rattle.tile.specs.Check.{Verdict, verdict_of, marks_left, marks_after}
use Rattle.tile.specs.Check as check
use Rattle.tile.specs.Walk.{Walked, walk_of, sides_written}
use Rattle.facts.specs.Facts as facts
use Rattle.facts.proofs.RefusedExactly as tile
use Rattle.report.specs.declared.FileName.{FileName}
use Rattle.directory.specs.declared.Sizes.{Sizes}
use Rattle.directory.specs.Concerned.{file_of_verdict}
use Rattle.directory.specs.declared.Named.{Named}
use Rattle.load.specs.Columns.{Columns}
use Rattle.directory.specs.Columns.{held, short_of}
use Rattle.directory.specs.Files.{Directory, AtFault, files_read}
use Rattle.directory.specs.Outcome.{Outcome, named, unless_at_fault, tile_said, loaded_of, columns_after, checked_from, checked_as, checked_of, marks_checked, then_checked, outcome_of}
use Rattle.demands.specs.Numbers.{Among, of_load, of_check, of_directory}
use Rattle.demands.proofs.NumberLists.{one_of, also}
use Rattle.demands.proofs.NumbersNamed.{check_numbers, among_some, directory-load_numbers}

-- ---- triplets written, tiles loaded, rings walked: nothing

pub write_unchanged : (o : Order) (row : List ℕ) (at : ℕ) (t : Ids) (q : Refusal) → written_of (length row) at t ≡ Err q
    → row_after (written_of (length row) at t) o row at t ≡ row
write_unchanged o row at t q e = ap (λ (w : Written). row_after w o row at t) e

pub load_unchanged : (f : Files) (most : ℕ) (lengths : List ℕ) (q : Finding) → load_of f most lengths ≡ Err q
    → (n : TableName) (k : ℕ) (d : List ℕ) → column_left (load_of f most lengths) f most n k d ≡ d
load_unchanged f most lengths q e n k d = ap (λ (l : Loaded). column_left l f most n k d) e

pub walk_unchanged : (t : Tile) (r : ℕ) (out : List ℕ) (q : Refusal) → walk_of t r (length out) ≡ Err q
    → sides_written t r (walk_of t r (length out)) out ≡ out
walk_unchanged t r out q e = ap (λ (w : Walked). sides_written t r w out) e

-- ---- a tile checked: 14 and 15 nothing, the others the first 2E marks

-- a test after that of the owner space stands on it
space_there : (t : Tile) (space n p : ℕ) (x : facts.Test) → ((y : facts.Test) → facts.rank y < facts.rank x → facts.Holds t space y)
    → facts.FailsAt t space x n p → 20 ≤ n → sides t ≤ space
space_there t space n p facts.sizes earlier w h = absurd (omega (arith, w.0, h))
space_there t space n p facts.owner_space earlier w h = absurd (omega (arith, w.0, h))
space_there t space n p facts.nodes earlier w h = earlier facts.owner_space (omega arith)
space_there t space n p facts.faces earlier w h = earlier facts.owner_space (omega arith)
space_there t space n p facts.links earlier w h = earlier facts.owner_space (omega arith)
space_there t space n p facts.successors earlier w h = earlier facts.owner_space (omega arith)
space_there t space n p facts.predecessors earlier w h = earlier facts.owner_space (omega arith)
space_there t space n p facts.first_edges earlier w h = earlier facts.owner_space (omega arith)
space_there t space n p facts.ring_faces earlier w h = earlier facts.owner_space (omega arith)
space_there t space n p facts.runs earlier w h = earlier facts.owner_space (omega arith)
space_there t space n p facts.starts earlier w h = earlier facts.owner_space (omega arith)
space_there t space n p facts.not_named_twice earlier w h = earlier facts.owner_space (omega arith)
space_there t space n p facts.covered earlier w h = earlier facts.owner_space (omega arith)

module _ (t : Tile) (marks : List ℕ) (q : Refusal) (e : verdict_of t (length marks) ≡ Err q) where
  left_by : marks_after t marks ≡ marks_left t q marks
  left_by = ap (λ (r : Refusal). marks_left t r marks) (err-is (check.verdict t (length marks)) q e)

  some_number : eqb q.number 0 ≡ false
  some_number = ne_eqb q.number 0 (λ z. among_some q.number z (check_numbers t (length marks) q e))

  pub check_unchanged : q.number < 20 → marks_after t marks ≡ marks
  unfolding marks_left
  check_unchanged h = left_by ∙ rw (some_number, lt-ltb q.number 20 h) refl

  pub check_zeroed : 20 ≤ q.number → (marks_after t marks ≡ front zeros (sides t) marks) × (sides t ≤ length marks)
  unfolding marks_left
  check_zeroed h =
      let w = tile.refused t (length marks) q.number q.place e in (
        left_by ∙ rw (some_number, le-ltb q.number 20 h) refl,
        space_there t (length marks) q.number q.place w.test w.earlier w.fails h,
      )

-- ---- a directory loaded, and its tile checked

pub directory-load_unchanged : (z : Sizes) (d : Directory) (lengths : List ℕ) (w : Named) → loaded_of z d lengths ≡ Err w
    → (l : Columns) → columns_after (loaded_of z d lengths) (files_read d) l ≡ l
directory-load_unchanged z d lengths w e l = ap (λ (o : Outcome). columns_after o (files_read d) l) e

-- a check that is refused: counts that the columns cannot have, or the check's own refusal
refused_from : (c : Counts) (t : Tile) (w : Named) (v : Verdict) → checked_from c t v ≡ Err w → v ≡ Err w.refusal
refused_from c t w (Ok done) e = clash (cc)
refused_from c t w (Err q) e = let h : named (file_of_verdict t.fac_id (F t) q) q ≡ w = cc in ap
    (λ (x : Named). Err x.refusal) h

check_refused : (c : Counts) (t : Tile) (space : ℕ) (w : Named) → checked_as c t space ≡ Err w
    → verdict_of t space ≡ Err w.refusal
unfolding checked_as
check_refused c t space w e = refused_from c t w (verdict_of t space) e

module _ (c : Counts) (l : Columns) (space : ℕ) (w : Named) where
  refused_by : (x : AtFault) → short_of c l ≡ x → unless_at_fault x (checked_as c (held c l) space) ≡ Err w
      → ((n : FileName) × (short_of c l ≡ Some n) × (w.refusal.number ≡ 15)) ⊎
      ((short_of c l ≡ None) × (verdict_of (held c l) space ≡ Err w.refusal))
  refused_by (Some n) s e = let h : named n (refusal 15 0) ≡ w = cc in inl (n, s, sym (ap (λ (x : Named). x.refusal.number) h))
  refused_by None s e = inr (s, check_refused c (held c l) space w e)

  stages : checked_of c l space ≡ Err w
      → ((n : FileName) × (short_of c l ≡ Some n) × (w.refusal.number ≡ 15)) ⊎
      ((short_of c l ≡ None) × (verdict_of (held c l) space ≡ Err w.refusal))
  unfolding checked_of
  stages e = refused_by (short_of c l) refl e

  pub directory_check_numbers : checked_of c l space ≡ Err w → Among of_check w.refusal.number
  directory_check_numbers e =
      ⊎_elim (λ x. one_of of_check w.refusal.number 15 x.2 refl) (λ x. check_numbers (held c l) space w.refusal x.1) (stages e)

module _ (c : Counts) (l : Columns) (marks : List ℕ) (w : Named) (e : checked_of c l (length marks) ≡ Err w) where
  pub directory_check_unchanged : w.refusal.number < 20 → marks_checked c l marks ≡ marks
  unfolding marks_checked
  directory_check_unchanged h =
      ⊎_elim (λ x. rw x.1 refl) (λ x. rw x.0 (check_unchanged (held c l) marks w.refusal x.1 h)) (stages c l (length marks) w e)

  pub directory_check_zeroed : 20 ≤ w.refusal.number
      → (marks_checked c l marks ≡ front zeros (sides (held c l)) marks) × (sides (held c l) ≤ length marks)
  unfolding marks_checked
  directory_check_zeroed h =
      ⊎_elim (λ x. absurd (omega (arith, x.2))) (λ x. rw x.0 (check_zeroed (held c l) marks w.refusal x.1 h))
      (stages c l (length marks) w e)

-- ---- a directory judged whole

then_named : (t : Tile) (space : ℕ) (w : Named) (o : Outcome) → ((v : Named) → o ≡ Err v → Among of_load v.refusal.number)
    → then_checked o t space ≡ Err w → Among of_directory w.refusal.number
then_named t space w (Ok c) h e =
    also of_check of_directory w.refusal.number refl (check_numbers t space w.refusal (check_refused c t space w e))
then_named t space w (Err v) h e = also of_load of_directory w.refusal.number refl (h w e)

pub directory_numbers : (z : Sizes) (d : Directory) (lengths : List ℕ) (space : ℕ) (w : Named) → outcome_of z d lengths space ≡ Err w
    → Among of_directory w.refusal.number
unfolding outcome_of
directory_numbers z d lengths space w e = then_named (tile_said (files_read d)) space w (loaded_of z d lengths)
    (directory-load_numbers z d lengths) e
