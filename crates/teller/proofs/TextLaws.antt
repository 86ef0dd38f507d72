-- The text of a directory: how long its lines are, how it grows line by line, and that the two calls of `directory` give it.
use Rattle.tile.specs.Walk.{Walked}
use Rattle.tile.specs.Check.{Verdict}
use mathlib.Core.Path.{◌≡◌, refl, sym, ap, ◌∙◌}
use mathlib.Core.Bool.{Bool, true, false, cond, ◌||◌}
use mathlib.Core.List.{List, ◌++◌, append_assoc}
use Prim.Native.Nat.{ℕ, zero, suc, ◌+◌, ◌-◌, ◌*◌, ◌≤◌}
use native.Mathlib.Nat.{min-eq_left}
use native.Mathlib.Numerals.{add-one}
use native.Mathlib.Omega.{arith}
use borrow.Author.Tests.{ltb-false, le-ltb}
use lib.ListN.{length, take, drop, replicate, length-replicate, length-append, length-take, length-drop}
use lib.Seq.{sets, length-sets, get_or-take, take_all, drop-drop}
use Rattle.laws.specs.Lowest.{In}
use Rattle.laws.specs.Orbit.{entry}
use Rattle.laws.specs.Serving.Pieces.{Begun}
use Rattle.laws.proofs.LentLaws.{stored_run, lent_from}
use Rattle.laws.proofs.PieceLaws.{sets_append, begun_more, begun_front}
use Rattle.laws.proofs.TestLaws.{clash}
use Rattle.tile.specs.Columns.{Tile}
use Rattle.tile.specs.Check.{verdict_of}
use Rattle.tile.specs.Walk.{walk_of, steps_of, all_steps}
use Rattle.facts.proofs.AcceptedExactly.{accepted}
use Rattle.load.specs.declared.Counts.{Counts}
use Rattle.std.proofs.Common.{Some, None, Ok, Err}
use Rattle.report.specs.declared.FileName.TheVariants.{Edg, Fac, Rng, Cnd}
use Rattle.directory.specs.declared.Sizes.{Sizes}
use Rattle.limits.specs.Limits.{program_rows, program_sides}
use Rattle.report.specs.Lines.{line_room, refuse_line, accept_line, ring_line, steps_line, with_front, told, bytes_told}
use Rattle.report.proofs.LineFits.{accept_fits, ring_short, steps_fits}
use Rattle.directory.specs.declared.Named.{Named}
use Rattle.load.specs.Columns.{Columns, columns, lengths}
use Rattle.directory.specs.Columns.{held, short, edges_short, short_of}
use Rattle.directory.specs.Files.{Directory, AtFault, files_read}
use Rattle.directory.specs.Outcome.{Outcome, unless_at_fault, tile_said, loaded_of, columns_after, checked_from, checked_as, checked_of, outcome_of}
use Rattle.directory.proofs.OutcomeLaws.{held_said, loaded_checked}
use Rattle.directory.proofs.StepLaws.{steps_within}
use Rattle.teller.specs.Text.{text_space, steps_from, ring_lines, accepted_text, text_as, loaded_text, text_of}

-- ---- what an accepted check says of the columns

none_short : (a b c d e : Bool) → cond a (Some Edg)
    (cond b (Some Fac) (cond (c || d) (Some Rng) (cond e (Some Cnd) None))) ≡ None → (b ≡ false) × (c ≡ false)
none_short true b c d e q = clash (cc)
none_short false true c d e q = clash (cc)
none_short false false true d e q = clash (cc)
none_short false false false d e q = (refl, refl)

-- the counts that a check answers with are those that it was handed
same : (c k : Counts) (t : Tile) (x : AtFault) (v : Verdict) → unless_at_fault x (checked_from c t v) ≡ Ok k
    → unless_at_fault x (checked_from c t v) ≡ Ok c
same c k t (Some n) v q = clash (cc)
same c k t None (Ok tt) q = refl
same c k t None (Err r) q = clash (cc)

module _ (c : Counts) (l : Columns) (e : checked_of c l program_sides ≡ Ok c) where
  stages : (x : AtFault) → short_of c l ≡ x → (v : Verdict) → verdict_of (held c l) program_sides ≡ v
      → unless_at_fault x (checked_from c (held c l) v) ≡ Ok c
      → (short_of c l ≡ None) × (verdict_of (held c l) program_sides ≡ (Ok tt))
  stages (Some n) s v g q = clash (cc)
  stages None s (Ok tt) g q = (s, g)
  stages None s (Err r) g q = clash (cc)

  checked : (short_of c l ≡ None) × (verdict_of (held c l) program_sides ≡ (Ok tt))
  unfolding checked_of checked_as
  checked = stages (short_of c l) refl (verdict_of (held c l) program_sides) refl e

  pub columns_long : (c.faces ≤ length l.ring_ptr) × (c.rings ≤ length l.fac_id)
  unfolding short_of
  columns_long =
      let w = none_short (edges_short c l) (short c.faces l.ring_ptr) (short c.rings l.fac_id) (short c.rings l.start_edge)
      (short c.nodes l.first_edge) checked.0 in
      (ltb-false _ _ w.0, ltb-false _ _ w.1)

  -- a ring row's face is a face row
  pub ring_faces_few : (r : ℕ) → In c.rings r → entry (held c l).fac_id r ≤ c.faces
  ring_faces_few r i =
      let w = (accepted (held c l) program_sides checked.1).ring_faces r in
      let a : length (take c.rings l.fac_id) ≡ c.rings = length-take c.rings l.fac_id ∙ min-eq_left columns_long.1 in
      let b : length (take c.faces l.ring_ptr) ≡ c.faces = length-take c.faces l.ring_ptr ∙ min-eq_left columns_long.0 in
      omega (arith, (w (i.0, omega (arith, a, i.1))).1, b)

  -- and the column that the front is taken of has it too
  pub ring_face : (r : ℕ) → In c.rings r → entry l.fac_id r ≡ entry (held c l).fac_id r
  ring_face zero i = absurd (omega (arith, i.0))
  ring_face (suc r) i = sym (get_or-take c.rings l.fac_id r 0 (omega (arith, i.1)))

-- ---- a line told into the part of the text from a place on
module _ (line d : List ℕ) (at : ℕ) (fits : length line ≤ line_room) (room : at + line_room ≤ length d) where
  enough : line_room ≤ length (drop at d)
  enough = rw (length-drop at d) (omega arith)

  lent : take (length d - at) (drop at d) ≡ drop at d
  lent = take_all (length d - at) (drop at d) (rw (length-drop at d) (omega arith))

  pub told_bytes : (n : ℕ) → n ≡ bytes_told line (take (length d - at) (drop at d)) → n ≡ length line
  told_bytes n e = e ∙ rw (lent, le-ltb (length (drop at d)) line_room enough) refl

  pub told_part : (e : List ℕ) → e ≡ told line (take (length d - at) (drop at d))
      → take at d ++ (e ++ drop (length d - at) (drop at d)) ≡ sets d at line
  told_part e h =
      lent_from (told line) at d e h
      ∙ rw (le-ltb (length (drop at d)) line_room enough)
      (ap (λ (l : List ℕ). take at d ++ (line ++ l)) (drop-drop (length line) at d) ∙ sym (stored_run line d at (omega arith)))

-- ---- the text line by line
module _ (t : Tile) where
  -- with faces of at most four digits
  pub lines_short : (n : ℕ) → n ≤ program_rows → ((r : ℕ) → In n r → entry t.fac_id r ≤ program_rows) → length (ring_lines t n) ≤ 31 * n
  lines_short zero h few = omega arith
  lines_short (suc n) h few =
      let f = few (suc n) (omega arith, omega arith) in
      let s = steps_within t (suc n) program_sides in
      simp length-append
      (omega (
        arith,
        lines_short n (omega arith) (λ r i. few r (i.0, omega (arith, i.1))),
        ring_short (suc n) (entry t.fac_id (suc n)) (steps_from t (suc n)) (omega arith) (omega (arith, f)) (omega (arith, s)),
      ))

  -- a turn of the loop over the ring rows
  pub ring_added : (d e e' : List ℕ) (start at at' i row face steps space : ℕ) (w : Walked) → row ≡ i + 1
      → face ≡ entry t.fac_id row → w ≡ walk_of t row space
      → space ≡ program_sides → steps ≡ steps_of w → at ≡ start + length (ring_lines t i)
      → e ≡ sets d start (ring_lines t i) → at' ≡ at + length (ring_line row face steps)
      → e' ≡ sets e at (ring_line row face steps) → (at' ≡ start + length (ring_lines t row)) × (e' ≡ sets d start (ring_lines t row))
  ring_added d e e' start at at' i row face steps space w a b c g h j k m n =
      let q : row ≡ suc i = a ∙ add-one i in
      let line : ring_line row face steps ≡ ring_line (suc i) (entry t.fac_id (suc i)) (steps_from t (suc i)) = rw (h, c, g, b, q) refl in
      let lines : ring_lines t row ≡ ring_lines t i ++ ring_line row face steps = rw (line, q) refl in (
        rw lines (simp length-append (omega (arith, j, m))),
        n ∙ ap (λ (x : List ℕ). sets x at (ring_line row face steps)) k
            ∙ ap (λ (x : ℕ). sets (sets d start (ring_lines t i)) x (ring_line row face steps)) j
            ∙ sym (sets_append (ring_lines t i) (ring_line row face steps) d start) ∙ ap (sets d start) (sym lines),
      )

module _ (c : Counts) (l : Columns) (e : checked_of c l program_sides ≡ Ok c) (few : c.faces ≤ program_rows)
    (fewer : c.rings ≤ program_rows) where
  abbrev t : Tile
  t = held c l

  rings_short : (n : ℕ) → n ≤ c.rings → length (ring_lines t n) ≤ 31 * n
  rings_short n h =
      lines_short t n (omega arith) (λ r i. omega (arith, ring_faces_few c l e r (i.0, omega (arith, i.1))))

  -- there is room for a line more
  pub room_left : (n start at : ℕ) → n ≤ c.rings → start ≤ line_room → at ≡ start + length (ring_lines t n) → at + line_room ≤ text_space
  room_left n start at h a b = omega (arith, rings_short n h)

  text_short : length (accepted_text c t) ≤ text_space
  unfolding accepted_text
  text_short =
      simp length-append
      (omega (arith, rings_short c.rings (omega arith), accept_fits c, steps_fits (all_steps t program_sides c.rings)))

  -- the first line, those of the rings and the last one are the text
  pub text_whole : (d d₁ d₂ d₃ : List ℕ) (at₁ at₂ at₃ all : ℕ) → text_space ≤ length d → at₁ ≡ length (accept_line c)
      → d₁ ≡ with_front (accept_line c) d
      → at₂ ≡ at₁ + length (ring_lines t c.rings) → d₂ ≡ sets d₁ at₁ (ring_lines t c.rings)
      → at₃ ≡ at₂ + length (steps_line all) → d₃ ≡ sets d₂ at₂ (steps_line all)
      → all ≡ all_steps t program_sides c.rings → (at₃ ≡ length (accepted_text c t)) × (d₃ ≡ with_front (accepted_text c t) d)
  unfolding accepted_text
  text_whole d d₁ d₂ d₃ at₁ at₂ at₃ all room a b g h i j q =
      let zero_on : 0 + length (accept_line c) ≡ length (accept_line c) = omega arith in
      let first : Begun d (accept_line c) at₁ d₁ = record {
        place = a;
        holds = b ∙ sym (stored_run (accept_line c) d 0 (omega (arith, accept_fits c)) ∙ ap (λ (k : ℕ). accept_line c ++ drop k d) zero_on);
      } in
      let rings = begun_more (ring_lines t c.rings) first g h in
      let whole = begun_more (steps_line all) rings i j in
      let same : (accept_line c ++ ring_lines t c.rings) ++ steps_line all ≡ accepted_text c t = rw q
      (append_assoc (accept_line c) (ring_lines t c.rings) _) in
      let w : Begun d (accepted_text c t) at₃ d₃ = rw same at whole in
      (w.place, begun_front w (omega (arith, text_short)))

-- ---- the one call after the other gives the text

-- an accepted load, and what is told of the tile in its columns
pub told_loaded : (z : Sizes) (d : Directory) (l l' : Columns) (c : Counts) → lengths l ≡ replicate 10 program_rows
    → loaded_of z d (lengths l) ≡ Ok c
    → l' ≡ columns_after (Ok c) (files_read d) l → loaded_text c l' ≡ text_of z d
unfolding loaded_text text_of
told_loaded z d l l' c n e p =
    ap (λ (x : Columns). text_as (checked_of c x program_sides) (held c x)) p
    ∙ ap (λ (o : Outcome). text_as o (held c (columns_after (Ok c) (files_read d) l))) (loaded_checked z d (lengths l) c e l program_sides)
    ∙ ap (text_as (outcome_of z d (lengths l) program_sides)) (held_said z d (lengths l) c e l)
    ∙ ap (λ (x : List ℕ). text_as (outcome_of z d x program_sides) (tile_said (files_read d))) n

-- a refused one
pub told_refused : (z : Sizes) (d : Directory) (l : Columns) (w : Named) → lengths l ≡ replicate 10 program_rows
    → loaded_of z d (lengths l) ≡ Err w
    → refuse_line w.file w.refusal ≡ text_of z d
unfolding text_of outcome_of
told_refused z d l w n e =
    let q : loaded_of z d (replicate 10 program_rows) ≡ Err w = ap (loaded_of z d) (sym n) ∙ e in
    rw q refl

-- a checked one
pub told_checked : (c k : Counts) (l : Columns) (o : Outcome) → o ≡ checked_of c l program_sides → o ≡ Ok k
    → checked_of c l program_sides ≡ Ok c
unfolding checked_of checked_as
told_checked c k l o a b = same c k (held c l) (short_of c l) (verdict_of (held c l) program_sides) (sym a ∙ b)

-- ---- the first line, of a text with room for it
module _ (c : Counts) (d : List ℕ) (room : text_space ≤ length d) where
  pub accept_bytes : (n : ℕ) → n ≡ bytes_told (accept_line c) d → n ≡ length (accept_line c)
  accept_bytes n e = e ∙ rw (le-ltb (length d) line_room (omega arith)) refl

  pub accept_told : (e : List ℕ) → e ≡ told (accept_line c) d → e ≡ with_front (accept_line c) d
  accept_told e h = h ∙ rw (le-ltb (length d) line_room (omega arith)) refl

  -- and the text stays as long as it was
  pub same_room : (d₁ e lines : List ℕ) (at : ℕ) → d₁ ≡ told (accept_line c) d → e ≡ sets d₁ at lines → length e ≡ length d
  same_room d₁ e lines at p q =
      ap length q ∙ length-sets d₁ at lines ∙ ap length (accept_told d₁ p) ∙ simp (length-append, length-drop) (omega (arith, accept_fits c))

-- ---- what a loaded tile is told as
module _ (c : Counts) (l : Columns) (d : List ℕ) where
  pub checked_lines : checked_of c l program_sides ≡ Ok c → (n : ℕ) (d' : List ℕ)
      → n ≡ length (accepted_text c (held c l)) → d' ≡ with_front (accepted_text c (held c l)) d
      → (n ≡ length (loaded_text c l)) × (d' ≡ with_front (loaded_text c l) d)
  unfolding loaded_text
  checked_lines e n d' a b = rw e (a, b)

  pub checked_refusal : text_space ≤ length d → (w : Named) → checked_of c l program_sides ≡ Err w → (n : ℕ) (d' : List ℕ)
      → n ≡ bytes_told (refuse_line w.file w.refusal) d → d' ≡ told (refuse_line w.file w.refusal) d
      → (n ≡ length (loaded_text c l)) × (d' ≡ with_front (loaded_text c l) d)
  unfolding loaded_text
  checked_refusal room w e n d' a b = let k = le-ltb (length d) line_room (omega arith) in rw e (a ∙ rw k refl, b ∙ rw k refl)

-- ---- the program's own columns, and what a directory is told as
abbrev pub blank : List ℕ
blank = replicate program_rows 0

abbrev pub blanks : Columns
blanks = columns blank blank blank blank blank blank blank blank blank blank

blank-lengths : lengths blanks ≡ replicate 10 program_rows
blank-lengths = let a : length blank ≡ program_rows = length-replicate {A = ℕ} program_rows 0 in rw a refl

module _ (z : Sizes) (d : Directory) where
  pub directory_lines : (c : Counts) (l : Columns) → loaded_of z d (lengths blanks) ≡ Ok c → (o : Outcome)
      → o ≡ Ok c → l ≡ columns_after o (files_read d) blanks
      → (x : List ℕ) (n : ℕ) (x' : List ℕ) → n ≡ length (loaded_text c l) → x' ≡ with_front (loaded_text c l) x
      → (n ≡ length (text_of z d)) × (x' ≡ with_front (text_of z d) x)
  directory_lines c l e o p q x n x' a b =
      let t : loaded_text c l ≡ text_of z d = told_loaded z d blanks l c blank-lengths e
      (q ∙ ap (λ (o : Outcome). columns_after o (files_read d) blanks) p) in
      (a ∙ ap length t, b ∙ ap (λ (y : List ℕ). with_front y x) t)

  pub directory-refusal : (w : Named) → loaded_of z d (lengths blanks) ≡ Err w → (x : List ℕ) → length x ≡ text_space → (n : ℕ) (x' : List ℕ)
      → n ≡ bytes_told (refuse_line w.file w.refusal) x → x' ≡ told (refuse_line w.file w.refusal) x
      → (n ≡ length (text_of z d)) × (x' ≡ with_front (text_of z d) x)
  directory-refusal w e x r n x' a b =
      let k = le-ltb (length x) line_room (omega arith) in
      let t = told_refused z d blanks w blank-lengths e in
      (a ∙ rw k (ap length t), b ∙ rw k (ap (λ (y : List ℕ). with_front y x) t))

  -- the same of columns that hold what was loaded
  pub own_lines : (c : Counts) (l m : Columns) → loaded_of z d (lengths blanks) ≡ Ok c → (o : Outcome)
      → o ≡ Ok c → m ≡ columns_after o (files_read d) blanks → (x : List ℕ) (n : ℕ) (x' : List ℕ)
      → n ≡ length (loaded_text c l) → x' ≡ with_front (loaded_text c l) x → l ≡ m
      → (n ≡ length (text_of z d)) × (x' ≡ with_front (text_of z d) x)
  own_lines c l m e o p q x n x' u v w = directory_lines c l e o p (w ∙ q) x n x' u v
