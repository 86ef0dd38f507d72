-- Every operation refuses with a number that document 01's table names for it.
--
-- The plan. Each operation has its list of numbers (`of_wave` to `of_walk`, in specs/Numbers.antt). To be in a list is a test that computes:
-- `one_of` puts a number into a list, `also` carries it into a list that has all of the first, and `refl` answers both tests. Two ways lead
-- there. Where a theorem says exactly when an operation refuses, the number is read off the test that failed, one line for each:
-- `written-named`, `header_named`, `opening-named`, `load-named`, `check_named`. Where the definition chooses between answers, the property
-- goes through its branches: `either`, `if_refused` and `either_first` for the judgement of a row (`row_listed`); `either_answer`,
-- `with_number` and `unless_listed` for whatever answers with a Result (`Refuses`): a step, a row, a value (`value_numbers`, by the cases of
-- the field type) and a walk (`walk_numbers`), in which a move that cannot be made has 22 to 25, by induction on the moves left
-- (`stuck-named`). A directory's load has 15 by size or the number of its load (`load-named_by`).
use mathlib.Core.Path.{◌≡◌, refl, sym, ap, subst, ◌∙◌}
use mathlib.Core.Logic.{inl, inr, ⊎_elim}
use mathlib.Core.Bool.{Bool, true, false, cond, not}
use mathlib.Core.List.{List, [], ◌∷◌}
use Prim.Native.Nat.{ℕ, zero, suc, pred, ◌-◌}
use Rattle.std.specs.Prelude.{Some, None, Result, Ok, Err}
use borrow.Author.Tests.{eqb-false}
use lib.Dec.{eqb, ltb}
use lib.ListN.{take, drop}
use Rattle.laws.specs.Lowest.{lowest}
use Rattle.laws.proofs.LowestLaws.{bool_cases}
use Rattle.laws.proofs.TestLaws.{clash}
use Rattle.refusal.specs.declared.Kind.{Kind}
use Rattle.refusal.specs.declared.Refusal.{Refusal}
use Rattle.refusal.specs.Kinds.{number_of}
use Rattle.refusal.specs.Order.{refusal, fine, unless, refused_if, first, refuses, at_row, lowest_of}
use Rattle.number.specs.declared.Order.{Order}
use Rattle.wave.specs.Height.{height_of}
use Rattle.wave.specs.Judgement.{judgement_of}
use Rattle.wave.proofs.Exact as wave
use Rattle.wave.proofs.Verdict as judged
use Rattle.triplet.specs.declared.Ids.{Ids}
use Rattle.triplet.specs.Triplet.{Reading, triplet_of}
use Rattle.triplet.specs.Written.{written_of}
use Rattle.triplet.specs.Words.{NotWritten, large_part, place_beyond, no_room}
use Rattle.triplet.proofs.ReadExactly as triplet
use Rattle.triplet.proofs.WrittenExactly.{not_written_exactly}
use Rattle.field.specs.declared.FieldType.{FieldType}
use Rattle.field.specs.declared.FieldType.TheVariants as type
use Rattle.header.specs.declared.ColumnLayout.{ColumnLayout}
use Rattle.header.specs.declared.Layout.{Layout}
use Rattle.header.specs.Layouts.{header_of}
use Rattle.header.specs.Places.{definition, place_after}
use Rattle.header.specs.Judge.{head_of, column_count, header_refusal}
use Rattle.header.specs.Steps.{starts_at, step_from, step_of}
use Rattle.header.specs.Refusals as header
use Rattle.header.proofs.RefusedExactly as header_proofs
use Rattle.opening.specs.declared.Table.{Table}
use Rattle.table.specs.declared.Unreached.TheVariants.{Short, BadTriplet}
use Rattle.opening.specs.Opening.{needs_index, opened_of}
use Rattle.table.specs.Rows.{column_at, columns_of, no_such_row, no_such_column, outside, bound_of, Reach, reach, id_at, id_refusal, used_up}
use Rattle.table.specs.Rows.{column_place, fields_refusal, place_refusal, row_refusal, row_judged, rows_of, rows_refusal, Row, row_of}
use Rattle.table.specs.Values.{ValueRead, triplet_of_read, by_type, shown, in_row, field_in, value_of}
use Rattle.opening.specs.Words as opening_words
use Rattle.table.specs.Words as table
use Rattle.opening.proofs.OpenedExactly as opening
use Rattle.bounds.specs.Bounds.{Coordinates, bounds_of}
use Rattle.bounds.proofs.BoundsExactly as bounds
use Rattle.rectangle.specs.Rectangles.{rectangle_of, refused_with}
use Rattle.rectangle.proofs.RectangleExactly as rectangle
use Rattle.side.specs.Edges.{Edges}
use Rattle.side.specs.Edges as side
use Rattle.side.specs.Successor.{Successor, successor, Fault, no_touch, other_face, both_sides}
use Rattle.side.proofs.SuccessorExactly.{Says, says}
use Rattle.tile.specs.Walk.{Moves, came_back, still_open, stuck}
use Rattle.tile.specs.Columns.{Tile, R, start_side}
use Rattle.tile.specs.Check.{sizes_wrong, start_wrong, verdict_of}
use Rattle.tile.specs.Walk.{Walked, stuck_at, on_move, moves_from, moves, walk_of}
use Rattle.tile.specs.Walk as walk
use Rattle.facts.specs.Facts as tile
use Rattle.facts.proofs.RefusedExactly as check
use Rattle.load.specs.declared.Finding.{Finding}
use Rattle.load.specs.Sources.{Files, file_of, index_of}
use Rattle.load.specs.Load.{Loaded, load_of}
use Rattle.load.specs.Words as load
use Rattle.load.proofs.LoadedExactly as load_proofs
use Rattle.directory.specs.declared.Sizes.{Sizes}
use Rattle.limits.specs.Limits.{program_rows}
use Rattle.directory.specs.Files.{AtFault, too_large}
use Rattle.directory.specs.Concerned.{file_of_finding}
use Rattle.directory.specs.declared.Named.{Named}
use Rattle.directory.specs.Files.{Directory, cnx_read, files_read, sizes_taken}
use Rattle.directory.specs.Outcome.{named, loaded_as, unless_at_fault, loaded_of}
use Rattle.reader.specs.declared.Reader.{Reader}
use Rattle.reader.specs.Moves.{gives}
use Rattle.demands.specs.Numbers.{Among, NoneOrAmong, of_wave, of_triplet, of_writing, of_header, of_step, of_opening, of_row}
use Rattle.demands.specs.Numbers.{of_value, of_bounds, of_rectangle, of_load, of_successor, of_check, of_walk}
use Rattle.demands.proofs.NumberLists.{has, one_of, has_all, also, none_zero}

-- a refusal that is none, or has one of these numbers
abbrev Listed : List ℕ → Refusal → Type 0
Listed l q = NoneOrAmong l q.number

module _ (l : List ℕ) where
  either : (b : Bool) (q r : Refusal) → Listed l q → Listed l r → Listed l (cond b q r)
  either true q r u v = u
  either false q r u v = v

  if_refused : (b : Bool) (n p : ℕ) → has l n ≡ true → Listed l (refused_if b n p)
  if_refused b n p t = either b (refusal n p) fine (inr (one_of l n n refl t)) (inl refl)

  either_first : (a b : Refusal) → Listed l a → Listed l b → Listed l (first a b)
  unfolding first
  either_first a b u v = either (eqb a.number 0) b a v u

-- an answer that has one of these numbers where it refuses
abbrev pub Refuses : {T : Type 0} → List ℕ → Result T Refusal → Type 0
Refuses l x = (q : Refusal) → x ≡ Err q → Among l q.number

module _ {T : Type 0} (l : List ℕ) where
  either_answer : (b : Bool) (x y : Result T Refusal) → Refuses l x → Refuses l y → Refuses l (cond b x y)
  either_answer true x y u v = u
  either_answer false x y u v = v

  no_refusal : (x : T) → Refuses l (Ok x)
  no_refusal x q e = clash (cc)

  with_number : (n p : ℕ) → has l n ≡ true → Refuses {T = T} l (Err (refusal n p))
  with_number n p h q e = let v : refusal n p ≡ q = cc in one_of l q.number n (sym (ap (λ (r : Refusal). r.number) v)) h

  -- x, unless r refuses
  pub unless_listed : (r : Refusal) (x : T) → Listed l r → Refuses l (unless r x)
  unless_listed r x h q e =
      bool_cases (eqb r.number 0)
      (λ c. let u = rw c at e in clash (cc))
      (λ c.
      let u = rw c at e in
      let v : r ≡ q = cc in
      subst (λ (p : Refusal). Among l p.number) v (⊎_elim (λ z. absurd (eqb-false r.number 0 c z)) (λ w. w) h))

-- ---- wave heights, triplets

pub wave_numbers : (text : List ℕ) (q : Refusal) → height_of text ≡ Err q → Among of_wave q.number
wave_numbers text q e = inl ((wave.refused-exactly text q).0 e).0

pub judgement_numbers : (measured limit : List ℕ) (q : Refusal) → judgement_of measured limit ≡ Err q → Among of_wave q.number
judgement_numbers measured limit q e =
    ⊎_elim (wave_numbers limit q) (λ w. wave_numbers measured q w.2) ((judged.refused-exactly measured limit q).0 e)

pub triplet_numbers : (o : Order) (s : List ℕ) (q : Refusal) → triplet_of o s ≡ Err q → Among of_triplet q.number
triplet_numbers o s q e = inl (ap (λ (r : Refusal). r.number) ((triplet.refused-exactly o s q).0 e).0)

written-named : (len at : ℕ) (t : Ids) (n p : ℕ) → NotWritten len at t n p → Among of_writing n
written-named len at t n p (large_part w) = one_of of_writing 11 11 refl refl
written-named len at t n p (place_beyond s h) = one_of of_writing 13 13 refl refl
written-named len at t n p (no_room s a h) = one_of of_writing 14 14 refl refl

pub write_numbers : (len at : ℕ) (t : Ids) (q : Refusal) → written_of len at t ≡ Err q → Among of_writing q.number
write_numbers len at t q e = written-named len at t q.number q.place ((not_written_exactly len at t q.number q.place).0 e)

-- ---- headers, tables

header_named : (file : List ℕ) (x : header.Test) (n p : ℕ) → header.FailsAt file x n p → Among of_header n
header_named file header.five_bytes n p w = one_of of_header n 1 w.0 refl
header_named file header.order_letter n p w = one_of of_header n 2 w.0 refl
header_named file header.text_fits n p w = one_of of_header n 1 w.0 refl
header_named file header.text_limit n p w = one_of of_header n 15 w.0 refl
header_named file header.in_grammar n p w = one_of of_header n 3 w.0 refl
header_named file header.columns_sound n p w = one_of of_header n 4 w.0 refl
header_named file header.columns_limit n p w = one_of of_header n 5 w.0 refl
header_named file header.names_differ n p w = one_of of_header n 5 w.0 refl
header_named file header.one_id n p w = one_of of_header n 6 w.0 refl

pub header_numbers : (file : List ℕ) (q : Refusal) → header_of file ≡ Err q → Among of_header q.number
header_numbers file q e =
    let w = (header_proofs.answer_refused_exactly file q.number q.place).0 e in
    header_named file w.test q.number q.place w.fails

-- a step: the header's own, or 13 at a place where no definition starts
from_named : (s : List ℕ) (n place k : ℕ) → Refuses of_step (step_from s n place k)
from_named s n place zero =
    either_answer of_step (eqb place (place_after s n)) _ _ (no_refusal of_step None) (with_number of_step 13 place refl)
from_named s n place (suc k) = no_refusal of_step (Some (definition s place))

pub step_numbers : (file : List ℕ) (place : ℕ) → Refuses of_step (step_of file place)
unfolding step_of
step_numbers file place q e =
    let r = header_refusal file in
    bool_cases (eqb r.number 0)
    (λ c. from_named (head_of file) (column_count file) place (starts_at (head_of file) (column_count file) place) q (rw c at e))
    (λ c.
    let u = rw c at e in
    let v : r ≡ q = cc in
    let w = (header_proofs.refused-exactly file q.number q.place).0
    (v, λ z. eqb-false r.number 0 c (ap (λ (x : Refusal). x.number) v ∙ z)) in
    inr (header_named file w.test q.number q.place w.fails))

pub reader_numbers : (r : Reader) (q : Refusal) → gives r ≡ Err q → Among of_step q.number
reader_numbers r q e = step_numbers r.file.now r.at q e

opening-named : (file index : List ℕ) (most : ℕ) (x : opening_words.Test) (n p : ℕ)
    → opening_words.FailsAt file index most x n p → Among of_opening n
opening-named file index most opening_words.header_accepted n p w = also of_header of_opening n refl (header_named file w.test n p w.fails)
opening-named file index most opening_words.index_there n p w = one_of of_opening n 8 w.0 refl
opening-named file index most opening_words.rows_few n p w = one_of of_opening n 15 w.0 refl
opening-named file index most opening_words.whole_rows n p w = one_of of_opening n 7 w.0 refl
opening-named file index most opening_words.index_head n p w = one_of of_opening n 8 w.0 refl
opening-named file index most opening_words.entries n p w = one_of of_opening n 8 w.0 refl
opening-named file index most opening_words.last_end n p w = one_of of_opening n 8 w.0 refl

pub opening_numbers : (file index : List ℕ) (most : ℕ) (q : Refusal)
    → opened_of file index most ≡ Err q → Among of_opening q.number
opening_numbers file index most q e =
    let w = (opening.answer_refused_exactly file index most q.number q.place).0 e in
    opening-named file index most w.test q.number q.place w.fails

-- ---- rows and values, of any table value

used_up_listed : (x : Reach) (end i : ℕ) (rest : Refusal) → Listed of_row rest → Listed of_row (used_up x end i rest)
used_up_listed (Ok p) end i rest u = either of_row (eqb p end) rest (refusal 10 i) u (inr (one_of of_row 10 10 refl refl))
used_up_listed (Err Short) end i rest u = inr (one_of of_row 10 10 refl refl)
used_up_listed (Err (BadTriplet q)) end i rest u = inr (one_of of_row 11 11 refl refl)

module _ (s : List ℕ) (l : Layout) (start end i : ℕ) where
  id_listed : (p : ℕ) → Listed of_row (id_refusal s l p i)
  id_listed p = if_refused of_row (not (eqb (id_at s l p) i)) 9 i refl

  fields_listed : Listed of_row (fields_refusal s l start end i)
  unfolding fields_refusal
  fields_listed =
      let p = column_place s l start end l.id in
      let x = reach s l start end (columns_of l) in
      either of_row (needs_index l) (used_up x end i (id_refusal s l p i)) (id_refusal s l p i)
      (used_up_listed x end i (id_refusal s l p i) (id_listed p)) (id_listed p)

  place_listed : Listed of_row (place_refusal s l start end i)
  place_listed =
      either of_row (outside s start end) (refusal 10 i) (refused_if (no_such_column l l.id) 9 i)
      (inr (one_of of_row 10 10 refl refl)) (if_refused of_row (no_such_column l l.id) 9 i refl)

  row_listed : Listed of_row (row_refusal s l start end i)
  unfolding row_refusal
  row_listed = either_first of_row (place_refusal s l start end i) (fields_refusal s l start end i) place_listed fields_listed

pub judge_row_numbers : (file : List ℕ) (l : Layout) (start end i : ℕ) → NoneOrAmong of_row (row_refusal file l start end i).number
judge_row_numbers file l start end i = row_listed file l start end i

-- the lowest row that is refused, or none
at_row_listed : (l : List ℕ) (f : ℕ → Refusal) → ((i : ℕ) → Listed l (f i)) → (k : ℕ) → Listed l (at_row f k)
at_row_listed l f h zero = inl refl
at_row_listed l f h (suc k) = h (suc k)

pub judge_rows_numbers : (file index : List ℕ) (t : Table) → NoneOrAmong of_row (rows_refusal file index t).number
unfolding rows_refusal lowest_of
judge_rows_numbers file index t =
    let l = t.layout in
    at_row_listed of_row (row_judged file index l) (λ i. row_listed file l (bound_of l index (pred i)) (bound_of l index i) i)
    (lowest (refuses (row_judged file index l)) (rows_of t))

pub row_numbers : (file index : List ℕ) (t : Table) (i : ℕ) → Refuses of_value (row_of file index t i)
unfolding row_of
row_numbers file index t i =
    let start = bound_of t.layout index (pred i) in
    let end = bound_of t.layout index i in
    let r = row_refusal file t.layout start end i in
    either_answer of_value (no_such_row t i) _ _ (with_number of_value 13 i refl)
    (unless_listed of_value r (record { start = start; end = end })
    (⊎_elim inl (λ h. inr (also of_row of_value r.number refl h)) (row_listed file t.layout start end i)))

triplet_value : (o : Order) (b : List ℕ) (x : Reading) → triplet_of o b ≡ x → Refuses of_value (triplet_of_read x)
triplet_value o b (Ok t) e q u = clash (cc)
triplet_value o b (Err r) e q u =
    let v : r ≡ q = cc in also of_triplet of_value q.number refl
    (subst (λ (r : Refusal). Among of_triplet r.number) v (triplet_numbers o b r e))

-- a field of any type but a triplet's has a value, whatever its bytes are
module _ (o : Order) (s : List ℕ) (c : ColumnLayout) (p end : ℕ) where
  type_value : (x : FieldType) → Refuses of_value (by_type x o s c p end)
  type_value type.Text q e = clash (cc)
  type_value type.Latin q e = clash (cc)
  type_value type.Float q e = clash (cc)
  type_value type.Double q e = clash (cc)
  type_value type.Short q e = clash (cc)
  type_value type.Integer q e = clash (cc)
  type_value type.ShortPair q e = clash (cc)
  type_value type.ShortTriple q e = clash (cc)
  type_value type.DoublePair q e = clash (cc)
  type_value type.DoubleTriple q e = clash (cc)
  type_value type.Date q e = clash (cc)
  type_value type.NullField q e = clash (cc)
  type_value type.Triplet q e = triplet_value o (take (end - p) (drop p s)) (triplet_of o (take (end - p) (drop p s))) refl q e

  shown-value : Refuses of_value (shown o s c p end)
  unfolding shown
  shown-value = type_value c.kind

in_row-value : (x : Row) (f : ℕ → ℕ → ValueRead) → Refuses of_value x → ((a b : ℕ) → Refuses of_value (f a b)) → Refuses of_value (in_row x f)
in_row-value (Ok lies) f h g = g lies.start lies.end
in_row-value (Err r) f h g = λ q e. let v : r ≡ q = cc in h q (ap Err v)

pub value_numbers : (file index : List ℕ) (t : Table) (i k : ℕ) → Refuses of_value (value_of file index t i k)
unfolding value_of
value_numbers file index t i k =
    let l = t.layout in
    either_answer of_value (no_such_row t i) _ _ (with_number of_value 13 i refl)
    (either_answer of_value (no_such_column l k) _ _ (with_number of_value 13 k refl)
    (in_row-value (row_of file index t i) (field_in file l k) (row_numbers file index t i)
    (λ a b. shown-value l.order file (column_at l k) (column_place file l a b k) b)))

pub bounds_numbers : (c : Coordinates) (q : Refusal) → bounds_of c ≡ Err q → Among of_bounds q.number
bounds_numbers c q e = inl (bounds.refused-number c q e)

pub rectangle_numbers : (file index : List ℕ) (t : Table) (i k : ℕ) (q : Refusal)
    → rectangle_of file index t i k ≡ refused_with q → Among of_rectangle q.number
rectangle_numbers file index t i k q e =
    ⊎_elim (λ w. one_of of_rectangle q.number 13 w.1 refl)
    (⊎_elim (λ w. one_of of_rectangle q.number 13 w.2 refl)
    (⊎_elim (λ w. inr (row_numbers file index t i q w.refused)) (λ w. inl w.number_12)))
    ((rectangle.refused-exactly file index t i k q.number q.place).0 e)

-- ---- loading

row_named : (s : List ℕ) (l : Layout) (start end i n p : ℕ) → table.RowRefused s l start end i n p → Among of_load n
row_named s l start end i n p =
    ⊎_elim (λ w. one_of of_load n 10 w.number_10 refl)
    (⊎_elim (λ w. one_of of_load n 11 w.number_11 refl)
    (⊎_elim (λ w. one_of of_load n 10 w.number_10 refl) (λ w. one_of of_load n 9 w.number_9 refl)))

module _ (f : Files) (most : ℕ) (lengths : List ℕ) (q : Finding) where
  found_number : (r : Finding) → r ≡ q → q.refusal.number ≡ r.refusal.number
  found_number r e = sym (ap (λ (x : Finding). x.refusal.number) e)

  load-named : (x : load.Test) → load.FailsWith f most lengths x q → Among of_load q.refusal.number
  load-named (load.opened n) w =
      also of_opening of_load q.refusal.number refl
      (opening-named (file_of f n) (index_of f n) most w.1.test q.refusal.number q.refusal.place w.1.fails)
  load-named load.columns_there w = one_of of_load q.refusal.number 17 (found_number _ w.2) refl
  load-named load.faces_some w = one_of of_load q.refusal.number 15 (found_number _ w.1) refl
  load-named load.rings_some w = one_of of_load q.refusal.number 15 (found_number _ w.1) refl
  load-named load.room_enough w = one_of of_load q.refusal.number 14 (found_number _ w.2) refl
  load-named (load.rows_right n) w =
      row_named (file_of f n) (load.layout_in f n) (load.row_start f n w.0) (load.row_end f n w.0) w.0
      q.refusal.number q.refusal.place w.3

  pub load_numbers : load_of f most lengths ≡ Err q → Among of_load q.refusal.number
  load_numbers e = let w = (load_proofs.refused-exactly f most lengths q).0 e in load-named w.test w.fails

-- ---- a tile checked and walked

fault_named : (l : List ℕ) → has_all l (23 ∷ 24 ∷ 25 ∷ []) ≡ true → (t : Edges) (s n : ℕ) → Fault t s n → Among l n
fault_named l h t s n (no_touch none) = also (23 ∷ 24 ∷ 25 ∷ []) l 23 h (one_of (23 ∷ 24 ∷ 25 ∷ []) 23 23 refl refl)
fault_named l h t s n (other_face w a b none) = also (23 ∷ 24 ∷ 25 ∷ []) l 24 h (one_of (23 ∷ 24 ∷ 25 ∷ []) 24 24 refl refl)
fault_named l h t s n (both_sides a b) = also (23 ∷ 24 ∷ 25 ∷ []) l 25 h (one_of (23 ∷ 24 ∷ 25 ∷ []) 25 25 refl refl)

check_named : (t : Tile) (space : ℕ) (x : tile.Test) (n p : ℕ) → tile.FailsAt t space x n p → Among of_check n
check_named t space tile.sizes n p w = one_of of_check n 15 w.0 refl
check_named t space tile.owner_space n p w = one_of of_check n 14 w.0 refl
check_named t space tile.nodes n p w = one_of of_check n 20 w.0 refl
check_named t space tile.faces n p w = one_of of_check n 21 w.0 refl
check_named t space tile.links n p w = one_of of_check n 22 w.0 refl
check_named t space tile.successors n p w = fault_named of_check refl t.edg p n w.0
check_named t space tile.predecessors n p w = one_of of_check n 26 w.0 refl
check_named t space tile.first_edges n p w = one_of of_check n 27 w.0 refl
check_named t space tile.ring_faces n p w = one_of of_check n 28 w.0 refl
check_named t space tile.runs n p w = one_of of_check n 28 w.0 refl
check_named t space tile.starts n p w = one_of of_check n 29 w.0 refl
check_named t space tile.not_named_twice n p w = one_of of_check n 30 w.0 refl
check_named t space tile.covered n p w = one_of of_check n 31 w.0 refl

-- none of them is 0
pub among_some : (n : ℕ) → n ≡ 0 → Among of_check n → ⊥
among_some n z h = none_zero of_check refl n z h

pub check_numbers : (t : Tile) (space : ℕ) (q : Refusal) → verdict_of t space ≡ Err q → Among of_check q.number
check_numbers t space q e =
    let w = check.refused t space q.number q.place e in
    check_named t space w.test q.number q.place w.fails

-- what is wrong at a side
side_named : (l : List ℕ) → has_all l of_successor ≡ true → (t : Edges) (s : ℕ) (k : Kind) → Says t s (Err k) → Among l (number_of k)
side_named l h t s k =
    ⊎_elim (λ w. also of_successor l (number_of k) h (one_of of_successor (number_of k) 22 w.0 refl))
    (λ w. also of_successor l (number_of k) h (fault_named of_successor refl t s (number_of k) w.1))

pub successor_numbers : (t : Edges) (s : ℕ) (k : Kind) → successor t s ≡ Err k → Among of_successor (number_of k)
successor_numbers t s k e = side_named of_successor refl t s k (subst (Says t s) e (says t s))

-- a move that cannot be made
module _ (t : Edges) (a : ℕ) where
  on_move-named : (s : ℕ) (g : ℕ → Moves) → ((u : ℕ) (q : Refusal) → g u ≡ stuck q → Among of_walk q.number)
      → (x : Successor) → Says t s x → (q : Refusal) → on_move s x g ≡ stuck q → Among of_walk q.number
  on_move-named s g rest (Ok u) h q e = rest u q e
  on_move-named s g rest (Err k) h q e = let v : stuck_at (number_of k) s ≡ q = cc in subst
      (λ (r : Refusal). Among of_walk r.number) v (side_named of_walk refl t s k h)

  stuck-named : (fuel s k : ℕ) (q : Refusal) → moves_from t a fuel s k ≡ stuck q → Among of_walk q.number
  stuck-named zero s k q e = clash (cc)
  stuck-named (suc fuel) s k q e =
      on_move-named s (λ u. cond (eqb u a) (came_back (suc k)) (moves_from t a fuel u (suc k)))
      (λ u q e. bool_cases (eqb u a) (λ c. let w = rw c at e in clash (cc)) (λ c. stuck-named fuel u (suc k) q (rw c at e)))
      (successor t s) (says t s) q e

moves_walk : (r space : ℕ) (x : Moves) → ((q : Refusal) → x ≡ stuck q → Among of_walk q.number) → Refuses of_walk (walk.walked r space x)
moves_walk r space (came_back k) h = either_answer of_walk (ltb space k) _ _ (with_number of_walk 14 k refl) (no_refusal of_walk k)
moves_walk r space still_open h = with_number of_walk 32 r refl
moves_walk r space (stuck p) h = λ q e. let v : p ≡ q = cc in h q (ap stuck v)

pub walk_numbers : (t : Tile) (r space : ℕ) → Refuses of_walk (walk_of t r space)
unfolding walk_of moves
walk_numbers t r space =
    either_answer of_walk (sizes_wrong t) _ _ (with_number of_walk 15 0 refl)
    (either_answer of_walk (side.outside (R t) r) _ _ (with_number of_walk 13 r refl)
    (either_answer of_walk (start_wrong t r) _ _ (with_number of_walk 29 r refl)
    (either_answer of_walk (eqb (start_side t r) 0) _ _ (no_refusal of_walk 0)
    (moves_walk r space (moves t.edg (start_side t r)) (stuck-named t.edg (start_side t r) (side.side_count t.edg) (start_side t r) 0)))))

-- ---- a directory loaded

load-named_by : (f : Files) (lengths : List ℕ) (cnx_read : Bool) (w : Named) (x : AtFault) (l : Loaded) → load_of f program_rows lengths ≡ l
    → unless_at_fault x (loaded_as cnx_read l) ≡ Err w → Among of_load w.refusal.number
load-named_by f lengths cnx_read w (Some n) l g e =
    let h : named n (refusal 15 0) ≡ w = cc in one_of of_load w.refusal.number 15 (sym (ap (λ (x : Named). x.refusal.number) h)) refl
load-named_by f lengths cnx_read w None (Ok c) g e = clash (cc)
load-named_by f lengths cnx_read w None (Err q) g e =
    let h : named (file_of_finding cnx_read q) q.refusal ≡ w = cc in
    subst (λ (x : Named). Among of_load x.refusal.number) h (load_numbers f program_rows lengths q g)

pub directory-load_numbers : (z : Sizes) (d : Directory) (lengths : List ℕ) (w : Named) → loaded_of z d lengths ≡ Err w
    → Among of_load w.refusal.number
unfolding loaded_of
directory-load_numbers z d lengths w e =
    load-named_by (files_read d) lengths (cnx_read d) w (too_large (sizes_taken z d) (cnx_read d)) (load_of (files_read d) program_rows lengths) refl e
