-- The cells of rows that are judged, by plain numbers: what each turn of a writing loop stands on.
use mathlib.Core.Path.{◌≡◌, ap, ◌∙◌}
use mathlib.Core.Logic.{by_cases}
use mathlib.Core.Bool.{false}
use mathlib.Core.List.{List}
use Prim.Native.Nat.{ℕ, suc, pred, min, ◌+◌, ◌-◌, ◌≤◌, ◌<◌}
use native.Mathlib.Omega.{arith}
use native.Mathlib.Numerals.{add-one}
use native.Mathlib.Decide.{ℕ_discrete}
use lib.ListN.{length, get_or, set, replicate, length-set}
use borrow.Author.Tests.{eq-eqb, ne_eqb, ltb-false}
use Rattle.laws.specs.Lowest.{None}
use Rattle.laws.specs.Buffer.{front}
use Rattle.laws.proofs.BufferLaws.{front_next, front_low}
use Rattle.refusal.specs.Order.{refuses}
use Rattle.field.specs.Fields.{letter_of}
use Rattle.header.specs.declared.Layout.{Layout}
use Rattle.limits.specs.Limits.{most_columns, most_rows}
use Rattle.table.specs.Rows.{columns_of, no_such_column, column_at, bound_of, column_place, row_refusal, row_judged}
use Rattle.table.specs.declared.rows.Rows.{Rows}
use Rattle.table.specs.Plans.{bound_by, plan_of, rows_by}
use Rattle.table.proofs.RowLaws.{inside, such, column_there}
use Rattle.table.proofs.WalkLaws.{place_within}
use Rattle.table.proofs.PlanLaws.{judged_inside, walked_place, fixed_place, length_after, bound_by_lem}
use Rattle.taken.proofs.LetterLaws.{number_by_lem}
use Rattle.opening.specs.declared.Table.{Table}
use Rattle.load.specs.declared.ColumnsMut.{ColumnsMut}
use Rattle.load.specs.Columns.{columns}
use Rattle.load.specs.Lent.{contents, SameColumns}
use Rattle.load.specs.Sources.{number_at_place}
use Rattle.load.specs.Cells.{cell_in, cell_of, EdgeColumns, SixThere, edges_written}
use Rattle.load.specs.Serving.CellPlans.{offsets_of, origin_of, places_for, letters_of, cell_at, cells_at}

-- the six are columns that a header can have
pub six_there : (l : Layout) (columns : List ℕ) → EdgeColumns l columns → SixThere columns
six_there l columns there k z h = column_there l (number_at_place columns k) (there k z h)

-- the places between two rows: in rows of one width they are the offsets
abbrev pub Ready : Layout → List ℕ → Type 0
Ready l places = (length places ≡ most_columns) × ((l.width ≡ 0 → ⊥) → places ≡ offsets_of l)

pub ready : (l : Layout) (places : List ℕ) → places ≡ offsets_of l → Ready l places
unfolding offsets_of
ready l places e = (ap length e, λ z. e)

-- a column whose first i cells are written
abbrev pub Written : (ℕ → ℕ) → ℕ → List ℕ → List ℕ → Type 0
Written g i old new = (new ≡ front g i old) × (length new ≡ length old)

pub written_next : (g : ℕ → ℕ) (i v : ℕ) (old new next : List ℕ) → Written g i old new → next ≡ set new i v → v ≡ g i → i < length old
    → Written g (i + 1) old next
written_next g i v old new next w p e h = rw p (front_next g i v new old w.0 e h, length-set new i v ∙ w.1)

pub written_all : (g : ℕ → ℕ) (i n : ℕ) (old new : List ℕ) → Written g i old new → i ≡ n → new ≡ front g n old
written_all g i n old new w e = w.0 ∙ ap (λ (k : ℕ). front g k old) e

-- the six columns of edges with their first i cells written, the other four as they were, and all ten the same
abbrev pub EdgesWritten : (ℕ → ℕ → ℕ) → ℕ → ColumnsMut → ColumnsMut → Type 0
EdgesWritten g i old new =
    Written (g 1) i old.start_node.now new.start_node.now × Written (g 2) i old.end_node.now new.end_node.now
    × Written (g 3) i old.right_face.now new.right_face.now × Written (g 4) i old.left_face.now new.left_face.now
    × Written (g 5) i old.right_edge.now new.right_edge.now × Written (g 6) i old.left_edge.now new.left_edge.now
    × (new.ring_ptr.now ≡ old.ring_ptr.now) × (new.fac_id.now ≡ old.fac_id.now) × (new.start_edge.now ≡ old.start_edge.now)
    × (new.first_edge.now ≡ old.first_edge.now) × SameColumns old new

pub edges_all : (file index : List ℕ) (t : Table) (numbers : List ℕ) (i : ℕ) (old new : ColumnsMut)
    → EdgesWritten (λ k. cell_of file index t.layout (number_at_place numbers k)) i old new → i ≡ t.rows
    → contents new ≡ edges_written file index t numbers (contents old)
edges_all file index t numbers i old new w e =
    let g : ℕ → ℕ → ℕ = λ k. cell_of file index t.layout (number_at_place numbers k) in
    λ j. columns (written_all (g 1) i t.rows _ _ w.0 e j) (written_all (g 2) i t.rows _ _ w.1 e j) (written_all (g 3) i t.rows _ _ w.2 e j)
    (written_all (g 4) i t.rows _ _ w.3 e j) (written_all (g 5) i t.rows _ _ w.4 e j) (written_all (g 6) i t.rows _ _ w.5 e j)
    (w.6 j) (w.7 j) (w.8 j) (w.9 j)

-- ---- a turn of a writing loop, over row i + 1: where it ends, the places after it, and each of its cells as they are read
pub record Turn (file index : List ℕ) (l : Layout) (i n end origin : ℕ) (places : List ℕ) : Type 0 where
  pub ends : end ≡ bound_of l index (i + 1)
  pub still : Ready l places
  pub cell : (k : ℕ) → no_such_column l k ≡ false → k ≤ n → (letter v : ℕ) → letter ≡ letter_of (column_at l k).kind
      → v ≡ cell_at l.order file letter k places origin end → v ≡ cell_of file index l k i

-- what a walk by the rows that are taken of the layout once leaves is what one by the layout leaves
pub places_by_layout : (l : Layout) (r : Rows) → r ≡ rows_by l → (file : List ℕ) (n start end : ℕ) (old places : List ℕ)
    → places ≡ places_for r.order file r.plan n r.width start end old → places ≡ places_for l.order file r.plan n l.width start end old
places_by_layout l r e file n start end old places p = p ∙ ap (λ (x : Rows). places_for x.order file r.plan n x.width start end old) e

-- the rows that are taken of the layout once have its plan where they must be walked
pub plan_there : (l : Layout) (r : Rows) → r ≡ rows_by l → l.width ≡ 0 → r.plan ≡ plan_of l
plan_there l r e z = rw (e, eq-eqb l.width 0 z)

module _ (file index : List ℕ) (l : Layout) (rows : ℕ) (judged : None (refuses (row_judged file index l)) rows)
    (few : rows ≤ most_rows) (i start end : ℕ)
    (more : i < rows) (from : start ≡ bound_of l index i) (to : end ≡ bound_by l.order index l.start l.width (min (i + 1) most_rows)) where
  -- where the row ends, and the next starts
  ends_at : end ≡ bound_of l index (i + 1)
  ends_at =
      let q : min (i + 1) most_rows ≡ i + 1 = omega arith in
      to ∙ ap (bound_by l.order index l.start l.width) q ∙ bound_by_lem index l (i + 1)

  abbrev ends : end ≡ bound_of l index (suc i)
  ends = ends_at ∙ ap (bound_of l index) (add-one i)

  row_fine : (row_refusal file l start end (suc i)).number ≡ 0
  row_fine =
      let z = ltb-false 0 (row_judged file index l (suc i)).number (judged.fails (suc i) (omega arith) more) in
      rw (from, ends) (omega arith)

  -- the row is walked or not, and its places are found
  module _ (plan : List ℕ) (planned : l.width ≡ 0 → plan ≡ plan_of l) (n origin : ℕ) (old places : List ℕ) (before : Ready l old)
      (a : origin ≡ origin_of l.width start)
      (b : places ≡ places_for l.order file plan n l.width start end old) where
    stays_ready : Ready l places
    unfolding places_for
    stays_ready =
        by_cases (ℕ_discrete l.width 0)
        (λ z. (b' z ∙ before.0, λ f. absurd (f z)))
        (λ z. let e : places ≡ old = b ∙ rw (ne_eqb l.width 0 z) in (ap length e ∙ before.0, λ f. e ∙ before.1 f))
      where
        b' : l.width ≡ 0 → length places ≡ length old
        b' z = ap length b ∙ rw (eq-eqb l.width 0 z) (length_after l.order file plan start end n old)

    module _ (k : ℕ) (there : no_such_column l k ≡ false) (last : k ≤ n) where
      place_at : min (origin + get_or places (k - 1) 0) end ≡ column_place file l start end k
      unfolding origin_of places_for offsets_of
      place_at =
          let d = such (columns_of l) k there in
          let q : k - 1 ≡ pred k = omega (arith, d.0) in
          let at_k : get_or places (k - 1) 0 ≡ get_or places (pred k) 0 = ap (λ (m : ℕ). get_or places m 0) q in
          by_cases (ℕ_discrete l.width 0)
          (λ z.
          let w = inside file start end (judged_inside file l start end (suc i) row_fine) in
          let o : origin ≡ 0 = a ∙ rw (eq-eqb l.width 0 z) in
          let p : get_or places (pred k) 0 ≡ column_place file l start end k =
          rw (b, eq-eqb l.width 0 z, planned z) (walked_place file l start end (suc i) row_fine z k n old there last before.0) in
          omega (arith, at_k, o, p, place_within file l start end k w.0 w.1))
          (λ z.
          let o : origin ≡ start = a ∙ rw (ne_eqb l.width 0 z) in
          let p : get_or places (pred k) 0 ≡ (column_at l k).offset =
          rw (b, ne_eqb l.width 0 z, before.1 z)
          (front_low (λ k. (column_at l (suc k)).offset) most_columns (replicate most_columns 0) (pred k) (omega (arith, d.0, d.1))) in
          ap (λ (m : ℕ). min (m + get_or places (k - 1) 0) end) o ∙ ap (λ (m : ℕ). min (start + m) end) (at_k ∙ p)
          ∙ fixed_place file l start end (suc i) row_fine z k)

      -- THE CELL that is read is the one of column k in its row
      cell_read : (letter v : ℕ) → letter ≡ letter_of (column_at l k).kind
          → v ≡ cell_at l.order file letter k places origin end → v ≡ cell_of file index l k i
      unfolding cell_of cell_in
      cell_read letter v c e =
          let u : cell_at l.order file letter k places origin end ≡ cell_in file l start end k =
          rw (place_at, c) (number_by_lem l.order file (column_at l k).kind (column_place file l start end k) end) in
          e ∙ u ∙ ap (λ (x : ℕ). cell_in file l x end k) from ∙ ap (λ (x : ℕ). cell_in file l (bound_of l index i) x k) ends

    pub turn : Turn file index l i n end origin places
    turn = record { ends = ends_at; still = stays_ready; cell = cell_read }

-- the six of an edge, by their places
pub cells_read : (file index : List ℕ) (l : Layout) (i n end origin : ℕ) (places columns letters cells : List ℕ)
    → Turn file index l i n end origin places
    → EdgeColumns l columns → l.columns ≤ n → letters ≡ letters_of l columns → cells ≡ cells_at l.order file letters columns places origin end
    → (k : ℕ) → k < 6 → get_or cells k 0 ≡ cell_of file index l (number_at_place columns (suc k)) i
unfolding letters_of cells_at
cells_read file index l i n end origin places columns letters cells t there last c e k one =
    let d = there (suc k) (omega arith) one in
    let h = such (columns_of l) (number_at_place columns (suc k)) d in
    t.cell (get_or columns k 0) d (omega (arith, h.1)) (get_or letters k 0) _
    (rw c (front_low (λ k. letter_of (column_at l (get_or columns k 0)).kind) 6 (replicate 6 0) k one))
    (rw e (front_low (λ k. cell_at l.order file (get_or letters k 0) (get_or columns k 0) places origin end) 6 (replicate 6 0) k one))

-- each of them written in its own column
module _ (g : ℕ → ℕ → ℕ) (i rows : ℕ) (cells : List ℕ) (more : i < rows) (read : (k : ℕ) → k < 6 → get_or cells k 0 ≡ g (suc k) i) where
  pub written_cell : (k : ℕ) → k < 6 → (old new next : List ℕ) → Written (g (suc k)) i old new → next ≡ set new i (get_or cells k 0)
      → rows ≤ length old
      → Written (g (suc k)) (i + 1) old next
  written_cell k one old new next w p h = written_next (g (suc k)) i (get_or cells k 0) old new next w p (read k one) (omega arith)
