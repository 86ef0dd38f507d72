-- A directory's outcome, stage by stage: sizes, load, and the tile that a load leaves at the front of the ten columns.
use Rattle.tile.specs.Check.{Verdict}
use mathlib.Core.Path.{◌≡◌, refl, sym, ap, ◌∙◌}
use mathlib.Core.Bool.{Bool, false, cond}
use mathlib.Core.List.{List, []}
use Prim.Native.Nat.{ℕ}
use native.Mathlib.Omega.{arith}
use borrow.Author.Tests.{le-ltb}
use lib.ListN.{length, take, drop, length-append}
use lib.Seq.{take_at}
use Rattle.laws.specs.Buffer.{listed}
use Rattle.laws.proofs.BufferLaws.{length-listed}
use Rattle.laws.proofs.TestLaws.{clash}
use Rattle.refusal.specs.Order.{refusal}
use Rattle.side.specs.Edges.{edges}
use Rattle.tile.specs.Columns.{Tile, tile}
use Rattle.tile.specs.Check.{verdict_of, marks_after}
use Rattle.load.specs.declared.TableName.{TableName}
use Rattle.load.specs.declared.TableName.TheVariants.{Edg, Fac, Rng, Cnd}
use Rattle.load.specs.declared.Counts.{Counts}
use Rattle.load.specs.Load.{Loaded}
use Rattle.load.proofs.TopLaws.{gives}
use Rattle.load.specs.Sources.{Files, files, table_in, tables_of}
use Rattle.load.specs.Columns.{Columns, columns, lengths}
use Rattle.load.specs.Load.{cells_of, counts, load_of, column_left, columns_left}
use Rattle.load.specs.Words.{count_of}
use Rattle.std.proofs.Common.{Some, None, Ok, Err}
use Rattle.directory.specs.Files.{AtFault}
use Rattle.report.specs.declared.FileName.{FileName}
use Rattle.directory.specs.declared.Sizes.{Sizes}
use Rattle.limits.specs.Limits.{program_rows}
use Rattle.directory.specs.Files.{too_large}
use Rattle.directory.specs.Outcome.{Outcome}
use Rattle.directory.specs.Columns.{held, short, short_of}
use Rattle.directory.specs.Files.{Directory, cnx_read, files_read, sizes_taken}
use Rattle.directory.specs.Outcome.{named, column, tile_said, loaded_as, unless_at_fault, loaded_of, columns_after, checked_as}
use Rattle.directory.specs.Outcome.{checked_from, checked_of, marks_checked, outcome_of}

pub not_some : (x : AtFault) → ((n : FileName) → x ≡ Some n → ⊥) → x ≡ None
not_some (Some n) h = absurd (h n refl)
not_some None h = refl

-- the index of cnd as it is lent
pub files_read_lem : (d : Directory) (x : List ℕ) (k : Bool) → k ≡ cnx_read d → x ≡ cond k d.cnx []
    → files d.edg d.edx d.fac [] d.rng [] d.cnd x ≡ files_read d
unfolding files_read
files_read_lem d x k p q = ap (λ (i : List ℕ). files d.edg d.edx d.fac [] d.rng [] d.cnd i)
    (q ∙ ap (λ (b : Bool). cond b d.cnx []) p)

-- ---- loaded

-- what loading leaves in the columns is what is left with the file named
left_as : (k : Bool) (r : Loaded) (f : Files) (l : Columns) → columns_left r f program_rows l ≡ columns_after (loaded_as k r) f l
left_as k (Ok c) f l = refl
left_as k (Err q) f l = refl

module _ (z : Sizes) (d : Directory) (y : Sizes) (py : y ≡ sizes_taken z d) (k : Bool) (pk : k ≡ cnx_read d) (t : AtFault)
    (pt : t ≡ too_large y k) where
  sized : too_large (sizes_taken z d) (cnx_read d) ≡ t
  sized = sym (pt ∙ ap (λ (x : Sizes). too_large x k) py ∙ ap (too_large (sizes_taken z d)) pk)

  -- a file too large: the columns are as they were
  pub size_refused : (n : FileName) → t ≡ Some n → (l : Columns) (o : Outcome) → o ≡ Err (named n (refusal 15 0))
      → (o ≡ loaded_of z d (lengths l)) × (l ≡ columns_after o (files_read d) l)
  unfolding loaded_of
  size_refused n e l o a = (rw (sized ∙ e) a, ap (λ (x : Outcome). columns_after x (files_read d) l) (sym a))

  -- no file too large: what loading says, and leaves in the columns
  pub load-answered : t ≡ None → (f : Files) → f ≡ files_read d → (l m : Columns) (r : Loaded) → r ≡ load_of f program_rows (lengths l)
      → m ≡ columns_left r f program_rows l → (o : Outcome) → o ≡ loaded_as k r
      → (o ≡ loaded_of z d (lengths l)) × (m ≡ columns_after o (files_read d) l)
  unfolding loaded_of
  load-answered e f pf l m r pr pm o a = (
    rw (sized ∙ e, ap (λ (x : Files). load_of x program_rows (lengths l)) (sym pf) ∙ sym pr) (a ∙ ap (λ (x : Bool). loaded_as x r) pk),
    pm ∙ ap (λ (x : Files). columns_left r x program_rows l) pf ∙ left_as k r (files_read d) l
        ∙ ap (λ (x : Outcome). columns_after x (files_read d) l) (sym a),
  )

-- ---- the columns of a loaded directory hold the tile that its files say

-- ten columns are the tile
tile_is : (f : Files) (a b c d e g h i j k : List ℕ) → a ≡ column f Edg 1 → b ≡ column f Edg 2 → c ≡ column f Edg 3 → d ≡ column f Edg 4
    → e ≡ column f Edg 5 → g ≡ column f Edg 6 → h ≡ column f Fac 7 → i ≡ column f Rng 8 → j ≡ column f Rng 9 → k ≡ column f Cnd 10
    → tile (edges a b c d e g) h i j k ≡ tile_said f
unfolding tile_said
tile_is f a b c d e g h i j k pa pb pc pd pe pg ph pi pj pk = rw (pa, pb, pc, pd, pe, pg, ph, pi, pj, pk) refl

module _ (z : Sizes) (d : Directory) (lengths : List ℕ) (c : Counts) where
  abbrev f : Files
  f = files_read d

  -- what a load that is accepted says of its stages
  accepted_by : (x : AtFault) → too_large (sizes_taken z d) (cnx_read d) ≡ x → (l : Loaded) → load_of f program_rows lengths ≡ l
      → unless_at_fault x (loaded_as (cnx_read d) l) ≡ Ok c
      → (too_large (sizes_taken z d) (cnx_read d) ≡ None) × (load_of f program_rows lengths ≡ Ok c)
  accepted_by (Some n) s l g e = clash (cc)
  accepted_by None s (Ok k) g e = let q : k ≡ c = cc in (s, g ∙ ap Ok q)
  accepted_by None s (Err q) g e = clash (cc)

  module _ (accepted : loaded_of z d lengths ≡ Ok c) where
    pub stages : (too_large (sizes_taken z d) (cnx_read d) ≡ None) × (load_of f program_rows lengths ≡ Ok c)
    unfolding loaded_of
    stages = accepted_by (too_large (sizes_taken z d) (cnx_read d)) refl (load_of f program_rows lengths) refl accepted

    counted : c ≡ counts (tables_of f program_rows)
    unfolding load_of
    counted = sym (gives _ _ _ stages.1)

    count_rows : (n : TableName) → count_of c n ≡ (table_in (tables_of f program_rows) n).rows
    count_rows Edg = ap (λ (x : Counts). x.edges) counted
    count_rows Fac = ap (λ (x : Counts). x.faces) counted
    count_rows Rng = ap (λ (x : Counts). x.rings) counted
    count_rows Cnd = ap (λ (x : Counts). x.nodes) counted

    -- the front of a column as the load leaves it
    front_said : (n : TableName) (i : ℕ) (l : List ℕ) → take (count_of c n) (column_left (Ok c) f program_rows n i l) ≡ column f n i
    front_said n i l =
        let rows = (table_in (tables_of f program_rows) n).rows in
        take_at (listed (cells_of f program_rows n i) rows) (drop rows l) (count_of c n)
        (length-listed (cells_of f program_rows n i) rows ∙ sym (count_rows n))

    -- THE TILE AT THE FRONT of the ten columns is the one that the files say
    pub held_said : (l : Columns) → held c (columns_after (Ok c) f l) ≡ tile_said f
    held_said l =
        tile_is f _ _ _ _ _ _ _ _ _ _ (front_said Edg 1 _) (front_said Edg 2 _) (front_said Edg 3 _)
        (front_said Edg 4 _) (front_said Edg 5 _) (front_said Edg 6 _)
        (front_said Fac 7 _) (front_said Rng 8 _) (front_said Rng 9 _) (front_said Cnd 10 _)

    -- no column is shorter than the counts say
    long_enough : (n : TableName) (i : ℕ) (l : List ℕ) → short (count_of c n) (column_left (Ok c) f program_rows n i l) ≡ false
    long_enough n i l =
        let rows = (table_in (tables_of f program_rows) n).rows in
        let g = cells_of f program_rows n i in
        le-ltb _ (count_of c n) (simp (length-append, length-listed g rows) (omega (arith, count_rows n)))

    pub counts-held : (l : Columns) → short_of c (columns_after (Ok c) f l) ≡ None
    unfolding short_of
    counts-held l =
        rw (
          long_enough Edg 1 l.start_node,
          long_enough Edg 2 l.end_node,
          long_enough Edg 3 l.right_face,
          long_enough Edg 4 l.left_face,
          long_enough Edg 5 l.right_edge,
          long_enough Edg 6 l.left_edge,
          long_enough Fac 7 l.ring_ptr,
          long_enough Rng 8 l.fac_id,
          long_enough Rng 9 l.start_edge,
          long_enough Cnd 10 l.first_edge,
        ) refl

    -- THE ONE CALL AFTER THE OTHER gives the directory's outcome
    pub loaded_checked : (l : Columns) (space : ℕ) → checked_of c (columns_after (Ok c) f l) space ≡ outcome_of z d lengths space
    unfolding checked_of outcome_of
    loaded_checked l space = rw (counts-held l, accepted) (ap (λ (t : Tile). checked_as c t space) (held_said l))

-- ---- checked, and walked

-- the fronts of ten columns are the tile that stands there
pub fronts_held : (n : Counts) {a b c d e f g h i j : List ℕ} (a' b' c' d' e' f' g' h' i' j' : List ℕ)
    → a ≡ take n.edges a' → b ≡ take n.edges b'
    → c ≡ take n.edges c' → d ≡ take n.edges d' → e ≡ take n.edges e' → f ≡ take n.edges f' → g ≡ take n.faces g'
    → h ≡ take n.rings h' → i ≡ take n.rings i' → j ≡ take n.nodes j'
    → tile (edges a b c d e f) g h i j ≡ held n (columns a' b' c' d' e' f' g' h' i' j')
fronts_held n a' b' c' d' e' f' g' h' i' j' pa pb pc pd pe pf pg ph pi pj = rw (pa, pb, pc, pd, pe, pf, pg, ph, pi, pj) refl

module _ (c : Counts) (l : Columns) (x : AtFault) (px : x ≡ short_of c l) where
  -- counts that the columns cannot have
  pub counts_refused : (n : FileName) → x ≡ Some n → (o : Outcome) → o ≡ Err (named n (refusal 15 0)) → (d : List ℕ)
      → (o ≡ checked_of c l (length d)) × (d ≡ marks_checked c l d)
  unfolding checked_of marks_checked
  counts_refused n e o a d = (rw (sym px ∙ e) a, rw (sym px ∙ e) refl)

  -- counts that they can have: the check's own answer, of a tile that is the one held
  pub counts_fit : x ≡ None → (t : Tile) → t ≡ held c l → (d d' : List ℕ) (v : Verdict) → v ≡ verdict_of t (length d) → d' ≡ marks_after t d
      → (o : Outcome) → o ≡ checked_from c t v → (o ≡ checked_of c l (length d)) × (d' ≡ marks_checked c l d)
  unfolding checked_of checked_as marks_checked
  counts_fit e t pt d d' v pv pd o po = (
    rw (sym px ∙ e) (po ∙ ap (checked_from c t) pv ∙ ap (λ (y : Tile). checked_from c y (verdict_of y (length d))) pt),
    rw (sym px ∙ e) (pd ∙ ap (λ (y : Tile). marks_after y d) pt),
  )
