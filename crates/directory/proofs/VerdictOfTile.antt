-- A DIRECTORY'S VERDICT IS THE CHECK'S VERDICT ON THE TILE THAT ITS FILES SAY, and the counts are that tile's.
use Rattle.tile.specs.Check.{Verdict}
use mathlib.Core.Path.{◌≡◌, refl, sym, ap, ◌∙◌}
use mathlib.Core.Logic.{◌↔◌, inl, inr, ⊎_elim}
use mathlib.Core.List.{List}
use Prim.Native.Nat.{ℕ}
use lib.ListN.{length}
use Rattle.laws.proofs.BufferLaws.{length-listed}
use Rattle.laws.proofs.TestLaws.{clash}
use Rattle.refusal.specs.declared.Refusal.{Refusal}
use Rattle.refusal.specs.Order.{refusal}
use Rattle.tile.specs.Columns.{Tile, E, F, R, N}
use Rattle.tile.specs.Check.{verdict_of}
use Rattle.facts.proofs.AcceptedExactly as check
use Rattle.facts.proofs.RefusedExactly.{refused, words_refused}
use Rattle.opening.specs.declared.Table.{Table}
use Rattle.load.specs.declared.TableName.{TableName}
use Rattle.load.specs.declared.TableName.TheVariants.{Edg, Fac, Rng, Cnd}
use Rattle.load.specs.declared.Counts.{Counts}
use Rattle.load.specs.Load.{Loaded}
use Rattle.load.specs.Sources.{Files, table_in, tables_of}
use Rattle.load.specs.Load.{cells_of, load_of}
use Rattle.load.specs.Words.{Loads, count_of}
use Rattle.load.proofs.LoadedExactly.{loaded_exactly, refused-exactly, opened_as}
use Rattle.report.specs.declared.FileName.{FileName}
use Rattle.directory.specs.declared.Sizes.{Sizes}
use Rattle.std.proofs.Common.{Some, None, Ok, Err}
use Rattle.directory.specs.Files.{AtFault}
use Rattle.limits.specs.Limits.{program_rows}
use Rattle.directory.specs.Files.{too_large}
use Rattle.directory.specs.Concerned.{file_of_finding, file_of_verdict}
use Rattle.directory.specs.declared.Named.{Named}
use Rattle.directory.specs.Files.{Directory, cnx_read, files_read, sizes_taken}
use Rattle.directory.specs.Outcome.{named, column, tile_said, checked_from, checked_as, loaded_as, unless_at_fault, loaded_of, then_checked, outcome_of}
use Rattle.directory.specs.Words.{AcceptedWith, BySize, ByLoad, ByCheck, RefusedWith}
use Rattle.directory.proofs.SizesInWords.{sizes_exactly, size_exactly}
use Rattle.directory.proofs.FilesInWords.{speaks_exactly, file_of_test_lem}

-- ---- the counts of a loaded tile are the lengths of its columns

module _ (f : Files) (lengths : List ℕ) (c : Counts) (h : Loads f program_rows lengths c) where
  -- a column has as many numbers as its table's count
  pub column_counted : (n : TableName) (k : ℕ) → length (column f n k) ≡ count_of c n
  column_counted n k =
      let o = h.opens n in
      length-listed (cells_of f program_rows n k) (table_in (tables_of f program_rows) n).rows
      ∙ ap (λ (t : Table). t.rows) (opened_as f program_rows n o.0 (count_of c n) o.1)

  pub counts-edges : E (tile_said f) ≡ c.edges
  unfolding tile_said
  counts-edges = column_counted Edg 1

  pub counts-faces : F (tile_said f) ≡ c.faces
  unfolding tile_said
  counts-faces = column_counted Fac 7

  pub counts_rings : R (tile_said f) ≡ c.rings
  unfolding tile_said
  counts_rings = column_counted Rng 8

  pub counts-nodes : N (tile_said f) ≡ c.nodes
  unfolding tile_said
  counts-nodes = column_counted Cnd 10

-- ---- what each stage hands on

module _ (t : Tile) (c d : Counts) where
  checked_accepted : (v : Verdict) → checked_from c t v ≡ Ok d → (v ≡ (Ok tt)) × (c ≡ d)
  checked_accepted (Ok tt) e = (refl, cc)
  checked_accepted (Err q) e = clash (cc)

module _ (t : Tile) (c : Counts) (w : Named) where
  checked_refused : (v : Verdict) → checked_from c t v ≡ Err w
      → (q : Refusal) × (v ≡ Err q) × (named (file_of_verdict t.fac_id (F t) q) q ≡ w)
  checked_refused (Ok tt) e = clash (cc)
  checked_refused (Err q) e = (q, refl, cc)

-- a refusal and its file are what is named
is_named_lem : (w : Named) (n : FileName) (q : Refusal) → n ≡ w.file → q ≡ w.refusal → named n q ≡ w
is_named_lem w n q a b = rw (a, b) refl

module _ (z : Sizes) (d : Directory) (lengths : List ℕ) (space : ℕ) where
  abbrev f : Files
  f = files_read d

  abbrev t : Tile
  t = tile_said f

  abbrev load : Loaded
  load = load_of f program_rows lengths

  abbrev size : AtFault
  size = too_large (sizes_taken z d) (cnx_read d)

  -- the outcome, where these are the answers of its stages
  outcome_staged : (x : AtFault) → size ≡ x → (l : Loaded) → load ≡ l
      → outcome_of z d lengths space ≡ then_checked (unless_at_fault x (loaded_as (cnx_read d) l)) t space
  unfolding outcome_of loaded_of
  outcome_staged x e l g =
      ap (λ (x : AtFault). then_checked (unless_at_fault x (loaded_as (cnx_read d) load)) t space) e
      ∙ ap (λ (l : Loaded). then_checked (unless_at_fault x (loaded_as (cnx_read d) l)) t space) g

  outcome_checked : size ≡ None → (c : Counts) → load ≡ Ok c → (v : Verdict) → verdict_of t space ≡ v
      → outcome_of z d lengths space ≡ checked_from c t v
  unfolding checked_as
  outcome_checked e c g v h = outcome_staged None e (Ok c) g ∙ ap (checked_from c t) h

  -- ---- accepted exactly

  module _ (c : Counts) where
    accepted_by : (x : AtFault) → size ≡ x → (l : Loaded) → load ≡ l
        → then_checked (unless_at_fault x (loaded_as (cnx_read d) l)) t space ≡ Ok c
        → AcceptedWith z d lengths space c
    unfolding checked_as
    accepted_by (Some n) s l g e = clash (cc)
    accepted_by None s (Ok k) g e =
        let w = checked_accepted t k c (verdict_of t space) e in
        record {
          sizes = (sizes_exactly z d).0 s;
          loads = (loaded_exactly f program_rows lengths c).0 (g ∙ ap Ok w.1);
          facts = check.accepted t space w.0;
        }
    accepted_by None s (Err q) g e = clash (cc)

    -- A DIRECTORY IS ACCEPTED EXACTLY WHEN no file is too large, its files load, and the tile that they say has all of the facts
    pub accepted_exactly : (outcome_of z d lengths space ≡ Ok c) ↔ AcceptedWith z d lengths space c
    accepted_exactly = (
      λ e. accepted_by size refl load refl (sym (outcome_staged size refl load refl) ∙ e),
      λ a.
          outcome_checked ((sizes_exactly z d).1 a.sizes) c ((loaded_exactly f program_rows lengths c).1 a.loads) (Ok tt)
          (check.facts_accepted t space a.facts),
    )

  -- ---- refused exactly

  module _ (w : Named) where
    refused_by : (x : AtFault) → size ≡ x → (l : Loaded) → load ≡ l → then_checked (unless_at_fault x (loaded_as (cnx_read d) l)) t space ≡ Err w
        → RefusedWith z d lengths space w
    unfolding checked_as
    refused_by (Some n) s l g e =
        let q : named n (refusal 15 0) ≡ w = cc in
        inl (record {
          first = (size_exactly z d w.file).0 (s ∙ ap (λ (x : Named). Some x.file) q);
          says = sym
              (ap (λ (x : Named). x.refusal) q);
        })
    refused_by None s (Ok c) g e =
        let x = checked_refused t c w (verdict_of t space) e in
        let q : x.0 ≡ w.refusal = ap (λ (n : Named). n.refusal) x.2 in
        let r = refused t space w.refusal.number w.refusal.place (x.1 ∙ ap Err q) in
        inr (inr (record {
          sizes = (sizes_exactly z d).0 s;
          counts = c;
          loads = (loaded_exactly f program_rows lengths c).0 g;
          refused = r;
          file = sym (ap (λ (n : Named). n.file) x.2) ∙ ap (file_of_verdict t.fac_id (F t)) q ∙ file_of_test_lem t space w.refusal r;
        }))
    refused_by None s (Err q) g e =
        let n : named (file_of_finding (cnx_read d) q) q.refusal ≡ w = cc in
        inr (inl (record {
          sizes = (sizes_exactly z d).0 s;
          finding = q;
          refused = (refused-exactly f program_rows lengths q).0 g;
          says = sym (ap (λ (x : Named). x.refusal) n);
          file = (speaks_exactly d q w.file).0 (ap (λ (x : Named). x.file) n);
        }))

    of_size : BySize z d lengths space w → outcome_of z d lengths space ≡ Err w
    of_size a =
        outcome_staged (Some w.file) ((size_exactly z d w.file).1 a.first) load refl
        ∙ ap Err (is_named_lem w w.file (refusal 15 0) refl (sym a.says))

    of_load : ByLoad z d lengths space w → outcome_of z d lengths space ≡ Err w
    of_load a =
        let q = a.finding in
        outcome_staged None ((sizes_exactly z d).1 a.sizes) (Err q) ((refused-exactly f program_rows lengths q).1 a.refused)
        ∙ ap Err (is_named_lem w (file_of_finding (cnx_read d) q) q.refusal ((speaks_exactly d q w.file).1 a.file) (sym a.says))

    of_check : ByCheck z d lengths space w → outcome_of z d lengths space ≡ Err w
    of_check a =
        outcome_checked ((sizes_exactly z d).1 a.sizes) a.counts
        ((loaded_exactly f program_rows lengths a.counts).1 a.loads) (Err w.refusal)
        (words_refused t space w.refusal.number w.refusal.place a.refused)
        ∙ ap Err (is_named_lem w _ w.refusal (file_of_test_lem t space w.refusal a.refused ∙ sym a.file) refl)

    -- A DIRECTORY IS REFUSED EXACTLY WHEN a file is too large, or else the load refuses it, or else the check does; with their own refusal
    pub refused_exactly_when : (outcome_of z d lengths space ≡ Err w) ↔ RefusedWith z d lengths space w
    refused_exactly_when = (
      λ e. refused_by size refl load refl (sym (outcome_staged size refl load refl) ∙ e),
      ⊎_elim of_size (⊎_elim of_load of_check),
    )
