-- The file that a refusal speaks of, in words: of a load by the table and the number, of a check by the test that failed.
use mathlib.Core.Path.{◌≡◌, refl, sym, ap, subst, ◌∙◌}
use mathlib.Core.Logic.{◌↔◌}
use mathlib.Core.Bool.{Bool, true, false, cond, true≢false}
use Prim.Native.Nat.{ℕ, ◌<◌}
use native.Mathlib.Omega.{arith}
use borrow.Author.Tests.{eq-eqb, eqb-true, eqb-false, ne_eqb}
use lib.Dec.{eqb}
use Rattle.laws.specs.Lowest.{In}
use Rattle.laws.specs.Orbit.{entry}
use Rattle.laws.proofs.LowestLaws.{bool_cases}
use Rattle.laws.proofs.TestLaws.{clash}
use Rattle.refusal.specs.declared.Refusal.{Refusal}
use Rattle.side.specs.Edges.{outside}
use Rattle.side.specs.Successor.{Fault, no_touch, other_face, both_sides}
use Rattle.side.proofs.SuccessorExactly.{not-outside}
use Rattle.tile.specs.Columns.{Tile, F, R}
use Rattle.facts.specs.Facts as tile
use Rattle.load.specs.declared.Finding.{Finding}
use Rattle.load.specs.declared.TableName.{TableName}
use Rattle.load.specs.declared.TableName.TheVariants as table
use Rattle.report.specs.declared.FileName.{FileName}
use Rattle.report.specs.declared.FileName.TheVariants.{Edg, Fac, Rng, Cnd, Cnx}
use Rattle.directory.specs.Concerned.{of_table, of_index, ring_row, file_of_finding, file_of_verdict}
use Rattle.directory.specs.Files.{Directory, cnx_read}
use Rattle.directory.specs.Words.{SpeaksOf, the_table, edge_index, node_index, no_index_read, file_of_test}

-- ---- a load
module _ (d : Directory) (q : Finding) where
  -- the table itself, where no index of it was read
  own_file : (t : TableName) → (t ≡ table.Edg → ⊥) → (t ≡ table.Cnd → cnx_read d ≡ true → ⊥) → of_index (cnx_read d) t ≡ of_table t
  own_file table.Edg u v = absurd (u refl)
  own_file table.Fac u v = refl
  own_file table.Rng u v = refl
  own_file table.Cnd u v = bool_cases (cnx_read d) (λ k. absurd (v refl k)) (λ k. rw k refl)

  by_table : q.refusal.number ≡ 8 → (q.table ≡ table.Edg → ⊥) → (q.table ≡ table.Cnd → cnx_read d ≡ true → ⊥)
      → SpeaksOf d q (of_index (cnx_read d) q.table)
  by_table e u v = subst (SpeaksOf d q) (sym (own_file q.table u v)) (no_index_read e u v)

  by_index : q.refusal.number ≡ 8 → (t : TableName) → q.table ≡ t → SpeaksOf d q (of_index (cnx_read d) q.table)
  by_index e table.Edg g = subst (SpeaksOf d q) (sym (ap (of_index (cnx_read d)) g)) (edge_index e g)
  by_index e table.Fac g = by_table e (λ h. clash (cc)) (λ h. clash (cc))
  by_index e table.Rng g = by_table e (λ h. clash (cc)) (λ h. clash (cc))
  by_index e table.Cnd g =
      bool_cases (cnx_read d)
      (λ k. subst (SpeaksOf d q) (sym (ap (of_index (cnx_read d)) g ∙ ap (λ (b : Bool). cond b Cnx Cnd) k)) (node_index e g k))
      (λ k. by_table e (λ h. clash (cc)) (λ _ h. true≢false (sym h ∙ k)))

  pub speaks : SpeaksOf d q (file_of_finding (cnx_read d) q)
  unfolding file_of_finding
  speaks =
      bool_cases (eqb q.refusal.number 8)
      (λ b. rw b (by_index (eqb-true _ _ b) q.table refl))
      (λ b. rw b (the_table (eqb-false _ _ b)))

  spoken : (n : FileName) → SpeaksOf d q n → file_of_finding (cnx_read d) q ≡ n
  unfolding file_of_finding
  spoken n (the_table e) = rw (ne_eqb q.refusal.number 8 e) refl
  spoken n (edge_index e g) = rw (eq-eqb q.refusal.number 8 e, g) refl
  spoken n (node_index e g k) = rw (eq-eqb q.refusal.number 8 e, g, k) refl
  spoken n (no_index_read e u v) = rw (eq-eqb q.refusal.number 8 e) (own_file q.table u v)

  -- THE FILE THAT A LOAD'S FINDING SPEAKS OF
  pub speaks_exactly : (n : FileName) → (file_of_finding (cnx_read d) q ≡ n) ↔ SpeaksOf d q n
  speaks_exactly n = (λ e. subst (SpeaksOf d q) e speaks, spoken n)

-- ---- a check
module _ (t : Tile) (space : ℕ) (q : Refusal) where
  abbrev file : FileName
  file = file_of_verdict t.fac_id (F t) q

  abbrev Says : ℕ → FileName → Type 0
  Says n f = q.number ≡ n → file ≡ f

  edges_file : (n : ℕ) → eqb n 27 ≡ false → eqb n 28 ≡ false → eqb n 29 ≡ false → eqb n 30 ≡ false → Says n Edg
  unfolding file_of_verdict
  edges_file n a b c d e = rw (e, a, b, c, d) refl

  fault_file : (n : ℕ) → q.number ≡ n → Fault t.edg q.place n → file ≡ Edg
  fault_file n e (no_touch none) = edges_file 23 refl refl refl refl e
  fault_file n e (other_face w a b none) = edges_file 24 refl refl refl refl e
  fault_file n e (both_sides a b) = edges_file 25 refl refl refl refl e

  -- "rng or fac for 28 by its place"
  ring_file : Says 28 (cond (ring_row t.fac_id (F t) q.place) Rng Fac)
  unfolding file_of_verdict
  ring_file e = rw e refl

  a_ring_row : In (R t) q.place → (tile.RingFaceIn t q.place → ⊥) → ring_row t.fac_id (F t) q.place ≡ true
  a_ring_row i out =
      rw ((not-outside (R t) q.place).1 i)
      (bool_cases (outside (F t) (entry t.fac_id q.place)) (λ b. b) (λ b. absurd (out ((not-outside (F t) _).0 b))))

  no_ring_row : ((r : ℕ) → In (R t) r → tile.RingFaceIn t r) → ring_row t.fac_id (F t) q.place ≡ false
  no_ring_row all =
      bool_cases (outside (R t) q.place)
      (λ b. rw b refl)
      (λ b. rw b ((not-outside (F t) _).1 (all q.place ((not-outside (R t) q.place).0 b))))

  named_by : (x : tile.Test) → ((y : tile.Test) → tile.rank y < tile.rank x → tile.Holds t space y)
      → tile.FailsAt t space x q.number q.place → file ≡ file_of_test x
  unfolding file_of_verdict
  named_by tile.sizes h w = edges_file 15 refl refl refl refl w.0
  named_by tile.owner_space h w = edges_file 14 refl refl refl refl w.0
  named_by tile.nodes h w = edges_file 20 refl refl refl refl w.0
  named_by tile.faces h w = edges_file 21 refl refl refl refl w.0
  named_by tile.links h w = edges_file 22 refl refl refl refl w.0
  named_by tile.successors h w = fault_file q.number refl w.0
  named_by tile.predecessors h w = edges_file 26 refl refl refl refl w.0
  named_by tile.first_edges h w = rw w.0 refl
  named_by tile.ring_faces h w = ring_file w.0 ∙ rw (a_ring_row w.1.within w.1.fails) refl
  named_by tile.runs h w = ring_file w.0 ∙ rw (no_ring_row (h tile.ring_faces (omega arith))) refl
  named_by tile.starts h w = rw w.0 refl
  named_by tile.not_named_twice h w = rw w.0 refl
  named_by tile.covered h w = edges_file 31 refl refl refl refl w.0

  -- THE FILE THAT A CHECK'S REFUSAL SPEAKS OF is that of the test that failed
  pub file_of_test_lem : (w : tile.RefusedWith t space q.number q.place) → file ≡ file_of_test w.test
  file_of_test_lem w = named_by w.test w.earlier w.fails
