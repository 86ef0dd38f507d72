-- A scan accepts exactly the texts of the grammar, and counts their columns.
use mathlib.Core.Path.{◌≡◌, refl, sym}
use mathlib.Core.List.{List}
use mathlib.Core.Logic.{◌↔◌}
use Prim.Native.Nat.{ℕ}
use lib.ListN.{length}
use Rattle.laws.specs.Machine.{End, ended, stuck, run}
use Rattle.laws.proofs.MachineLaws.{run_accepts, accepts_run}
use Rattle.laws.proofs.TestLaws.{clash}
use Rattle.grammar.specs.Words.{Reading, Reads, InGrammar}
use Rattle.grammar.specs.Fields.{rule}
use Rattle.grammar.specs.Scan.{machine, start, finish, answer, scan_of}
use Rattle.grammar.specs.declared.Special.{Special}
use Rattle.grammar.specs.declared.Special.TheVariants.{Usual, ColumnsMayEnd, StarMayStand, ColonMayStand, ColumnIsWhole, TextIsWhole}
use Rattle.grammar.specs.declared.Spot.{Spot}
use Rattle.std.specs.Prelude.{Ok}
use Rattle.grammar.proofs.PrintIsRead.{Leads, text_in}
use Rattle.grammar.proofs.ReadIsPrint.{text_out}

-- the text is whole after n columns
abbrev Final : ℕ → Spot → Type 0
Final n st = ((rule st.field).special ≡ TextIsWhole) × (st.cols ≡ n)

finish-says : (len : ℕ) (k : Special) (cols n : ℕ) → finish len k cols ≡ Ok n → (k ≡ TextIsWhole) × (cols ≡ n)
finish-says len TextIsWhole cols n e = (refl, cc)
finish-says len Usual cols n e = clash (cc)
finish-says len ColumnsMayEnd cols n e = clash (cc)
finish-says len StarMayStand cols n e = clash (cc)
finish-says len ColonMayStand cols n e = clash (cc)
finish-says len ColumnIsWhole cols n e = clash (cc)

accepted_out : (n : ℕ) (s : List ℕ) (len : ℕ) (o : End Spot) → run machine s start 0 ≡ o → answer len o ≡ Ok n → Leads (Final n) s start
accepted_out n s len (stuck i) r e = clash (cc)
accepted_out n s len (ended st) r e = run_accepts machine (Final n) s start 0 st (finish-says len (rule st.field).special st.cols n e) r

accepted_in : (n : ℕ) (s : List ℕ) → Leads (Final n) s start → answer (length s) (run machine s start 0) ≡ Ok n
accepted_in n s a = let r = accepts_run machine (Final n) s start 0 a in rw (r.1, r.2.0, r.2.1)

-- n columns are found exactly when the text has a reading with n columns
pub grammar_exact : (n : ℕ) (s : List ℕ) → (scan_of s ≡ Ok n) ↔ ((h : Reading) × Reads s h × (length h.columns ≡ n))
unfolding scan_of
grammar_exact n s = (
  (λ e.
      let r = text_out (Final n) (λ st f. f.0) s (accepted_out n s (length s) (run machine s start 0) refl e) in
      (r.0, r.1, r.2.1)),
  (λ r.
      accepted_in n s (rw (sym r.1.print) (text_in (Final n) r.0 r.1.well_formed (refl, r.2)))),
)

-- a text is accepted exactly when it is in the grammar
pub accepted_exactly : (s : List ℕ) → ((n : ℕ) × (scan_of s ≡ Ok n)) ↔ InGrammar s
accepted_exactly s = (
  (λ a. let r = (grammar_exact a.0 s).0 a.1 in (r.0, r.1)),
  (λ r. (length r.0.columns, (grammar_exact (length r.0.columns) s).1 (r.0, r.1, refl))),
)
