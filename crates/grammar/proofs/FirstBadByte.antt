-- A scan that refuses gives the first byte that cannot continue, or the text's length where the text ends too soon; and where
-- there is such a byte or end, the scan gives it.
use mathlib.Core.Path.{◌≡◌, refl, sym, ap, subst, ◌∙◌}
use mathlib.Core.List.{List, [], ◌++◌, append_assoc, append-nil}
use mathlib.Core.Logic.{◌⊎◌, inl, inr, ◌↔◌, by_cases}
use Prim.Native.Nat.{ℕ, suc, ◌<◌}
use native.Mathlib.Omega.{arith}
use native.Mathlib.Decide.{dec_le}
use lib.ListN.{length, take, drop, take-append-drop}
use lib.Seq.{take-take}
use Rattle.laws.specs.Machine.{End, ended, stuck, run, Continues}
use Rattle.laws.specs.Machine as machine_words
use Rattle.laws.proofs.MachineLaws.{stuck_first, ended_continues}
use Rattle.laws.proofs.TestLaws.{clash}
use Rattle.grammar.specs.Words.{InGrammar, Begins, FirstBad, EndsTooSoon}
use Rattle.grammar.specs.Fields.{rule}
use Rattle.grammar.specs.Scan.{machine, start, Scan, finish, answer, scan_of}
use Rattle.grammar.specs.declared.Special.{Special}
use Rattle.grammar.specs.declared.Special.TheVariants.{Usual, ColumnsMayEnd, StarMayStand, ColonMayStand, ColumnIsWhole, TextIsWhole}
use Rattle.grammar.specs.declared.Spot.{Spot}
use Rattle.std.specs.Prelude.{Ok, Err}
use Rattle.grammar.proofs.PrintIsRead.{text_in}
use Rattle.grammar.proofs.ReadIsPrint.{text_out}
use Rattle.grammar.proofs.SpotsGoOn.{Whole, Fits, fits_keeps, live}
use Rattle.grammar.proofs.GrammarExact.{accepted_exactly}

-- ---- some text of the grammar begins so, exactly when the machine can go on

begins_in : (s : List ℕ) → Begins s → Continues machine Whole s start
begins_in s (t, (h, r)) = (t, rw (sym r.print) (text_in Whole h r.well_formed refl))

begins_out : (s : List ℕ) → Continues machine Whole s start → Begins s
begins_out s (t, a) = let r = text_out Whole (λ st w. w) (s ++ t) a in (t, (r.0, r.1))

-- ---- from the answer to the paper's words

-- "first byte that cannot continue, or L + 4"
abbrev pub BadPlace : List ℕ → ℕ → Type 0
BadPlace s i = FirstBad s i ⊎ ((i ≡ length s) × EndsTooSoon s)

bad_out : (s : List ℕ) (i : ℕ) → machine_words.FirstBad machine Whole s start i → FirstBad s i
bad_out s i f =
    record {
      inside = f.inside;
      before = begins_out (take i s) f.before;
      with_it = λ b. f.with_it (begins_in (take (suc i) s) b);
    }

finish-says : (len : ℕ) (k : Special) (cols i : ℕ) → finish len k cols ≡ Err i → i ≡ len
finish-says len TextIsWhole cols i e = clash (cc)
finish-says len Usual cols i e = cc
finish-says len ColumnsMayEnd cols i e = cc
finish-says len StarMayStand cols i e = cc
finish-says len ColonMayStand cols i e = cc
finish-says len ColumnIsWhole cols i e = cc

from_run : (s : List ℕ) (i : ℕ) → (InGrammar s → ⊥) → (o : End Spot) → run machine s start 0 ≡ o → answer (length s) o ≡ Err i → BadPlace s i
from_run s i no_reading (stuck j) r e =
    let b = stuck_first machine Whole Fits fits_keeps live s start 0 j (omega arith) r in
    let same : j ≡ i = cc in
    let q : b.0 ≡ i = omega (arith, b.1) in
    inl (subst (λ (k : ℕ). FirstBad s k) q (bad_out s b.0 b.2))
from_run s i no_reading (ended st) r e =
    let c = ended_continues machine Whole Fits fits_keeps live s start 0 st (omega arith) r in
    inr (finish-says (length s) (rule st.field).special st.cols i e, record { begins = begins_out s c.1; none = no_reading })

not_both : (s : List ℕ) (i : ℕ) → scan_of s ≡ Err i → InGrammar s → ⊥
not_both s i e g = let a = (accepted_exactly s).1 g in clash (cc (e, a.1))

says : (s : List ℕ) (i : ℕ) → scan_of s ≡ Err i → BadPlace s i
unfolding scan_of
says s i e = from_run s i (not_both s i e) (run machine s start 0) refl e

-- ---- from the paper's words to the answer

-- what begins a text of the grammar begins one at every shorter length
begins_shorter : (s : List ℕ) (i : ℕ) → Begins s → Begins (take i s)
begins_shorter s i (t, g) = (
  drop i s ++ t,
  subst InGrammar (sym (ap (λ (l : List ℕ). l ++ t) (take-append-drop i s)) ∙ append_assoc (take i s) (drop i s) t) g,
)

whole_begins : (s : List ℕ) → InGrammar s → Begins s
whole_begins s g = ([], subst InGrammar (sym (append-nil s)) g)

-- two places of one text are one
one_place : (s : List ℕ) (i j : ℕ) → BadPlace s i → BadPlace s j → i ≡ j
one_place s i j (inl f) (inl g) = by_cases (dec_le i j)
    (λ c. by_cases (dec_le j i) (λ d. omega arith) (λ d. absurd (below i j f g (omega arith)))) (λ c. absurd (below j i g f (omega arith)))
  where
    below : (i j : ℕ) → FirstBad s i → FirstBad s j → i < j → ⊥
    below i j f g h = f.with_it (rw (sym (take-take (suc i) j s h)) (begins_shorter (take j s) (suc i) g.before))
one_place s i j (inl f) (inr e) = absurd (f.with_it (begins_shorter s (suc i) e.1.begins))
one_place s i j (inr e) (inl f) = absurd (f.with_it (begins_shorter s (suc j) e.1.begins))
one_place s i j (inr e) (inr d) = e.0 ∙ sym d.0

no_reading : (s : List ℕ) (i : ℕ) → BadPlace s i → InGrammar s → ⊥
no_reading s i (inl f) g = f.with_it (begins_shorter s (suc i) (whole_begins s g))
no_reading s i (inr e) g = e.1.none g

gives : (s : List ℕ) (i : ℕ) → BadPlace s i → scan_of s ≡ Err i
gives s i p = by (scan_of s) refl
  where
    by : (r : Scan) → scan_of s ≡ r → scan_of s ≡ Err i
    by (Ok n) e = absurd (no_reading s i p ((accepted_exactly s).0 (n, e)))
    by (Err j) e = e ∙ ap (λ (k : ℕ). Err k) (one_place s j i (says s j e) p)

-- the scan gives place i exactly when byte i is the first that cannot continue, or i is the text's length and the text ends too soon
pub first_bad_byte : (s : List ℕ) (i : ℕ) → (scan_of s ≡ Err i) ↔ BadPlace s i
first_bad_byte s i = (says s i, gives s i)
