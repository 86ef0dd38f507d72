-- A text is read as a height exactly when it is one, with the value that its digits say, and is refused at exactly the place
-- where it leaves the wave heights.
use mathlib.Core.Path.{◌≡◌, refl, sym, ap, subst, ◌∙◌}
use mathlib.Core.Bool.{Bool, true, false, cond}
use mathlib.Core.List.{List, [], ◌∷◌}
use mathlib.Core.Logic.{◌↔◌}
use Prim.Native.Nat.{ℕ, zero, suc, ◌+◌, ◌*◌}
use native.Mathlib.Omega.{arith}
use lib.ListN.{length}
use lib.Dec.{ltb, lit<, lit≤}
use borrow.Author.Tests.{ltb-true, ltb-false}
use Rattle.laws.specs.Machine.{End, ended, stuck, go, run, Accepts, Continues}
use Rattle.laws.specs.Language.{LeavesAt}
use Rattle.laws.proofs.MachineLaws.{run_accepts, accepts_run, accepts_map}
use Rattle.laws.proofs.LanguageLaws.{leaves_once, stuck_leaves, ended_leaves}
use Rattle.refusal.specs.declared.Refusal.{Refusal}
use Rattle.refusal.specs.Order.{refusal}
use Rattle.std.specs.Prelude.{Some, None, Ok, Err}
use Rattle.wave.specs.Words.{thousand, IsHeight, WaveHeight}
use Rattle.wave.specs.Height.{Height, Step, kind_of, step_of, finish_of, next_of, machine, start, answer, height_of, no_wave_height, Roomy}
use Rattle.wave.specs.declared.State.{State}
use Rattle.wave.specs.declared.State.TheVariants.{Whole, Part, Spaces}
use Rattle.wave.proofs.Bytes.{one_digit}
use Rattle.wave.proofs.RoomLaws.{RoomyStep, roomy_step}
use Rattle.wave.proofs.Reading.{Final, read, was_left}

-- ---- the machine accepts the wave heights

begin : Roomy start
begin = (lit≤ tt, lit< tt)

height_accepted : (s : List ℕ) (v : ℕ) → IsHeight s v → Accepts machine (Final v) s start
height_accepted s v h =
    read v start s
    (record {
      ds = h.whole;
      part = h.part;
      part_value = h.part_value;
      blanks = h.blanks;
      stands = h.stands;
      digits = h.digits.digits;
      some = omega (arith, h.digits.some);
      few = omega (arith, h.digits.few);
      fraction = h.fraction;
      spaces = h.spaces;
      value = omega (arith, h.value);
    })

accepted_height : (s : List ℕ) (v : ℕ) → Accepts machine (Final v) s start → IsHeight s v
accepted_height s v a =
    let w = was_left v s start begin a in
    record {
      whole = w.ds;
      part = w.part;
      part_value = w.part_value;
      blanks = w.blanks;
      stands = w.stands;
      digits = record { some = omega (arith, w.some); few = omega (arith, w.few); digits = w.digits };
      fraction = w.fraction;
      spaces = w.spaces;
      value = omega (arith, w.value);
    }

-- the text may end in this state
abbrev Done : State → Type 0
Done st = (v : ℕ) × Final v st

accepts_heights : (s : List ℕ) → Accepts machine Done s start ↔ WaveHeight s
accepts_heights s = (
  (λ a.
      let r = accepts_run machine Done s start 0 a in
      (r.2.0, accepted_height s r.2.0 (run_accepts machine (Final r.2.0) s start 0 r.0 r.2.1 r.1))),
  (λ h. accepts_map machine (Final h.0) Done (λ st f. (h.0, f)) s start (height_accepted s h.0 h.1)),
)

-- ---- every state that is reached can be read on to a height

keeps : (st : State) (b : ℕ) (st' : State) → Roomy st → machine st b ≡ go st' → Roomy st'
keeps st b st' r e = by (step_of st (kind_of b)) (roomy_step st (kind_of b) r (one_digit b)) e
  where
    by : (o : Step) → RoomyStep o → next_of o ≡ go st' → Roomy st'
    by (Some x) r e = let h : x ≡ st' = cc in subst Roomy h r
    by None r e = let no : ⊥ = cc in absurd no

abbrev nought : List ℕ
nought = 48 ∷ []

live : (st : State) → Roomy st → Continues machine Done [] st
live (Whole zero u) r = (nought, ((u * 10 + 0) * thousand, (lit< tt, refl)))
live (Whole (suc n) u) r = ([], (u * thousand, (omega arith, refl)))
live (Part zero u) r = (nought, (u + 0, (lit< tt, refl)))
live (Part (suc n) u) r = ([], (u, (omega arith, refl)))
live (Spaces u) r = ([], (u, refl))

-- ---- what an ended reading answers

-- the answer of a state is a height where the text may end in it, and else 16 at the text's length
data Answered (at : ℕ) (st : State) : Height → Type 0 where
  says : {v : ℕ} → Final v st → Answered at st (Ok v)
  wants : (Done st → ⊥) → Answered at st (Err (refusal no_wave_height at))

answered : (at : ℕ) (st : State) → Answered at st (finish_of at st)
answered at (Whole n u) = by (ltb 0 n) refl
  where
    by : (b : Bool) → ltb 0 n ≡ b → Answered at (Whole n u) (cond b (Ok (u * thousand)) (Err (refusal no_wave_height at)))
    by true e = says (ltb-true 0 n e, refl)
    by false e = wants (λ d. omega (arith, ltb-false 0 n e, d.1.0))
answered at (Part n u) = by (ltb 0 n) refl
  where
    by : (b : Bool) → ltb 0 n ≡ b → Answered at (Part n u) (cond b (Ok u) (Err (refusal no_wave_height at)))
    by true e = says (ltb-true 0 n e, refl)
    by false e = wants (λ d. omega (arith, ltb-false 0 n e, d.1.0))
answered at (Spaces u) = says refl

-- What a text is read as: the height that it is, or refused where it leaves the wave heights
pub data Read (s : List ℕ) : Height → Type 0 where
  height : {v : ℕ} → IsHeight s v → Read s (Ok v)
  refused : {i : ℕ} → LeavesAt WaveHeight s i → Read s (Err (refusal no_wave_height i))

pub each_text : (s : List ℕ) → Read s (height_of s)
unfolding height_of
each_text s = by (run machine s start 0) refl
  where
    at_end : (st : State) → run machine s start 0 ≡ ended st → (h : Height) → Answered (length s) st h → Read s h
    at_end st r h (says f) = height (accepted_height s _ (run_accepts machine (Final _) s start 0 st f r))
    at_end st r h (wants none) = refused (ended_leaves machine Done Roomy keeps live WaveHeight start begin accepts_heights s st r none)

    by : (o : End State) → run machine s start 0 ≡ o → Read s (answer (length s) o)
    by (ended st) r = at_end st r (finish_of (length s) st) (answered (length s) st)
    by (stuck i) r = refused (stuck_leaves machine Done Roomy keeps live WaveHeight start begin accepts_heights s i r)

-- ---- the theorems

final_once : (st : State) (v w : ℕ) → Final v st → Final w st → v ≡ w
final_once (Whole n u) v w f g = omega (arith, f.1, g.1)
final_once (Part n u) v w f g = omega (arith, f.1, g.1)
final_once (Spaces u) v w f g = omega arith

-- a text is a wave height of one value at most
pub one_value : (s : List ℕ) (v w : ℕ) → IsHeight s v → IsHeight s w → v ≡ w
one_value s v w g h =
    let a = accepts_run machine (Final v) s start 0 (height_accepted s v g) in
    let b = accepts_run machine (Final w) s start 0 (height_accepted s w h) in
    let e : a.0 ≡ b.0 = cc in
    final_once b.0 v w (subst (λ (st : State). Final v st) e a.2) b.2

-- "It becomes whole thousandths": a text is read as v exactly when it is a wave height that says v thousandths
pub accepted_exactly : (s : List ℕ) (v : ℕ) → (height_of s ≡ Ok v) ↔ IsHeight s v
accepted_exactly s v = ((λ e. out v (subst (λ (h : Height). Read s h) e (each_text s))), back (height_of s) (each_text s))
  where
    out : (w : ℕ) → Read s (Ok w) → IsHeight s w
    out w (height h) = h

    back : (o : Height) → Read s o → IsHeight s v → o ≡ Ok v
    back o (height {v = w} g) h = ap (λ (n : ℕ). Ok n) (one_value s w v g h)
    back o (refused l) h = absurd (l.outside (v, h))

-- "text is no wave height | first bad byte, or text length": it is refused with 16 exactly where it leaves the wave heights
pub refused-exactly : (s : List ℕ) (r : Refusal) → (height_of s ≡ Err r) ↔ ((r.number ≡ no_wave_height) × LeavesAt WaveHeight s r.place)
refused-exactly s r = ((λ e. out r (subst (λ (h : Height). Read s h) e (each_text s))), (λ l. back (height_of s) (each_text s) l.0 l.1))
  where
    out : (q : Refusal) → Read s (Err q) → (q.number ≡ no_wave_height) × LeavesAt WaveHeight s q.place
    out q (refused l) = (refl, l)

    back : (o : Height) → Read s o → r.number ≡ no_wave_height → LeavesAt WaveHeight s r.place → o ≡ Err r
    back o (height {v = w} g) e l = absurd (l.outside (w, g))
    back o (refused {i = i} k) e l =
        ap (λ (p : ℕ). Err (refusal no_wave_height p)) (leaves_once WaveHeight s i r.place k l)
        ∙ ap (λ (n : ℕ). Err (refusal n r.place)) (sym e)
