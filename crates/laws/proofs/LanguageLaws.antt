-- A text leaves a language at one place, and a machine that accepts the language is stuck there.
use mathlib.Core.Path.{◌≡◌, subst}
use mathlib.Core.List.{List, [], ◌++◌, append_assoc}
use mathlib.Core.Logic.{◌↔◌, by_cases}
use Prim.Native.Nat.{ℕ, suc, ◌≤◌, ◌<◌}
use native.Mathlib.Omega.{arith}
use native.Mathlib.Decide.{dec_lt}
use lib.ListN.{length, take, drop, take-append-drop}
use lib.Seq.{take-take, take-length}
use Rattle.laws.specs.Language.{Begins, LeavesAt}
use Rattle.laws.specs.Machine.{ended, stuck, Next, go, run, Accepts, Continues, FirstBad}
use Rattle.laws.proofs.MachineLaws.{accepts_run, stuck_first, ended_continues}

module _ (In : List ℕ → Type 0) where
  -- what begins a text of the language, cut shorter, begins it too
  pub begins_shorter : (s : List ℕ) (i j : ℕ) → i ≤ j → Begins In (take j s) → Begins In (take i s)
  begins_shorter s i j h b =
      let cut : take i s ++ drop i (take j s) ≡ take j s = rw (take-take i j s h) at (take-append-drop i (take j s)) in
      (drop i (take j s) ++ b.0, rw (← append_assoc, cut) b.1)

  -- not before another place where it leaves
  not_earlier : (s : List ℕ) (i j : ℕ) → LeavesAt In s i → LeavesAt In s j → i < j → ⊥
  not_earlier s i j a b h = a.with_it (omega (arith, b.within)) (begins_shorter s (suc i) j h b.before)

  pub leaves_once : (s : List ℕ) (i j : ℕ) → LeavesAt In s i → LeavesAt In s j → i ≡ j
  leaves_once s i j a b =
      by_cases (dec_lt i j) (λ h. absurd (not_earlier s i j a b h))
      (λ h. by_cases (dec_lt j i) (λ k. absurd (not_earlier s j i b a k)) (λ k. omega arith))

-- A machine that accepts a language, and goes only to states from which some text is accepted
module _ {S : Type 0} (step : S → ℕ → Next S) (Final : S → Type 0) (Ok : S → Type 0)
    (keeps : (st : S) (b : ℕ) (st' : S) → Ok st → step st b ≡ go st' → Ok st')
    (live : (st : S) → Ok st → Continues step Final [] st)
    (In : List ℕ → Type 0) (start : S) (ok : Ok start) (same : (s : List ℕ) → Accepts step Final s start ↔ In s) where
  begins : (s : List ℕ) → Continues step Final s start → Begins In s
  begins s c = (c.0, (same (s ++ c.0)).0 c.1)

  continues : (s : List ℕ) → Begins In s → Continues step Final s start
  continues s b = (b.0, (same (s ++ b.0)).1 b.1)

  -- a run that is stuck is stuck where the text leaves the language
  pub stuck_leaves : (s : List ℕ) (i : ℕ) → run step s start 0 ≡ stuck i → LeavesAt In s i
  stuck_leaves s i r =
      let b = stuck_first step Final Ok keeps live s start 0 i ok r in
      let n : b.0 ≡ i = omega (arith, b.1) in
      at (subst (λ (k : ℕ). FirstBad step Final s start k) n b.2)
    where
      at : FirstBad step Final s start i → LeavesAt In s i
      at f =
          record {
            outside = λ d.
                let a = accepts_run step Final s start 0 ((same s).1 d) in
                let z : ◌≡◌ {A = ℕ} 0 1 = cc in
                omega arith;
            within = omega (arith, f.inside);
            before = begins (take i s) f.before;
            with_it = λ l p. f.with_it (continues (take (suc i) s) p);
          }

  -- a run that ends in a state that is not final leaves the language at the text's end
  pub ended_leaves : (s : List ℕ) (st : S) → run step s start 0 ≡ ended st → (Final st → ⊥) → LeavesAt In s (length s)
  ended_leaves s st r none =
      record {
        outside = λ d.
            let a = accepts_run step Final s start 0 ((same s).1 d) in
            let t : a.0 ≡ st = cc in
            none (subst Final t a.2);
        within = omega arith;
        before = rw take-length (begins s (ended_continues step Final Ok keeps live s start 0 st ok r).1);
        with_it = λ l p. omega arith;
      }
