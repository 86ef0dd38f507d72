-- One turn of a machine's loop, as the code takes it: at place i of the text s.
use mathlib.Core.Path.{◌≡◌, refl, sym, subst}
use native.Mathlib.Omega.{arith}
use mathlib.Core.List.{List, [], ◌∷◌}
use Prim.Native.Nat.{ℕ, suc, ◌+◌, ◌≤◌, ◌<◌}
use lib.ListN.{length, get_or, drop, drop_of_length-le}
use lib.Seq.{drop-cons}
use Rattle.laws.specs.Machine.{ended, stuck, Next, go, stop, follow, run, on_next, Accepts, Continues, FirstBad}

module _ {S : Type 0} (step : S → ℕ → Next S) (s : List ℕ) (st : S) (i : ℕ) where
  pub run_next : (st' : S) → i < length s → step st (get_or s i 0) ≡ go st' → run step (drop i s) st i ≡ run step (drop (suc i) s) st' (suc i)
  run_next st' h e = rw (drop-cons s i 0 h, e)

  pub run-stop : i < length s → step st (get_or s i 0) ≡ stop → run step (drop i s) st i ≡ stuck i
  run-stop h e = rw (drop-cons s i 0 h, e)

  pub run_end : length s ≤ i → run step (drop i s) st i ≡ ended st
  run_end h = rw (drop_of_length-le s h)

-- a run is stuck at a place of the text
pub stuck_within : {S : Type 0} (step : S → ℕ → Next S) (s : List ℕ) (st : S) (i j : ℕ) → run step s st i ≡ stuck j → j ≤ i + length s
stuck_within step [] st i j e = let z : ◌≡◌ {A = ℕ} 0 1 = cc in absurd (no z)
  where
    no : ◌≡◌ {A = ℕ} 0 1 → ⊥
    no z = omega arith
stuck_within {S} step (b ∷ bs) st i j e = by (λ st₁. stuck_within step bs st₁ (suc i) j) (step st b) e
  where
    by : ((st₁ : S) → run step bs st₁ (suc i) ≡ stuck j → j ≤ suc i + length bs) → (o : Next S)
        → follow (run step bs) i o ≡ stuck j → j ≤ i + suc (length bs)
    by ih (go st₁) e = omega (arith, ih st₁ e)
    by ih stop e = let h : j ≡ i = cc in omega arith

-- ---- what a run says of the texts that are accepted

module _ {S : Type 0} (step : S → ℕ → Next S) (Final : S → Type 0) where
  -- a run that ends in a final state, and only such, is of an accepted text
  pub run_accepts : (s : List ℕ) (st : S) (i : ℕ) (st' : S) → Final st' → run step s st i ≡ ended st' → Accepts step Final s st
  run_accepts [] st i st' f e = let h : st ≡ st' = cc in subst Final (sym h) f
  run_accepts (b ∷ bs) st i st' f e = by (λ st₁. run_accepts bs st₁ (suc i) st' f) (step st b) e
    where
      by : ((st₁ : S) → run step bs st₁ (suc i) ≡ ended st' → Accepts step Final bs st₁) → (o : Next S)
          → follow (run step bs) i o ≡ ended st' → on_next (Accepts step Final bs) o
      by ih (go st₁) e = ih st₁ e
      by ih stop e = let z : ◌≡◌ {A = ℕ} 0 1 = cc in omega arith

  pub accepts_run : (s : List ℕ) (st : S) (i : ℕ) → Accepts step Final s st → (st' : S) × (run step s st i ≡ ended st') × Final st'
  accepts_run [] st i a = (st, refl, a)
  accepts_run (b ∷ bs) st i a = by (λ st₁. accepts_run bs st₁ (suc i)) (step st b) a
    where
      by : ((st₁ : S) → Accepts step Final bs st₁ → (st' : S) × (run step bs st₁ (suc i) ≡ ended st') × Final st')
          → (o : Next S) → on_next (Accepts step Final bs) o → (st' : S) × (follow (run step bs) i o ≡ ended st') × Final st'
      by ih (go st₁) a = ih st₁ a
      by ih stop a = absurd a

  -- Where each state that is reached has a text that is accepted from it, a run is stuck at the first byte that cannot continue.
  module _ (Ok : S → Type 0) (keeps : (st : S) (b : ℕ) (st' : S) → Ok st → step st b ≡ go st' → Ok st')
      (live : (st : S) → Ok st → Continues step Final [] st) where
    pub stuck_first : (s : List ℕ) (st : S) (i j : ℕ) → Ok st → run step s st i ≡ stuck j → (n : ℕ) × (j ≡ i + n) × FirstBad step Final s st n
    stuck_first [] st i j ok e = let z : ◌≡◌ {A = ℕ} 0 1 = cc in absurd (no z)
      where
        no : ◌≡◌ {A = ℕ} 0 1 → ⊥
        no z = omega arith
    stuck_first (b ∷ bs) st i j ok e = by (λ st₁. stuck_first bs st₁ (suc i) j) (step st b) refl e
      where
        by : ((st₁ : S) → Ok st₁ → run step bs st₁ (suc i) ≡ stuck j → (n : ℕ) × (j ≡ suc i + n) × FirstBad step Final bs st₁ n)
            → (o : Next S) → step st b ≡ o → follow (run step bs) i o ≡ stuck j → (n : ℕ) × (j ≡ i + n) × FirstBad step Final (b ∷ bs) st n
        by ih (go st₁) q e =
            let r = ih st₁ (keeps st b st₁ ok q) e in (
              suc r.0,
              omega (arith, r.1),
              record {
                inside = omega (arith, r.2.inside);
                before = (r.2.before.0, rw q r.2.before.1);
                with_it = λ c. r.2.with_it (c.0, rw q at c.1);
              },
            )
        by ih stop q e =
            let h : j ≡ i = cc in (
              0,
              omega arith,
              record { inside = omega arith; before = live st ok; with_it = λ c. rw q at c.1 },
            )

    pub ended_continues : (s : List ℕ) (st : S) (i : ℕ) (st' : S) → Ok st → run step s st i ≡ ended st' → Ok st' × Continues step Final s st
    ended_continues [] st i st' ok e = let h : st ≡ st' = cc in (subst Ok h ok, live st ok)
    ended_continues (b ∷ bs) st i st' ok e = by (λ st₁. ended_continues bs st₁ (suc i) st') (step st b) refl e
      where
        by : ((st₁ : S) → Ok st₁ → run step bs st₁ (suc i) ≡ ended st' → Ok st' × Continues step Final bs st₁)
            → (o : Next S) → step st b ≡ o → follow (run step bs) i o ≡ ended st' → Ok st' × Continues step Final (b ∷ bs) st
        by ih (go st₁) q e = let r = ih st₁ (keeps st b st₁ ok q) e in (r.0, (r.1.0, rw q r.1.1))
        by ih stop q e = let z : ◌≡◌ {A = ℕ} 0 1 = cc in absurd (no z)
          where
            no : ◌≡◌ {A = ℕ} 0 1 → ⊥
            no z = omega arith

pub accepts_map : {S : Type 0} (step : S → ℕ → Next S) (P Q : S → Type 0) → ((st : S) → P st → Q st)
    → (s : List ℕ) (st : S) → Accepts step P s st → Accepts step Q s st
accepts_map step P Q f [] st a = f st a
accepts_map {S} step P Q f (b ∷ bs) st a = by (λ st₁. accepts_map step P Q f bs st₁) (step st b) a
  where
    by : ((st₁ : S) → Accepts step P bs st₁ → Accepts step Q bs st₁) → (o : Next S) → on_next (Accepts step P bs) o → on_next (Accepts step Q bs) o
    by ih (go st₁) a = ih st₁ a
    by ih stop a = absurd a
