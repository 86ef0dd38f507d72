-- A judgement says exactly which number is above which.
use mathlib.Core.Path.{◌≡◌, refl, subst, ◌∙◌}
use mathlib.Core.Bool.{Bool, true, false, cond}
use mathlib.Core.List.{List}
use mathlib.Core.Logic.{◌⊎◌, inl, inr, ◌↔◌}
use Prim.Native.Nat.{ℕ}
use lib.Dec.{leb}
use borrow.Author.Tests.{leb-true, leb-false, le-leb, lt-leb}
use Rattle.laws.specs.Texts.{bytes}
use Rattle.refusal.specs.declared.Refusal.{Refusal}
use Rattle.std.specs.Prelude.{Ok, Err}
use Rattle.wave.specs.Words.{IsHeight, NotAbove, Above}
use Rattle.wave.specs.Height.{Height, height_of}
use Rattle.wave.specs.Judgement.{Compared, judged, judgement_of}
use Rattle.wave.specs.declared.Judgement.TheVariants.{Passes, TooHigh}
use Rattle.wave.proofs.Exact.{accepted_exactly}

-- What a judgement rests on, by what the two texts are read as
data Judged (measured limit : List ℕ) : Compared → Type 0 where
  within : NotAbove measured limit → Judged measured limit (Ok Passes)
  beyond : Above measured limit → Judged measured limit (Ok TooHigh)
  bad_limit : {r : Refusal} → height_of limit ≡ Err r → Judged measured limit (Err r)
  bad_measured : {r : Refusal} {most : ℕ} → IsHeight limit most → height_of measured ≡ Err r → Judged measured limit (Err r)

module _ (m l : List ℕ) where
  each : Judged m l (judgement_of m l)
  unfolding judgement_of
  each = by (height_of l) (height_of m) refl refl
    where
      compared : (most seen : ℕ) → IsHeight l most → IsHeight m seen → (b : Bool) → leb seen most ≡ b → Judged m l (Ok (cond b Passes TooHigh))
      compared most seen h g true e = within (record { seen = seen; most = most; measures = g; limits = h; within = leb-true seen most e })
      compared most seen h g false e = beyond (record { seen = seen; most = most; measures = g; limits = h; beyond = leb-false seen most e })

      by : (x y : Height) → height_of l ≡ x → height_of m ≡ y → Judged m l (judged x y)
      by (Err r) y e f = bad_limit e
      by (Ok most) (Err r) e f = bad_measured ((accepted_exactly l most).0 e) f
      by (Ok most) (Ok seen) e f = compared most seen ((accepted_exactly l most).0 e)
          ((accepted_exactly m seen).0 f) (leb seen most) refl

  -- the readings decide
  from_readings : (most seen : ℕ) → IsHeight m seen → IsHeight l most → judgement_of m l ≡ Ok (cond (leb seen most) Passes TooHigh)
  unfolding judgement_of
  from_readings most seen g h = rw ((accepted_exactly l most).1 h, (accepted_exactly m seen).1 g)

  -- "A measured height passes exactly when not above the limit"
  pub passes_exactly : (judgement_of m l ≡ Ok Passes) ↔ NotAbove m l
  passes_exactly = (
    (λ e. out (subst (λ (j : Compared). Judged m l j) e each)),
    (λ n. from_readings n.most n.seen n.measures n.limits ∙ rw (le-leb n.seen n.most n.within)),
  )
    where
      out : Judged m l (Ok Passes) → NotAbove m l
      out (within n) = n

  pub too_high_exactly : (judgement_of m l ≡ Ok TooHigh) ↔ Above m l
  too_high_exactly = (
    (λ e. out (subst (λ (j : Compared). Judged m l j) e each)),
    (λ n. from_readings n.most n.seen n.measures n.limits ∙ rw (lt-leb n.seen n.most n.beyond)),
  )
    where
      out : Judged m l (Ok TooHigh) → Above m l
      out (beyond n) = n

  -- "of two bad texts the limit's is refused": the limit's refusal, or the measured text's where the limit is a height
  pub refused-exactly : (r : Refusal) → (judgement_of m l ≡ Err r)
      ↔ ((height_of l ≡ Err r) ⊎ ((most : ℕ) × IsHeight l most × (height_of m ≡ Err r)))
  unfolding judgement_of
  refused-exactly r = ((λ e. out r (subst (λ (j : Compared). Judged m l j) e each)), back)
    where
      out : (q : Refusal) → Judged m l (Err q)
          → (height_of l ≡ Err q) ⊎ ((most : ℕ) × IsHeight l most × (height_of m ≡ Err q))
      out q (bad_limit e) = inl e
      out q (bad_measured {most = most} h e) = inr (most, h, e)

      back : (height_of l ≡ Err r) ⊎ ((most : ℕ) × IsHeight l most × (height_of m ≡ Err r))
          → judged (height_of l) (height_of m) ≡ Err r
      back (inl e) = rw e
      back (inr w) = rw ((accepted_exactly l w.0).1 w.1, w.2)

-- The sea of 10.0 under a limit of 2.5 does not pass, though as text `10.0` comes first.
abbrev ten : List ℕ
ten = bytes "10.0"

abbrev two_and_a_half : List ℕ
two_and_a_half = bytes "2.5"

pub ten_is_too_high : judgement_of ten two_and_a_half ≡ Ok TooHigh
unfolding judgement_of height_of
ten_is_too_high = refl
