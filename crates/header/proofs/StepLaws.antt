-- The step at a place, as a loop over the columns finds it.
use mathlib.Core.Path.{◌≡◌, sym, ◌∙◌}
use mathlib.Core.Bool.{Bool, true}
use mathlib.Core.List.{List}
use Prim.Native.Nat.{ℕ, suc, pred, ◌+◌, ◌≤◌, ◌<◌}
use native.Mathlib.Omega.{arith}
use borrow.Author.Tests.{eq-eqb, ne_eqb}
use lib.Dec.{eqb}
use Rattle.laws.specs.Lowest.{lowest, None}
use Rattle.laws.proofs.LowestLaws.{none_next, lowest_found, lowest_nothing}
use Rattle.refusal.specs.declared.Refusal.{Refusal}
use Rattle.refusal.specs.Order.{refusal}
use Rattle.header.specs.declared.Definition.{Definition}
use Rattle.std.specs.Prelude.{Ok, Err, Some, None as Nothing}
use Rattle.header.specs.Places.{definition, place_after}
use Rattle.header.specs.Serving.Stages.{step_in}

-- column k starts at the place
abbrev pub stands_at : List ℕ → ℕ → ℕ → Bool
stands_at s place k = eqb (place_after s (pred k)) place

-- `at` is where column k + 1 starts, the k before it start elsewhere
module _ (s : List ℕ) (place k : ℕ) (h : None (stands_at s place) k) where
  module _ (at : ℕ) (e : at ≡ place_after s k) where
    pub not_here : (place ≡ at → ⊥) → None (stands_at s place) (k + 1)
    not_here n = none_next (stands_at s place) k h (ne_eqb (place_after s k) place (λ q. n (sym q ∙ sym e)))

    pub step_column : (n : ℕ) (d : Definition) → k < n → place ≡ at → d ≡ definition s place → Ok (Some d) ≡ step_in s n place
    unfolding step_in
    step_column n d l p q =
        let t : stands_at s place (suc k) ≡ true = eq-eqb (place_after s k) place (sym e ∙ sym p) in
        rw (lowest_found (stands_at s place) n k l h t, q)

  -- after the last
  module _ (n after : ℕ) (a : n ≤ k) (b : k ≤ n) (e : after ≡ place_after s n) where
    nothing : lowest (stands_at s place) n ≡ 0
    nothing = let q : n ≡ k = omega arith in rw q (lowest_nothing (stands_at s place) k h)

    pub step_done : place ≡ after → Ok Nothing ≡ step_in s n place
    unfolding step_in
    step_done p = rw (nothing, ← e, eq-eqb place after p)

    pub step_none : (r : Refusal) → (place ≡ after → ⊥) → r ≡ refusal 13 place → Err r ≡ step_in s n place
    unfolding step_in
    step_none r p q = rw (nothing, ← e, ne_eqb place after p, q)
