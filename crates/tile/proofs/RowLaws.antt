-- The lowest row that fails, searched with a test.
use Rattle.std.proofs.Common.{◌≡◌, refl, sym, ap, Bool, true, false, ℕ, zero, suc, ◌<◌, ◌^◌, Option, Some, None, arith}
use Rattle.laws.specs.Lowest.{found, lowest}
use Rattle.laws.proofs.LowestLaws.{lowest_none, lowest_is}
use Rattle.tile.specs.Serving.Rows.{IsFirst, IsLowest}

-- where the test gives p's answers, the row is the lowest at which p holds
module _ (p : ℕ → Bool) {Gave : ℕ → Bool → Type 0} {n : ℕ} (small : n < 2 ^ 64) (says : (k : ℕ) (b : Bool) → k < 2 ^ 64 → Gave k b → b ≡ p k) where
  first_by : (r : ℕ) → IsFirst Gave n r → Some r ≡ found (lowest p n)
  first_by zero h = absurd (omega (arith, h.pos))
  first_by (suc r) h =
      sym
      (ap found
      (lowest_is p n (suc r) h.pos h.within (sym (says (suc r) true (omega (arith, h.within)) h.holds))
      (λ k a b. sym (says k false (omega (arith, h.within)) (h.below k a b)))))

  pub lowest_by : {o : Option ℕ} → IsLowest Gave n o → o ≡ found (lowest p n)
  lowest_by {o = None} h = sym (ap found (lowest_none p n (λ k a b. sym (says k false (omega arith) (h.nothing refl k a b)))))
  lowest_by {o = Some r} h = first_by r (h.row r refl)
