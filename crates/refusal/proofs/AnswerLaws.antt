-- What a test answers in code and the refusal that its definition gives say the same: of one test, of two in order, of the lowest row.
use Rattle.std.proofs.Common.{◌≡◌, refl, ℕ, zero, suc, Ok, Err, eq-eqb, ne_eqb, arith}
use Rattle.laws.specs.Lowest.{found}
use Rattle.refusal.specs.declared.Refusal.{Refusal}
use Rattle.refusal.specs.Order.{refusal, answered, refused_at, located, first}
use Rattle.refusal.proofs.OrderLaws.{first_passes, first-refuses, located-zero, located-at}

-- nothing is refused, or this is
pub answered-fine : (q : Refusal) → q.number ≡ 0 → answered q ≡ Ok tt
answered-fine q h = rw (eq-eqb q.number 0 h)

pub answered-refused : (q : Refusal) → (q.number ≡ 0 → ⊥) → answered q ≡ Err q
answered-refused q h = rw (ne_eqb q.number 0 h)

module _ (q : Refusal) where
  pub ok-fine : answered q ≡ Ok tt → q.number ≡ 0
  ok-fine e = grind (arith, e)

  pub err-is : (r : Refusal) → answered q ≡ Err r → q ≡ r
  err-is r e = grind (arith, e)

  pub err-refuses : (r : Refusal) → answered q ≡ Err r → q.number ≡ 0 → ⊥
  err-refuses r e z = grind (arith, e, z)

-- the lowest that is found is refused
pub refused_at-found : (n p : ℕ) → (n ≡ 0 → ⊥) → refused_at n (found p) ≡ answered (located n p)
refused_at-found n zero u = rw (located-zero n 0 refl) refl
refused_at-found n (suc p) u = rw (located-at n (suc p) (λ e. omega (arith, e)), answered-refused (refusal n (suc p)) u) refl

-- of two tests in order: one that passes leaves the answer to the rest, and one that refuses is the answer
pub answer_passes : (a b : Refusal) → answered a ≡ Ok tt → answered (first a b) ≡ answered b
answer_passes a b e = rw (first_passes a b (ok-fine a e))

pub answer_refuses : (a b r : Refusal) → answered a ≡ Err r → answered (first a b) ≡ Err r
answer_refuses a b r e = rw (first-refuses a b (err-refuses a r e)) e
