-- Tests in order as code has them: each is asked by `?`, so the first that refuses is the answer, and the last one answers for itself.
use Rattle.std.proofs.Common.{◌≡◌, sym, ap, ◌∙◌, ℕ, ◌+◌, Ok, Err, Option, Some, None, add-one}
use Rattle.laws.specs.Lowest.{found}
use Rattle.laws.proofs.LowestLaws.{bool_cases}
use Rattle.refusal.specs.declared.Refusal.{Refusal}
use Rattle.refusal.specs.Order.{Answer, answered, refused_at, fine, located, first}
use Rattle.refusal.proofs.OrderLaws.{first_passes, first-refuses, located_passes}
use Rattle.refusal.proofs.AnswerLaws.{answer_passes, answer_refuses, refused_at-found, ok-fine}
use lib.Dec.{eqb}
use borrow.Author.Tests.{eqb-true, eqb-false}

-- the lowest row that is found, refused
pub at_found : (n p : ℕ) (o : Option ℕ) (x : Answer) → (n ≡ 0 → ⊥) → x ≡ refused_at n o → o ≡ found p → x ≡ answered (located n p)
at_found n p o x u e f = e ∙ ap (refused_at n) f ∙ refused_at-found n p u

module _ (a b : Refusal) where
  pub refuses : (x : Answer) (r : Refusal) → x ≡ answered a → x ≡ Err r → Err r ≡ answered (first a b)
  refuses x r e h = sym (answer_refuses a b r (sym e ∙ h))

  pub passes : (x y : Answer) → x ≡ answered a → x ≡ Ok tt → y ≡ answered b → y ≡ answered (first a b)
  passes x y e h f = f ∙ sym (answer_passes a b (sym e ∙ h))

-- nothing comes after the last
pub ends : (a : Refusal) → answered a ≡ answered (first a fine)
ends a =
    bool_cases (eqb a.number 0)
    (λ t. rw (first_passes a fine (eqb-true a.number 0 t), t))
    (λ t. rw (first-refuses a fine (eqb-false a.number 0 t)))

-- no row is found
pub none_found : (n p : ℕ) (o : Option ℕ) (x : Answer) → (n ≡ 0 → ⊥) → x ≡ refused_at n o → o ≡ found p → x ≡ Ok tt → p ≡ 0
none_found n p o x u e f h = located_passes n p u (ok-fine (located n p) (sym (at_found n p o x u e f) ∙ h))

-- a number that is found, or 0, as the code answers it
pub is_found : (k p : ℕ) → k + 1 ≡ p → Some (k + 1) ≡ found p
is_found k p e = rw (← e, add-one)

pub is_nothing : (p : ℕ) → 0 ≡ p → None ≡ found p
is_nothing p e = rw (← e)
