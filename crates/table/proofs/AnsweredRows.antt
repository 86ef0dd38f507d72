-- Where a row lies, by what its judgement answers in code.
use mathlib.Core.Path.{◌≡◌}
use Prim.Native.Nat.{ℕ}
use lib.Dec.{eqb}
use Rattle.std.specs.Prelude.{Ok, Err}
use Rattle.laws.proofs.LowestLaws.{bool_cases}
use Rattle.laws.proofs.TestLaws.{clash}
use Rattle.refusal.specs.declared.Refusal.{Refusal}
use Rattle.refusal.specs.Order.{answered}
use Rattle.table.specs.Rows.{between, unless_refused}

pub unless_err : (q r : Refusal) (start end : ℕ) → answered q ≡ Err r → unless_refused q start end ≡ Err r
unless_err q r start end e = bool_cases (eqb q.number 0) (λ t. let w = rw t at e in clash (cc)) (λ t. let w = rw t at e in rw t (cc))

pub unless_ok : (q : Refusal) (start end : ℕ) → answered q ≡ Ok tt → unless_refused q start end ≡ between start end
unless_ok q start end e = bool_cases (eqb q.number 0) (λ t. rw t) (λ t. let w = rw t at e in clash (cc))
