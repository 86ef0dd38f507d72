-- Numbers of a list, by a test that computes.
use mathlib.Core.Path.{◌≡◌, sym, ◌∙◌}
use mathlib.Core.Logic.{inl, inr}
use mathlib.Core.Bool.{Bool, true, false, cond, true≢false}
use mathlib.Core.List.{List, [], ◌∷◌}
use Prim.Native.Nat.{ℕ}
use borrow.Author.Tests.{eqb-true, eq-eqb}
use lib.Dec.{eqb}
use Rattle.laws.proofs.LowestLaws.{bool_cases}
use Rattle.demands.specs.Numbers.{Among}

-- a is in the list
abbrev pub has : List ℕ → ℕ → Bool
has [] a = false
has (b ∷ l) a = cond (eqb a b) true (has l a)

pub one_of : (l : List ℕ) (n a : ℕ) → n ≡ a → has l a ≡ true → Among l n
one_of [] n a e t = absurd (true≢false (sym t))
one_of (b ∷ l) n a e t = bool_cases (eqb a b) (λ c. inl (e ∙ eqb-true a b c)) (λ c. inr (one_of l n a e (rw c at t)))

abbrev pub has_all : List ℕ → List ℕ → Bool
has_all m [] = true
has_all m (a ∷ l) = cond (has m a) (has_all m l) false

pub also : (l m : List ℕ) (n : ℕ) → has_all m l ≡ true → Among l n → Among m n
also [] m n t x = elim x [ ]
also (a ∷ l) m n t (inl e) = bool_cases (has m a) (λ c. one_of m n a e c) (λ c. let w = rw c at t in absurd (true≢false (sym w)))
also (a ∷ l) m n t (inr h) = bool_cases (has m a) (λ c. also l m n (rw c at t) h) (λ c. let w = rw c at t in absurd (true≢false (sym w)))

-- 0 is in no list of refusals
pub none_zero : (l : List ℕ) → has l 0 ≡ false → (n : ℕ) → n ≡ 0 → Among l n → ⊥
none_zero [] t n z x = elim x [ ]
none_zero (a ∷ l) t n z (inl e) = let w = rw (eq-eqb 0 a (sym z ∙ e)) at t in true≢false w
none_zero (a ∷ l) t n z (inr h) =
    bool_cases (eqb 0 a) (λ c. let w = rw c at t in absurd (true≢false w)) (λ c. none_zero l (rw c at t) n z h)
