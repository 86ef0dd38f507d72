-- A HEADER IS REFUSED WITH n AT p EXACTLY WHEN a test fails so, at the place that the paper names, and all earlier ones hold.
use mathlib.Core.Path.{◌≡◌, sym, ap, ◌∙◌}
use mathlib.Core.Logic.{◌↔◌}
use mathlib.Core.Bool.{false}
use mathlib.Core.List.{List}
use Rattle.std.specs.Prelude.{Err}
use Prim.Native.Nat.{ℕ}
use borrow.Author.Tests.{eqb-false, ne_eqb}
use lib.Dec.{eqb}
use Rattle.laws.proofs.LowestLaws.{bool_cases}
use Rattle.laws.proofs.TestLaws.{clash}
use Rattle.refusal.specs.declared.Refusal.{Refusal}
use Rattle.refusal.specs.Order.{refusal, unless}
use Rattle.grammar.specs.Words.{Reading}
use Rattle.header.specs.Judge.{header_refusal}
use Rattle.header.specs.Layouts.{handed_on, header_of}
use Rattle.header.specs.Words.{AcceptedHeader}
use Rattle.header.specs.Refusals.{RefusedWith}
use Rattle.header.proofs.InOrder.{first_fails_exactly}
use Rattle.header.proofs.AcceptedExactly.{accepted_exactly}

-- the answer is a refusal exactly where a number is refused
pub refused-number : {T : Type 0} → (q r : Refusal) (x : T) → (unless q x ≡ Err r) ↔ ((q ≡ r) × (r.number ≡ 0 → ⊥))
refused-number q r x = (
  λ e.
      bool_cases (eqb q.number 0) (λ c. let w = rw c at e in clash (cc))
      (λ c. let w = rw c at e in let s : q ≡ r = cc in (s, λ z. eqb-false q.number 0 c (ap (λ (y : Refusal). y.number) s ∙ z))),
  λ h. rw (h.0, ne_eqb r.number 0 h.1),
)

module _ (file : List ℕ) (n p : ℕ) where
  pub refused-exactly : ((header_refusal file ≡ refusal n p) × (n ≡ 0 → ⊥)) ↔ RefusedWith file n p
  refused-exactly = first_fails_exactly file n p

  pub answer_refused_exactly : (header_of file ≡ Err (refusal n p)) ↔ RefusedWith file n p
  unfolding header_of
  answer_refused_exactly = (
    λ e. refused-exactly.0 ((refused-number (header_refusal file) (refusal n p) (handed_on file)).0 e),
    λ w. (refused-number (header_refusal file) (refusal n p) (handed_on file)).1 (refused-exactly.1 w),
  )

-- the test that every operation over a header asks first
pub refused_test : (file : List ℕ) (n p : ℕ) → RefusedWith file n p → eqb (header_refusal file).number 0 ≡ false
refused_test file n p w = let r = (refused-exactly file n p).1 w in rw r.0 (ne_eqb n 0 r.1)

-- no header is refused in two ways, and none is both accepted and refused
pub refused_once : (file : List ℕ) (n p m q : ℕ) → RefusedWith file n p → RefusedWith file m q → (n ≡ m) × (p ≡ q)
refused_once file n p m q a b =
    let e = sym ((refused-exactly file n p).1 a).0 ∙ ((refused-exactly file m q).1 b).0 in
    (ap (λ (r : Refusal). r.number) e, ap (λ (r : Refusal). r.place) e)

pub not_accepted_and_refused : (file : List ℕ) (h : Reading) (n p : ℕ) → AcceptedHeader file h → RefusedWith file n p → ⊥
not_accepted_and_refused file h n p a w =
    let r = (refused-exactly file n p).1 w in
    r.1 (ap (λ (x : Refusal). x.number) (sym r.0) ∙ (accepted_exactly file).1 (h, a))
