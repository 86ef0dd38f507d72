-- In every state that a reading reaches the numbers are small enough that no sum or product wraps.
use mathlib.Core.Path.{◌≡◌, refl, ap}
use Prim.Native.Nat.{ℕ, ◌^◌, ◌≤◌, ◌<◌}
use native.Mathlib.Omega.{arith}
use native.Mathlib.Numerals.{add-one}
use native.Mathlib.Nat.{pow-suc, pow-le-pow_right}
use mathlib.Core.Bool.{Bool, true, false, cond}
use lib.Dec.{lit<, ltb}
use borrow.Author.Tests.{ltb-true}
use Rattle.std.specs.Prelude.{Some, None}
use Rattle.std.proofs.lemmas.Bool.Decides.{nat_tests}
use Rattle.wave.specs.Words.{most_whole, most_part}
use Rattle.wave.specs.Height.{Step, worth_of, step_of, Roomy, OneDigit}
use Rattle.wave.specs.declared.Kind.{Kind}
use Rattle.wave.specs.declared.Kind.TheVariants.{Digit, Point, Space, Other}
use Rattle.wave.specs.declared.State.{State}
use Rattle.wave.specs.declared.State.TheVariants.{Whole, Part, Spaces}

-- the whole digits say less than a million
pub ten_room : (n : ℕ) → n ≤ most_whole → 10 ^ n ≤ 1000000
ten_room n h = pow-le-pow_right {n = 10} (lit< tt) {i = n} {j = most_whole} h

-- a digit after the point says at most 900 thousandths
worth_room : (d n : ℕ) → d ≤ 9 → worth_of d n ≤ 900
worth_room d n h = grind (arith, nat_tests)

-- the state after a step, if there is one, is as small
abbrev pub RoomyStep : Step → Type 0
RoomyStep (Some st) = Roomy st
RoomyStep None = Unit {0}

on_cond : (b : Bool) (x : Step) → (b ≡ true → RoomyStep x) → RoomyStep (cond b x None)
on_cond true x h = h refl
on_cond false x h = tt

pub roomy_step : (st : State) (k : Kind) → Roomy st → OneDigit k → RoomyStep (step_of st k)
roomy_step (Whole n v) (Digit d) f s =
    on_cond (ltb n most_whole) _ (λ t.
    let h : n < most_whole = ltb-true n most_whole t in
    (omega arith, omega (arith, f.1, s, ap (λ (j : ℕ). 10 ^ j) (add-one n), pow-suc 10 n)))
roomy_step (Whole n v) Point f s = on_cond (ltb 0 n) _ (λ t. omega (arith, f.1, ten_room n f.0))
roomy_step (Whole n v) Space f s = on_cond (ltb 0 n) _ (λ t. tt)
roomy_step (Whole n v) Other f s = tt
roomy_step (Part n v) (Digit d) f s =
    on_cond (ltb n most_part) _ (λ t.
    let h : n < most_part = ltb-true n most_part t in
    omega (arith, f.1, s, worth_room d n s))
roomy_step (Part n v) Point f s = tt
roomy_step (Part n v) Space f s = on_cond (ltb 0 n) _ (λ t. tt)
roomy_step (Part n v) Other f s = tt
roomy_step (Spaces v) (Digit d) f s = tt
roomy_step (Spaces v) Point f s = tt
roomy_step (Spaces v) Space f s = f
roomy_step (Spaces v) Other f s = tt
