-- No second answer fits: two answers of the code that mean the same bounds are the same; and the bits of a bound are the
-- coordinate's own, since a finite float has one pattern.
use mathlib.Core.Path.{◌≡◌, refl, sym, ap}
use Rattle.std.specs.Prelude.{Result, Ok, Err}
use mathlib.Core.Bool.{true, not, false≢true}
use mathlib.Core.List.{List}
use Prim.Native.Nat.{ℕ, ◌+◌, ◌*◌, ◌^◌, ◌≤◌}
use native.Mathlib.Omega.{arith}
use lib.Dec.{T}
use lib.ListN.{length}
use lib.Ieee.{Float, nan, inf, fin, Format, binary32, binary64, is_nan, top, of_bits, to_bits}
use lib.Ieee.Bits.{to_bits-of_bits}
use lib.Ieee.Scale.{finite}
use Rattle.refusal.specs.declared.Refusal.{Refusal}
use Rattle.number.specs.declared.Order.{Order}
use Rattle.number.specs.Bytes.{number, AreBytes}
use Rattle.number.proofs.NumberLaws.{number_small}
use Rattle.bounds.specs.declared.Rectangle.{Rectangle as Of}
use Rattle.bounds.specs.Bounds.{Rectangle, Bounds, bounds_by, part_bytes, part_at}

-- a rectangle is no refusal, and each has one content
within_one : {r q : Rectangle} → ◌≡◌ {A = Bounds} (Ok r) (Ok q) → r ≡ q
within_one e = cc

unlike : {r : Rectangle} {q : Refusal} → ◌≡◌ {A = Bounds} (Ok r) (Err q) → ⊥
unlike e = let z : ◌≡◌ {A = ℕ} 0 1 = cc in omega arith

-- at every width whose floats have each its own value, as those of f32 and f64 have
pub one_answer : {F : Type 0} (v : F → Float) → ((x y : F) → v x ≡ v y → x ≡ y) → (a b : Result (Of F) Refusal)
    → bounds_by v a ≡ bounds_by v b → a ≡ b
one_answer v only (Ok r) (Ok q) e =
    let p = within_one e in
    let x = only r.least_x q.least_x (ap (λ (t : Rectangle). t.least_x) p) in
    let y = only r.least_y q.least_y (ap (λ (t : Rectangle). t.least_y) p) in
    let z = only r.greatest_x q.greatest_x (ap (λ (t : Rectangle). t.greatest_x) p) in
    let w = only r.greatest_y q.greatest_y (ap (λ (t : Rectangle). t.greatest_y) p) in
    λ i. Ok (record { least_x = x i; least_y = y i; greatest_x = z i; greatest_y = w i })
one_answer v only (Ok r) (Err q) e = absurd (unlike e)
one_answer v only (Err r) (Ok q) e = absurd (unlike (sym e))
one_answer v only (Err r) (Err q) e = cc

-- at f32 and f64 the map is the identity
pub bounds_itself : (r : Bounds) → bounds_by (λ x. x) r ≡ r
bounds_itself (Ok r) = refl
bounds_itself (Err q) = refl

-- ---- the bits
all_patterns : (f : Format) → 256 ^ part_bytes f ≡ 2 * top f
all_patterns binary32 = refl
all_patterns binary64 = refl

finite_number : (x : Float) → finite x ≡ true → T (not (is_nan x))
unfolding is_nan
finite_number nan e = absurd (false≢true e)
finite_number (inf s) e = absurd (false≢true e)
finite_number (fin s m d) e = tt

pub bits_kept : (f : Format) (o : Order) (s : List ℕ) (place : ℕ) → AreBytes s → place + part_bytes f ≤ length s
    → finite (part_at f o s place) ≡ true → to_bits f (part_at f o s place) ≡ number o s place (part_bytes f)
unfolding part_at
bits_kept f o s place a h e =
    to_bits-of_bits f (number o s place (part_bytes f)) (rw (all_patterns f) at (number_small o s place (part_bytes f) a h))
    (finite_number (of_bits f (number o s place (part_bytes f))) e)
