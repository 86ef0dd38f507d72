-- What the code that reads coordinate after coordinate needs, over the width: where a coordinate lies, what a first and a
-- further one do to the rectangle, and how the reading ends.
use mathlib.Core.Path.{◌≡◌, refl, sym, ap, ◌∙◌}
use mathlib.Core.Bool.{Bool, true, false, not, ◌&&◌, cond}
use Rattle.std.specs.Prelude.{Some, None, Ok, Err}
use mathlib.Core.List.{List}
use Prim.Native.Nat.{ℕ, suc, ◌+◌, ◌*◌, ◌/◌, ◌%◌, ◌≤◌, ◌<◌}
use native.Mathlib.Omega.{arith}
use native.Mathlib.Nat.{div-eq_of_lt, le-div_iff_mul-le, one-mul, zero-mul, mul-div_cancel}
use native.Mathlib.Numerals.{add-one}
use lib.ListN.{length}
use lib.Ieee.{Float, Format, binary32, binary64, lt, hid, ones, top, of_bits}
use lib.Ieee.Scale.{finite}
use borrow.Author.Tests.{eq-eqb, ne_eqb}
use Rattle.laws.specs.Lowest.{None as NoneOf}
use Rattle.laws.proofs.LowestLaws.{none_start, none_next, lowest_found, lowest_nothing}
use Rattle.laws.proofs.ForemostLaws.{foremost_one}
use Rattle.refusal.specs.Order.{refusal}
use Rattle.number.specs.declared.Order.{Order}
use Rattle.number.specs.Bytes.{number}
use Rattle.bounds.specs.declared.Parts.{Parts}
use Rattle.bounds.specs.declared.Parts.TheVariants.{Two, Three}
use Rattle.bounds.specs.Bounds.{Rectangle, at, part_count, part_bytes, Coordinates, coordinates, count}
use Rattle.bounds.specs.Bounds.{part_at, fit_at, xOf, yOf, unfit, rectangle_of, not_finite_or_none, bounds_of, point, point_at, around, extended}
use Rattle.bounds.specs.Bounds.{Reached}
use Rattle.bounds.proofs.FiniteLaws.{finite_below, finite_above}

-- bytes for exactly n coordinates hold n
coordinate_pos : (f : Format) (p : Parts) → 0 < part_count p * part_bytes f
coordinate_pos binary32 Two = omega arith
coordinate_pos binary32 Three = omega arith
coordinate_pos binary64 Two = omega arith
coordinate_pos binary64 Three = omega arith

pub count_exact : (f : Format) (p : Parts) (o : Order) (s : List ℕ) (n : ℕ) → length s ≡ n * (part_count p * part_bytes f)
    → count (coordinates f p o s) ≡ n
unfolding count
count_exact f p o s n e = rw e (mul-div_cancel n (coordinate_pos f p))

-- what a point says of the x and y that it is made of
made : (x y u v : Float) (a b : Bool) → cond a (cond b (at x y) None) None ≡ at u v → (not (a && b) ≡ false) × (x ≡ u) × (y ≡ v)
made x y u v true true e =
    let p : ◌≡◌ {A = Float × Float} (x, y) (u, v) = cc in (refl, ap (λ (q : Float × Float). q.0) p, ap (λ (q : Float × Float). q.1) p)
made x y u v true false e = let z : ◌≡◌ {A = ℕ} 0 1 = cc in absurd (omega arith)
made x y u v false b e = let z : ◌≡◌ {A = ℕ} 0 1 = cc in absurd (omega arith)

unmade : (x y : Float) (a b : Bool) → cond a (cond b (at x y) None) None ≡ None → not (a && b) ≡ true
unmade x y true true e = let z : ◌≡◌ {A = ℕ} 0 1 = cc in absurd (omega arith)
unmade x y true false e = refl
unmade x y false b e = refl

-- a part from the pattern that was read
module _ (f : Format) (o : Order) (s : List ℕ) (place x : ℕ) (e : x ≡ number o s place (part_bytes f)) where
  pub part_fit : x % top f < ones f * hid f → Some (of_bits f x) ≡ fit_at f o s place
  unfolding fit_at part_at
  part_fit h = rw (← e, finite_below f x h)

  pub part_unfit : ones f * hid f ≤ x % top f → None ≡ fit_at f o s place
  unfolding fit_at part_at
  part_unfit h = rw (← e, finite_above f x h)

-- a coordinate from its two parts
joined : (x y u v : Float) (a b : Bool) → Some u ≡ cond a (Some x) None → Some v ≡ cond b (Some y) None
    → at u v ≡ cond a (cond b (at x y) None) None
joined x y u v true true d e = cc
joined x y u v true false d e = let z : ◌≡◌ {A = ℕ} 0 1 = cc in absurd (omega arith)
joined x y u v false b d e = let z : ◌≡◌ {A = ℕ} 0 1 = cc in absurd (omega arith)

unjoined_x : (x y : Float) (a b : Bool) → None ≡ cond a (Some x) None → None ≡ cond a (cond b (at x y) None) None
unjoined_x x y true b d = let z : ◌≡◌ {A = ℕ} 0 1 = cc in absurd (omega arith)
unjoined_x x y false b d = refl

unjoined_y : (x y : Float) (a b : Bool) → None ≡ cond b (Some y) None → None ≡ cond a (cond b (at x y) None) None
unjoined_y x y true true d = let z : ◌≡◌ {A = ℕ} 0 1 = cc in absurd (omega arith)
unjoined_y x y true false d = refl
unjoined_y x y false b d = refl

module _ (f : Format) (o : Order) (s : List ℕ) (place : ℕ) where
  pub point_fit : (u v : Float) → Some u ≡ fit_at f o s place → Some v ≡ fit_at f o s (place + part_bytes f)
      → at u v ≡ point_at f o s place
  unfolding fit_at point_at
  point_fit u v d e = joined _ _ u v _ _ d e

  pub point_unfit_x : None ≡ fit_at f o s place → None ≡ point_at f o s place
  unfolding fit_at point_at
  point_unfit_x d = unjoined_x _ _ _ _ d

  pub point_unfit_y : None ≡ fit_at f o s (place + part_bytes f) → None ≡ point_at f o s place
  unfolding fit_at point_at
  point_unfit_y d = unjoined_y _ _ _ _ d

-- no coordinate
pub bounds_none : (c : Coordinates) → length c.bytes < c.stride → Err (refusal not_finite_or_none 0) ≡ bounds_of c
unfolding bounds_of count
bounds_none c h = rw (eq-eqb (length c.bytes / c.stride) 0 (div-eq_of_lt h))

-- bytes for one at least
pub count_some : (c : Coordinates) → 0 < c.stride → c.stride ≤ length c.bytes → 0 < count c
unfolding count
count_some c p h = (le-div_iff_mul-le p).1 (rw (one-mul c.stride) h)

module _ (c : Coordinates) (i place : ℕ) (here : place ≡ i * c.stride) where
  -- the point at the place of coordinate i + 1
  same : point_at c.format c.order c.bytes place ≡ point (xOf c (suc i)) (yOf c (suc i))
  unfolding point_at xOf yOf
  same = rw here

  module _ (x y : Float) (e : point_at c.format c.order c.bytes place ≡ at x y) where
    fits : (unfit c (suc i) ≡ false) × (xOf c (suc i) ≡ x) × (yOf c (suc i) ≡ y)
    unfolding unfit
    fits = made (xOf c (suc i)) (yOf c (suc i)) x y (finite (xOf c (suc i))) (finite (yOf c (suc i))) (sym same ∙ e)

    -- a further coordinate
    pub reached_next : (r : Rectangle) → Reached c i r → Reached c (i + 1) (extended r x y)
    unfolding rectangle_of
    reached_next r h =
        record {
          fit = none_next (unfit c) i h.fit fits.0;
          bounds = rw (add-one i, h.bounds, ← fits.1, ← fits.2);
        }

  -- a coordinate that is not finite
  pub bounds_stop : point_at c.format c.order c.bytes place ≡ None → NoneOf (unfit c) i → i < count c
      → Err (refusal not_finite_or_none (i + 1)) ≡ bounds_of c
  unfolding bounds_of unfit
  bounds_stop e h l =
      let u : unfit c (suc i) ≡ true = unmade (xOf c (suc i)) (yOf c (suc i)) (finite (xOf c (suc i))) (finite (yOf c (suc i))) (sym same ∙ e) in
      rw (ne_eqb (count c) 0 (λ z. omega arith), lowest_found (unfit c) (count c) i l h u, ne_eqb (suc i) 0 (λ z. omega arith), add-one i)

-- the first coordinate
module _ (c : Coordinates) where
  start : 0 ≡ 0 * c.stride
  start = sym (zero-mul c.stride)

  pub reached_first : (x y : Float) → point_at c.format c.order c.bytes 0 ≡ at x y → Reached c 1 (around x y)
  unfolding rectangle_of
  reached_first x y e =
      let f = fits c 0 0 start x y e in
      record {
        fit = none_next (unfit c) 0 (none_start (unfit c)) f.0;
        bounds = rw (foremost_one lt (xOf c), foremost_one lt (yOf c), ← f.1, ← f.2);
      }

  pub bounds_stop_first : point_at c.format c.order c.bytes 0 ≡ None → 0 < count c
      → Err (refusal not_finite_or_none 1) ≡ bounds_of c
  bounds_stop_first e l = bounds_stop c 0 0 start e (none_start (unfit c)) l

-- all coordinates are read
pub bounds_all : (c : Coordinates) (i : ℕ) (r : Rectangle) → 0 < i → i ≡ count c → Reached c i r → Ok r ≡ bounds_of c
unfolding bounds_of
bounds_all c i r p e h =
    rw (← e, ne_eqb i 0 (λ z. omega arith), lowest_nothing (unfit c) i h.fit, h.bounds)
