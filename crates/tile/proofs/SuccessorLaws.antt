-- What an answer of the successor says of a side.
use Rattle.std.proofs.Common.{◌≡◌, refl, ap, ◌∙◌, ℕ, ◌≤◌, ◌<◌, Ok, Err, arith}
use Rattle.std.specs.Result.{result_unwrap_or}
use Rattle.refusal.specs.Kinds.{number_of}
use Rattle.refusal.specs.declared.Kind.{Kind}
use Rattle.refusal.specs.Order.{refusal}
use Rattle.side.specs.Edges.{Edges, side_count}
use Rattle.side.specs.Successor.{Successor, successor, side_of, after}
use Rattle.side.proofs.SideLaws.{Sound, successor_sound}
use Rattle.tile.specs.Check.{edge_side_refusal}

module _ (t : Edges) (s : ℕ) where
  sound_side : (c : Successor) (u : ℕ) → Sound (side_count t) c → c ≡ Ok u → (0 < u) × (u ≤ side_count t)
  sound_side c u h e = rw e at h

  pub side_in : (u : ℕ) → successor t s ≡ Ok u → (0 < u) × (u ≤ side_count t)
  side_in u e = sound_side (successor t s) u (successor_sound t s) e

  pub side_fine : (u : ℕ) → successor t s ≡ Ok u → (edge_side_refusal t s).number ≡ 0
  side_fine u e = rw e

  pub side_refused : (k : Kind) → successor t s ≡ Err k → edge_side_refusal t s ≡ refusal (number_of k) s
  side_refused k e = rw e

  sound_kind : (c : Successor) (k : Kind) → Sound (side_count t) c → c ≡ Err k → 22 ≤ number_of k
  sound_kind c k h e = (rw e at h).0

  pub refused-number : (k : Kind) → successor t s ≡ Err k → number_of k ≡ 0 → ⊥
  refused-number k e z = omega (arith, sound_kind (successor t s) k (successor_sound t s) e)

-- 0 where there is none
unwrapped : (c : Successor) → result_unwrap_or c 0 ≡ side_of c
unwrapped (Ok u) = refl
unwrapped (Err k) = refl

pub or_none : (t : Edges) (s : ℕ) (c : Successor) (u : ℕ) → c ≡ successor t s → u ≡ result_unwrap_or c 0 → u ≡ after t s
or_none t s c u e f = f ∙ unwrapped c ∙ ap side_of e
