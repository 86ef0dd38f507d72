-- What the tests' answers say of the successor as a function on sides.
use mathlib.Core.Path.{◌≡◌, sym, ap, ◌∙◌}
use mathlib.Core.Bool.{Bool, true, false, cond}
use mathlib.Core.List.{List}
use Prim.Native.Nat.{ℕ, suc, ◌+◌, ◌*◌, ◌≤◌, ◌<◌}
use native.Mathlib.Numerals.{add-one}
use lib.Dec.{eqb}
use native.Mathlib.Omega.{arith}
use borrow.Author.Tests.{ltb-false}
use Rattle.laws.specs.Sums.{Into, Inj}
use Rattle.laws.specs.Orbit.{entry, Starts, first_doubled}
use Rattle.laws.specs.Buffer.{front}
use Rattle.laws.specs.Marks.{zeros, owner_at}
use Rattle.laws.proofs.LowestLaws.{bool_cases}
use Rattle.laws.proofs.BufferLaws.{front_over}
use Rattle.laws.proofs.MarkLaws.{single, over_front}
use Rattle.refusal.specs.declared.Refusal.{Refusal}
use Rattle.refusal.specs.Order.{fine, lowest_of}
use Rattle.refusal.proofs.OrderLaws.{all_passed}
use Rattle.side.specs.Edges.{Edges, side_count, outside, right, left}
use Rattle.side.specs.Successor.{Successor, successor, side_of, after}
use Rattle.std.specs.Prelude.{Ok, Err}
use Rattle.side.proofs.SideLaws.{not-outside, Sound, successor_sound}
use Rattle.tile.specs.Columns.{Tile, E, R, sides, side_with, start_side}
use Rattle.tile.specs.Check.{refused_side, edge_side_refusal}
use Rattle.tile.specs.Serving.Stages.{Paintable, taken_ring, owners_painted, owners_left}

-- a side that is not refused has a successor among the sides
sound_goes : (n s : ℕ) (c : Successor) → Sound n c → (refused_side s c).number ≤ 0 → (0 < side_of c) × (side_of c ≤ n)
sound_goes n s (Ok u) h e = h
sound_goes n s (Err k) h e = absurd (omega (arith, h.0))

pub goes : (t : Edges) → lowest_of (edge_side_refusal t) (side_count t) ≡ fine → Into (after t) (side_count t) (side_count t)
goes t e k a b =
    sound_goes (side_count t) k (successor t k) (successor_sound t k)
    (ltb-false 0 (edge_side_refusal t k).number ((all_passed (edge_side_refusal t) (side_count t) (ap (λ (r : Refusal). r.number) e)).fails k a b))

-- exactly one predecessor: no two sides have one successor
pub apart : (t : Edges) → lowest_of (edge_side_refusal t) (side_count t) ≡ fine → first_doubled (after t) (side_count t) ≡ 0
    → Inj (after t) (side_count t)
apart t e d = single (after t) (side_count t) (goes t e) d

-- ---- the rings' starts
start_cases : (m e : ℕ) (x y : Bool) → e ≤ m → cond x (right e) (cond y (left e) 0) ≤ 2 * m
start_cases m e true y h = omega arith
start_cases m e false true h = omega arith
start_cases m e false false h = omega arith

pub side_with_within : (m : ℕ) (rf lf : List ℕ) (f e : ℕ) → side_with m rf lf f e ≤ 2 * m
side_with_within m rf lf f e =
    bool_cases (outside m e)
    (λ o. rw o (omega arith))
    (λ o. rw o (start_cases m e (eqb (entry rf e) f) (eqb (entry lf e) f) (not-outside m e o).1))

pub start_within : (t : Tile) (r : ℕ) → start_side t r ≤ sides t
unfolding start_side
start_within t r = side_with_within (E t) t.edg.right_face t.edg.left_face (entry t.fac_id r) (entry t.start_edge r)

-- what the painting is handed, read once
pub record Painting (t : Tile) : Type 0 where
  pub into : Into (after t.edg) (sides t) (sides t)
  pub inj : Inj (after t.edg) (sides t)
  pub starts : Starts (sides t) (start_side t) (R t)

pub painting : (t : Tile) → Paintable t → Painting t
painting t p = record { into = goes t.edg p.0; inj = apart t.edg p.0 p.1; starts = λ r u v. start_within t r }

-- ---- the marks where the painting stops: at a row that is taken, or after the last
module _ (t : Tile) (d m m₀ : List ℕ) (p : m₀ ≡ front zeros (sides t) d) where
  pub stopped_at : (r : ℕ) → m ≡ front (owner_at (after t.edg) (sides t) (start_side t) r) (sides t) m₀
      → r + 1 ≡ taken_ring t → m ≡ owners_painted t d
  unfolding owners_painted
  stopped_at r q e =
      let z : taken_ring t ≡ suc r = sym e ∙ add-one r in
      rw z (over_front (owner_at (after t.edg) (sides t) (start_side t) r) zeros (sides t) d m₀ m p q)

  pub stopped_last : m ≡ front (owner_at (after t.edg) (sides t) (start_side t) (R t)) (sides t) m₀
      → 0 ≡ taken_ring t → m ≡ owners_painted t d
  unfolding owners_painted
  stopped_last q e = rw (← e) (over_front (owner_at (after t.edg) (sides t) (start_side t) (R t)) zeros (sides t) d m₀ m p q)

-- the marks after the painting, where no row was taken
pub all_painted : (t : Tile) (d m : List ℕ) → taken_ring t ≡ 0 → m ≡ owners_painted t d → m ≡ owners_left t d
unfolding owners_painted
all_painted t d m z e = rw z at e

-- what is painted is written over the sides, and nowhere else
pub painted_over : (t : Tile) (d m : List ℕ) → m ≡ owners_painted t d → front zeros (sides t) m ≡ front zeros (sides t) d
unfolding owners_painted
painted_over t d m e = rw e (front_over _ _ (sides t) d)
