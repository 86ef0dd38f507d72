-- The walk: one turn of the counting loop, what the count decides, and the tests before it.
use Rattle.std.proofs.Common.{◌≡◌, refl, sym, ap, ◌∙◌, Bool, true, false, not, ◌&&◌, eqb, List, ℕ, suc, ◌+◌, ◌-◌, ◌≤◌, ◌<◌, Ok, Err, add-one, arith}
use borrow.Author.Tests.{eq-eqb, ne_eqb, lt-ltb, le-ltb}
use Rattle.laws.proofs.TestLaws.{clash}
use Rattle.side.specs.Edges.{Edges, outside}
use Rattle.side.specs.Successor.{successor}
use Rattle.refusal.specs.declared.Refusal.{Refusal}
use Rattle.refusal.specs.declared.Kind.{Kind}
use Rattle.refusal.specs.Kinds.{number_of}
use Rattle.refusal.specs.Order.{refusal}
use Rattle.tile.specs.Columns.{Tile, R, start_side, empty_start}
use Rattle.tile.specs.Check.{sizes_wrong}
use Rattle.tile.specs.Serving.Stages.{in_full, path_written}
use Rattle.tile.specs.Walk.{Walked, Moves, came_back, still_open, stuck, stuck_at, moves_from, moves, walked, walk_of, sides_written}

module _ (t : Edges) (a n s k : ℕ) (x : Moves) (e : x ≡ moves_from t a (n - k) s k) where
  opened : k < n → x ≡ moves_from t a (suc (n - (k + 1))) s k
  opened h = let z : n - k ≡ suc (n - (k + 1)) = omega arith in e ∙ ap (λ (m : ℕ). moves_from t a m s k) z

  pub cannot_move : (w : Kind) (q : Refusal) → k < n → successor t s ≡ Err w → q ≡ stuck_at (number_of w) s → stuck q ≡ x
  cannot_move w q h f g = ap stuck g ∙ sym (rw f at (opened h))

  pub back_home : (u : ℕ) → k < n → successor t s ≡ Ok u → u ≡ a → came_back (k + 1) ≡ x
  back_home u h f z = rw add-one (sym (rw (f, eq-eqb u a z) at (opened h)))

  pub moves_on : (u : ℕ) → k < n → successor t s ≡ Ok u → (u ≡ a → ⊥) → x ≡ moves_from t a (n - (k + 1)) u (k + 1)
  moves_on u h f z = rw (f, ne_eqb u a z, ← add-one k) at (opened h)

  pub stays_open : n ≤ k → still_open ≡ x
  stays_open h = let z : n - k ≡ 0 = omega arith in sym (rw z at e)

-- ---- the walk from a start side: what the count decides
module _ (t : Edges) (a r space : ℕ) where
  pub too_short : (k : ℕ) (q : Refusal) → moves t a ≡ came_back k → space < k → q ≡ refusal 14 k → Err q ≡ walked r space (moves t a)
  too_short k q e h g = rw (e, g, lt-ltb space k h)

  pub has_room : (k : ℕ) → moves t a ≡ came_back k → k ≤ space → Ok k ≡ walked r space (moves t a)
  has_room k e h = rw (e, le-ltb space k h)

-- the count says how many steps, or refuses
pub steps_back : (r k : ℕ) (m : Moves) → in_full r m ≡ Ok k → m ≡ came_back k
steps_back r k (came_back j) e = cc
steps_back r k still_open e = clash (cc)
steps_back r k (stuck q) e = clash (cc)

pub refused_anyway : (r space : ℕ) (q : Refusal) (m : Moves) → in_full r m ≡ Err q → Err q ≡ walked r space m
refused_anyway r space q (came_back j) e = clash (cc)
refused_anyway r space q still_open e = sym e
refused_anyway r space q (stuck p) e = sym e

-- ---- the walk from a ring row: the tests before it, in order
and_false : (b : Bool) → (b && false) ≡ false
and_false true = refl
and_false false = refl

written_is : (t : Tile) (r : ℕ) (w : Walked) (d : List ℕ) → path_written t.edg (start_side t r) w d ≡ sides_written t r w d
written_is t r (Ok k) d = refl
written_is t r (Err q) d = refl

module _ (t : Tile) (r space : ℕ) where
  pub walk_sizes : (q : Refusal) → sizes_wrong t ≡ true → q ≡ refusal 15 0 → Err q ≡ walk_of t r space
  unfolding walk_of
  walk_sizes q w g = rw (w, g)

  module _ (w : sizes_wrong t ≡ false) where
    pub walk_no_row : (q : Refusal) → outside (R t) r ≡ true → q ≡ refusal 13 r → Err q ≡ walk_of t r space
    unfolding walk_of
    walk_no_row q o g = rw (w, o, g)

    module _ (o : outside (R t) r ≡ false) (a : ℕ) (s : a ≡ start_side t r) where
      module _ (z : a ≡ 0) where
        pub walk_empty : empty_start t r ≡ true → Ok 0 ≡ walk_of t r space
        unfolding walk_of
        walk_empty m = rw (w, o, m, sym s ∙ z)

        pub walk_no_start : empty_start t r ≡ false → (q : Refusal) → q ≡ refusal 29 r → Err q ≡ walk_of t r space
        unfolding walk_of
        walk_no_start m q g = rw (w, o, m, sym s ∙ z, g)

      module _ (z : a ≡ 0 → ⊥) where
        has_start : eqb (start_side t r) 0 ≡ false
        has_start = ne_eqb (start_side t r) 0 (λ k. z (s ∙ k))

        pub walk_on : (v : Walked) → v ≡ walked r space (moves t.edg a) → v ≡ walk_of t r space
        unfolding walk_of
        walk_on v h = rw (w, o, has_start, and_false (not (empty_start t r))) (h ∙ ap (λ (b : ℕ). walked r space (moves t.edg b)) s)

        pub walk_written : (v : Walked) (d c : List ℕ) → c ≡ path_written t.edg a v d → c ≡ sides_written t r v d
        walk_written v d c h = h ∙ ap (λ (b : ℕ). path_written t.edg b v d) s ∙ written_is t r v d
