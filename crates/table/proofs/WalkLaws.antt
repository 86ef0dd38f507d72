-- The walk over a row's columns: one that stopped, one that came through, and the places that it leaves.
use mathlib.Core.Path.{◌≡◌, refl, sym, ap, ◌∙◌}
use mathlib.Core.Logic.{by_cases}
use mathlib.Core.List.{List}
use Prim.Native.Nat.{ℕ, zero, suc, pred, ◌+◌, ◌≤◌, ◌<◌}
use native.Mathlib.Omega.{arith}
use native.Mathlib.Numerals.{add-one}
use native.Mathlib.Decide.{dec_le}
use lib.ListN.{length, get_or, set, length-set}
use lib.Seq.{get_or-set_same, get_or-set_other}
use Rattle.laws.proofs.LowestLaws.{bool_cases}
use Rattle.laws.proofs.TestLaws.{clash}
use Rattle.header.specs.declared.Layout.{Layout}
use Rattle.std.specs.Prelude.{Ok, Err}
use Rattle.opening.specs.Opening.{needs_index}
use Rattle.table.specs.Rows.{Reach, field_end, column_at, onward, reach, place_of, column_place}
use Rattle.table.specs.Plans.{keep, places_left}
use Rattle.table.proofs.FieldLaws.{field_within}

-- a walk that came past one more column came past those before
pub came : (x : Reach) (f : ℕ → Reach) (p : ℕ) → onward x f ≡ Ok p → x ≡ Ok (place_of x)
came (Ok q) f p e = refl
came (Err z) f p e = clash (cc)

module _ (r : ℕ → Reach) (g : ℕ → ℕ → Reach) (step : (n : ℕ) → r (suc n) ≡ onward (r n) (g n)) where
  -- a walk that goes on from where it came, and that stopped, stays so
  pub stays_so : (x : Reach) → ((f : ℕ → Reach) → onward x f ≡ x) → (j : ℕ) → r j ≡ x → (n : ℕ) → j ≤ n → r n ≡ x
  stays_so x h j e zero k = let q : 0 ≡ j = omega arith in ap r q ∙ e
  stays_so x h j e (suc n) k =
      by_cases (dec_le j n)
      (λ c. step n ∙ ap (λ (y : Reach). onward y (g n)) (stays_so x h j e n c) ∙ h (g n))
      (λ c. let q : suc n ≡ j = omega arith in ap r q ∙ e)

  -- one that came through has come past each column
  pub passed_so : (n p : ℕ) → r n ≡ Ok p → (j : ℕ) → j ≤ n → r j ≡ Ok (place_of (r j))
  passed_so zero p e j i = let q : j ≡ 0 = omega arith in rw q (e ∙ ap (λ (x : Reach). Ok (place_of x)) (sym e))
  passed_so (suc n) p e j i =
      by_cases (dec_le j n)
      (λ c. passed_so n (place_of (r n)) (came (r n) (g n) p (sym (step n) ∙ e)) j c)
      (λ c. let q : j ≡ suc n = omega arith in rw q (e ∙ ap (λ (x : Reach). Ok (place_of x)) (sym e)))

-- ---- the places that a walk leaves
module _ (places : List ℕ) (n : ℕ) where
  length-keep : (x : Reach) → length (keep places n x) ≡ length places
  length-keep (Ok p) = length-set places n p
  length-keep (Err z) = refl

  keep_other : (x : Reach) (m : ℕ) → (m ≡ n → ⊥) → get_or (keep places n x) m 0 ≡ get_or places m 0
  keep_other (Ok p) m h = get_or-set_other places n m p 0 h
  keep_other (Err z) m h = refl

module _ (r : ℕ → Reach) (old : List ℕ) where
  pub length_left : (n : ℕ) → length (places_left r n old) ≡ length old
  length_left zero = refl
  length_left (suc n) = length-keep (places_left r n old) n (r n) ∙ length_left n

  -- that of the next column is kept
  pub left_next : (j p : ℕ) (places : List ℕ) → r j ≡ Ok p → places ≡ places_left r j old → set places j p ≡ places_left r (j + 1) old
  left_next j p places e f = rw (add-one j, e, f)

  -- nothing more is kept where the walk stopped
  pub left_stays : (x : Reach) → ((places : List ℕ) (k : ℕ) → keep places k x ≡ places) → (j : ℕ) → ((k : ℕ) → j ≤ k → r k ≡ x)
      → (n : ℕ) → j ≤ n → places_left r n old ≡ places_left r j old
  left_stays x z j so zero h = let q : 0 ≡ j = omega arith in ap (λ (k : ℕ). places_left r k old) q
  left_stays x z j so (suc n) h =
      by_cases (dec_le j n)
      (λ c. rw (so n c) (z (places_left r n old) n ∙ left_stays x z j so n c))
      (λ c. let q : suc n ≡ j = omega arith in ap (λ (k : ℕ). places_left r k old) q)

  -- A COLUMN THAT THE WALK CAME TO has its place kept
  pub left_at : (n k p : ℕ) → 0 < k → k ≤ n → n ≤ length old → r (pred k) ≡ Ok p → get_or (places_left r n old) (pred k) 0 ≡ p
  left_at zero k p z h m e = absurd (omega arith)
  left_at (suc n) k p z h m e =
      by_cases (dec_le k n)
      (λ c. keep_other (places_left r n old) n (r n) (pred k) (λ q. omega arith) ∙ left_at n k p z c (omega arith) e)
      (λ c.
      let q : pred k ≡ n = omega arith in
      let f : r n ≡ Ok p = ap r (sym q) ∙ e in
      rw (q, f) (get_or-set_same (places_left r n old) n p 0 (omega (arith, length_left n))))

module _ (s : List ℕ) (l : Layout) (start end : ℕ) where
  -- a walk by the layout that stopped stays so, and one that came through has come past each column
  pub stays : (x : Reach) → ((f : ℕ → Reach) → onward x f ≡ x) → (j : ℕ) → reach s l start end j ≡ x → (n : ℕ) → j ≤ n
      → reach s l start end n ≡ x
  stays = stays_so (reach s l start end) (λ n p. field_end l.order s end (column_at l (suc n)) p) (λ n. refl)

  pub passed : (n p : ℕ) → reach s l start end n ≡ Ok p → (j : ℕ) → j ≤ n → reach s l start end j ≡ Ok (place_of (reach s l start end j))
  passed = passed_so (reach s l start end) (λ n p. field_end l.order s end (column_at l (suc n)) p) (λ n. refl)

  within_go : (x : Reach) (n p : ℕ) → reach s l start end n ≡ x → onward x (λ q. field_end l.order s end (column_at l (suc n)) q) ≡ Ok p
      → end ≤ length s → ((q : ℕ) → reach s l start end n ≡ Ok q → q ≤ end) → p ≤ end
  within_go (Ok q) n p e f k h = field_within l.order s end (column_at l (suc n)) q p (h q e) k f
  within_go (Err z) n p e f k h = clash (cc)

  -- A WALK STAYS WITHIN ITS ROW
  pub reach_within : (n p : ℕ) → start ≤ end → end ≤ length s → reach s l start end n ≡ Ok p → p ≤ end
  reach_within zero p h k e = let q : start ≡ p = cc in omega arith
  reach_within (suc n) p h k e = within_go (reach s l start end n) n p refl e k (λ q u. reach_within n q h k u)

  -- and so does the place of each column
  place_go : (x : Reach) → ((p : ℕ) → x ≡ Ok p → p ≤ end) → place_of x ≤ end
  place_go (Ok p) h = h p refl
  place_go (Err z) h = omega arith

  pub place_within : (k : ℕ) → start ≤ end → end ≤ length s → column_place s l start end k ≤ end
  unfolding column_place
  place_within k h i =
      bool_cases (needs_index l)
      (λ t. rw t (place_go (reach s l start end (pred k)) (λ p e. reach_within (pred k) p h i e)))
      (λ t. rw t (omega arith))
