-- The laws of the foremost of g 1, .., g n, over any order with ties.
use mathlib.Core.Path.{◌≡◌, refl, sym, ap, ◌∙◌}
use mathlib.Core.Logic.{⊎_elim, ⊎_swap, by_cases}
use mathlib.Core.Bool.{Bool, true, false, cond, true≢false}
use Prim.Native.Nat.{ℕ, zero, suc, ◌≤◌, ◌<◌}
use native.Mathlib.Nat.{le_refl}
use native.Mathlib.Decide.{dec_le, dec_lt}
use native.Mathlib.Omega.{arith}
use Rattle.laws.specs.Foremost.{foremost, reversed, Ordered, Earliest}
use Rattle.laws.proofs.LowestLaws.{bool_cases}

-- an order read from its other end is an order
pub reversed_ordered : {A : Type 0} {before : A → A → Bool} {Good : A → Type 0} → Ordered before Good → Ordered (reversed before) Good
reversed_ordered o = record { asymmetric = λ a b x y e. o.asymmetric b a y x e; splits = λ a b c x y z e. ⊎_swap (o.splits c b a z y x e) }

-- of one value, that value
pub foremost_one : {A : Type 0} (before : A → A → Bool) (g : ℕ → A) → foremost before g 1 ≡ g 1
foremost_one before g = by (before (g 1) (g 1))
  where
    by : (b : Bool) → cond b (g 1) (g 1) ≡ g 1
    by true = refl
    by false = refl

module _ {A : Type 0} {before : A → A → Bool} {Good : A → Type 0} (o : Ordered before Good) where
  -- nothing stands before itself
  itself : (a : A) → Good a → before a a ≡ false
  itself a x = bool_cases (before a a) (λ h. o.asymmetric a a x x h) (λ h. h)

  -- where a stands before c and b does not, a stands before b
  ahead : (a b c : A) → Good a → Good b → Good c → before a c ≡ true → before b c ≡ false → before a b ≡ true
  ahead a b c x y z e f = ⊎_elim (λ h. h) (λ h. absurd (true≢false (sym h ∙ f))) (o.splits a b c x y z e)

  -- g 1, .., g (n + 1) from g 1, .., g n
  module _ (g : ℕ → A) (n : ℕ) (r : A) (good : (k : ℕ) → 0 < k → k ≤ suc n → Good (g k)) (h : Earliest before g n r) where
    -- a later one that stands before r stands before all earlier ones
    over : before (g (suc n)) r ≡ true → (k : ℕ) → 0 < k → k ≤ n → before (g (suc n)) (g k) ≡ true
    over e k a l =
        let z : Good r = rw (← h.attained) (good h.place h.pos (omega (arith, h.within))) in
        ahead (g (suc n)) (g k) r (good (suc n) (omega arith) (omega arith)) (good k a (omega arith)) z e (h.none_before k a l)

    more : (b : Bool) → before (g (suc n)) r ≡ b → Earliest before g (suc n) (cond b (g (suc n)) r)
    more true e = record {
      place = suc n;
      pos = omega arith;
      within = le_refl (suc n);
      attained = refl;
      none_before = λ k a l. by_cases (dec_le k n)
          (λ q. o.asymmetric (g (suc n)) (g k) (good (suc n) (omega arith) (omega arith)) (good k a l) (over e k a q))
          (λ q. let s : k ≡ suc n = omega arith in rw s (itself (g (suc n)) (good (suc n) (omega arith) (omega arith))));
      before_earlier = λ k a l. over e k a (omega arith);
    }
    more false e = record {
      place = h.place;
      pos = h.pos;
      within = omega (arith, h.within);
      attained = h.attained;
      none_before = λ k a l. by_cases (dec_le k n) (λ q. h.none_before k a q) (λ q. let s : k ≡ suc n = omega arith in rw s e);
      before_earlier = h.before_earlier;
    }

  -- THE FOREMOST IS THE EARLIEST OF THOSE THAT NOTHING STANDS BEFORE
  pub foremost_earliest : (g : ℕ → A) (n : ℕ) → 0 < n → ((k : ℕ) → 0 < k → k ≤ n → Good (g k)) → Earliest before g n (foremost before g n)
  foremost_earliest g zero p y = absurd (omega arith)
  foremost_earliest g (suc zero) p y =
      rw (foremost_one before g)
      (record {
        place = 1;
        pos = omega arith;
        within = le_refl 1;
        attained = refl;
        none_before = λ k a l. let s : k ≡ 1 = omega arith in rw s (itself (g 1) (y 1 (omega arith) (le_refl 1)));
        before_earlier = λ k a l. absurd (omega arith);
      })
  foremost_earliest g (suc (suc n)) p y =
      more g (suc n) (foremost before g (suc n)) y (foremost_earliest g (suc n) (omega arith) (λ k a l. y k a (omega arith)))
      (before (g (suc (suc n))) (foremost before g (suc n))) refl

-- there is no second one: not even at another place
module _ {A : Type 0} {before : A → A → Bool} {g : ℕ → A} {n : ℕ} where
  not_later : {r q : A} (h : Earliest before g n r) (i : Earliest before g n q) → h.place < i.place → ⊥
  not_later {r} {q} h i l =
      true≢false
      (sym (i.before_earlier h.place h.pos l)
      ∙ rw (h.attained, ← i.attained) (h.none_before i.place i.pos i.within))

  pub one_place : {r q : A} (h : Earliest before g n r) (i : Earliest before g n q) → h.place ≡ i.place
  one_place h i = by_cases (dec_lt h.place i.place) (λ l. absurd (not_later h i l))
      (λ l. by_cases (dec_lt i.place h.place) (λ m. absurd (not_later i h m)) (λ m. omega arith))

  pub one_earliest : {r q : A} → Earliest before g n r → Earliest before g n q → r ≡ q
  one_earliest h i = sym h.attained ∙ ap g (one_place h i) ∙ i.attained
