-- Cycles of an injective map of 1..n into itself.
use mathlib.Core.Path.{◌≡◌, refl, sym, ap, ◌∙◌}
use mathlib.Core.Logic.{◌↔◌, by_cases, ⊎_elim}
use mathlib.Core.Bool.{Bool, true, false, cond, true≢false}
use Prim.Native.Nat.{ℕ, zero, suc, pred, ◌+◌, ◌-◌, ◌≤◌, ◌<◌}
use native.Mathlib.Nat.{le_refl, zero-add, suc-add}
use native.Mathlib.Decide.{dec_le, dec_lt}
use native.Mathlib.Numerals.{add-one}
use native.Mathlib.Omega.{arith}
use borrow.Author.Tests.{eqb-true, eq-eqb, ne_eqb, lt-ltb, ltb-true}
use lib.Dec.{eqb, ltb}
use Rattle.laws.specs.Lowest.{first_nonzero, lowest, At}
use Rattle.laws.specs.Sums.{bit, sum, hits, Inj, Into}
use Rattle.laws.specs.Orbit.{iterate, first_return, meets, Starts, row_moves, row_meets, owner, first_taken, first_unmet}
use Rattle.laws.proofs.LowestLaws.{bool_cases, nonzero_zero, lowest_cases, lowest-pos, lowest-zero, lowest_some, lowest_none, lowest_is}
use Rattle.laws.proofs.SumLaws.{sum_ext, sum_one, sum_none, sum-hits, pigeon}
use Rattle.laws.proofs.TestLaws.{nonzero, neither_true, cond_same}

pub iterate_add : (f : ℕ → ℕ) (a b s : ℕ) → iterate f (a + b) s ≡ iterate f a (iterate f b s)
iterate_add f zero b s = ap (λ (k : ℕ). iterate f k s) (zero-add b)
iterate_add f (suc a) b s = ap (λ (k : ℕ). iterate f k s) (suc-add a b) ∙ ap f (iterate_add f a b s)

pub iterate_in : (f : ℕ → ℕ) (n : ℕ) → Into f n n → (k s : ℕ) → 0 < s → s ≤ n → (0 < iterate f k s) × (iterate f k s ≤ n)
iterate_in f n g zero s a b = (a, b)
iterate_in f n g (suc k) s a b = let w = iterate_in f n g k s a b in g (iterate f k s) w.0 w.1

-- one move more: the place it comes to is met, and no other is met anew
pub meets_hit : (f : ℕ → ℕ) (k a s : ℕ) → iterate f (suc k) a ≡ s → meets f (suc k) a s ≡ true
meets_hit f k a s e = lt-ltb 0 _ (lowest_some (λ i. eqb (iterate f i a) s) (suc k) (suc k) (omega arith) (le_refl (suc k)) (eq-eqb _ s e))

pub meets_miss : (f : ℕ → ℕ) (k a s : ℕ) → (iterate f (suc k) a ≡ s → ⊥) → meets f (suc k) a s ≡ meets f k a s
meets_miss f k a s h = ap (ltb 0) (ap (λ (b : Bool). first_nonzero (lowest (λ i. eqb (iterate f i a) s) k)
    (cond b (suc k) 0)) (ne_eqb _ s h) ∙ nonzero_zero (lowest (λ i. eqb (iterate f i a) s) k))

-- 0 leads to 0: a walk from there meets none of 1..n, and one from 1..n never meets 0
iterate-zero : (f : ℕ → ℕ) → f 0 ≡ 0 → (k : ℕ) → iterate f k 0 ≡ 0
iterate-zero f z zero = refl
iterate-zero f z (suc k) = ap f (iterate-zero f z k) ∙ z

pub from_zero : (f : ℕ → ℕ) → f 0 ≡ 0 → (n s : ℕ) → 0 < s → meets f n 0 s ≡ false
from_zero f z n s a = ap (ltb 0) (lowest_none (λ k. eqb (iterate f k 0) s) n
    (λ k u v. ne_eqb (iterate f k 0) s (λ e. omega (arith, iterate-zero f z k))))

pub never_zero : (f : ℕ → ℕ) (n : ℕ) → Into f n n → (m a : ℕ) → 0 < a → a ≤ n → meets f m a 0 ≡ false
never_zero f n g m a x y = ap (ltb 0) (lowest_none (λ k. eqb (iterate f k a) 0) m
    (λ k u v. ne_eqb (iterate f k a) 0 (λ e. omega (arith, (iterate_in f n g k a x y).0))))

-- a row meets a place where it has a start and the walk from there meets it
pub row_meets_lem : (f : ℕ → ℕ) (n : ℕ) (st : ℕ → ℕ) (s r : ℕ) → (row_meets f n st s r ≡ true) ↔ ((0 < st r) × (meets f n (st r) s ≡ true))
row_meets_lem f n st s r = (
  λ e. let w = neither_true (eqb (st r) 0) (meets f n (st r) s) e in ((nonzero (st r)).0 w.0, w.1),
  λ h. rw ((nonzero (st r)).1 h.0) h.1,
)

module _ (f : ℕ → ℕ) (n : ℕ) (g : Into f n n) (h : Inj f n) where
  iterate_cancel : (k s t : ℕ) → 0 < s → s ≤ n → 0 < t → t ≤ n → iterate f k s ≡ iterate f k t → s ≡ t
  iterate_cancel zero s t a b c d e = e
  iterate_cancel (suc k) s t a b c d e =
      let v = iterate_in f n g k s a b in
      let w = iterate_in f n g k t c d in
      iterate_cancel k s t a b c d (h (iterate f k s) (iterate f k t) v.0 v.1 w.0 w.1 e)

  some_start : f 0 ≡ 0 → (a s : ℕ) → 0 < s → meets f n a s ≡ true → 0 < a
  some_start z a s pos e =
      by_cases (dec_le 1 a) (λ c. c)
      (λ c. let q : a ≡ 0 = omega arith in absurd (true≢false (sym (rw q at e) ∙ from_zero f z n s pos)))

  module _ (s : ℕ) (a : 0 < s) (b : s ≤ n) where
    -- met again: then s itself is back after the moves in between
    back : (i j : ℕ) → i < j → iterate f i s ≡ iterate f j s → iterate f (j - i) s ≡ s
    back i j l e =
        let w = iterate_in f n g (j - i) s a b in
        let q : j ≡ i + (j - i) = omega arith in
        sym (iterate_cancel i s (iterate f (j - i) s) a b w.0 w.1 (e ∙ ap (λ (k : ℕ). iterate f k s) q ∙ iterate_add f i (j - i) s))

    -- THE WALK CLOSES, within n moves
    pub closes : At (λ k. eqb (iterate f k s) s) n (first_return f n s)
    closes =
        ⊎_elim
        (λ c.
        let apart : (i j : ℕ) → i < j → 0 < i → j ≤ suc n → iterate f i s ≡ iterate f j s → ⊥ =
        λ i j l u v e. true≢false (sym (eq-eqb (iterate f (j - i) s) s (back i j l e)) ∙ c.1.fails (j - i) (omega arith) (omega arith)) in
        let inj : Inj (λ j. iterate f j s) (suc n) =
        λ i j u v w x e. by_cases (dec_lt i j) (λ l. absurd (apart i j l u x e))
        (λ l. by_cases (dec_lt j i) (λ m. absurd (apart j i m w v (sym e))) (λ m. omega arith)) in
        absurd (omega (arith, pigeon (λ j. iterate f j s) (suc n) n (λ k u v. iterate_in f n g k s a b) inj)))
        (λ c. c)
        (lowest_cases (λ k. eqb (iterate f k s) s) n)

    pub returns_to : iterate f (first_return f n s) s ≡ s
    returns_to = eqb-true (iterate f (first_return f n s) s) s closes.passes

    -- NO SIDE TWICE before the return
    pub no_repeat : (i j : ℕ) → i < j → j - i < first_return f n s → iterate f i s ≡ iterate f j s → ⊥
    no_repeat i j l m e = true≢false (sym (eq-eqb (iterate f (j - i) s) s (back i j l e)) ∙ closes.below (j - i) (omega arith) m)

    pub inj_walk : Inj (λ j. iterate f j s) (first_return f n s)
    inj_walk i j u v w x e =
        by_cases (dec_lt i j) (λ l. absurd (no_repeat i j l (omega arith) e))
        (λ l. by_cases (dec_lt j i) (λ m. absurd (no_repeat j i m (omega arith) (sym e))) (λ m. omega arith))

    -- any number of moves comes to a place of the first round
    pub reduce : (k : ℕ) → (j : ℕ) × (0 < j) × (j ≤ first_return f n s) × (iterate f j s ≡ iterate f k s)
    reduce zero = (first_return f n s, closes.pos, le_refl (first_return f n s), returns_to)
    reduce (suc k) =
        let r = reduce k in
        by_cases (dec_lt r.0 (first_return f n s))
        (λ c. (suc r.0, omega arith, c, ap f r.3))
        (λ c.
        let q : r.0 ≡ first_return f n s = omega (arith, r.2) in
        (1, omega arith, closes.pos, ap f (sym returns_to ∙ ap (λ (k : ℕ). iterate f k s) (sym q) ∙ r.3)))

    pub meets_of : (k t : ℕ) → iterate f k s ≡ t → meets f n s t ≡ true
    meets_of k t e =
        let r = reduce k in
        lt-ltb 0 _ (lowest_some (λ k. eqb (iterate f k s) t) n r.0 r.1 (omega (arith, r.2, closes.within))
        (eq-eqb (iterate f r.0 s) t (r.3 ∙ e)))

    pub of_meets : (t : ℕ) → meets f n s t ≡ true → (k : ℕ) × (iterate f k s ≡ t)
    of_meets t e =
        let p = lowest-pos (λ k. eqb (iterate f k s) t) n (ltb-true 0 _ e) in
        (lowest (λ k. eqb (iterate f k s) t) n, eqb-true _ t p.passes)

    -- and from any place of the round s is met again
    pub turn : (k t : ℕ) → iterate f k s ≡ t → (j : ℕ) × (iterate f j t ≡ s)
    turn k t e =
        let r = reduce k in
        let q : first_return f n s - r.0 + r.0 ≡ first_return f n s = omega (arith, r.2) in (
          first_return f n s - r.0,
          ap (iterate f (first_return f n s - r.0)) (sym (r.3 ∙ e))
              ∙ sym (iterate_add f (first_return f n s - r.0) r.0 s) ∙ ap (λ (k : ℕ). iterate f k s) q ∙ returns_to,
        )

    -- the round has as many places as moves
    pub round_size : sum (λ t. bit (meets f n s t)) n ≡ first_return f n s
    round_size =
        sum_ext (λ t. bit (meets f n s t)) (hits (λ j. iterate f j s) (first_return f n s)) n
        (λ t u v.
        bool_cases (meets f n s t)
        (λ c.
        let w = of_meets t c in
        let r = reduce w.0 in
        rw c
        (sym
        (sum_one (λ j. eqb t (iterate f j s)) (first_return f n s) r.0 r.1 r.2 (eq-eqb t _ (sym (r.3 ∙ w.1)))
        (λ k x y z. inj_walk k r.0 x y r.1 r.2 (sym (eqb-true t _ z) ∙ sym (r.3 ∙ w.1))))))
        (λ c.
        rw c
        (sym
        (sum_none (λ j. eqb t (iterate f j s)) (first_return f n s)
        (λ k x y. ne_eqb t _ (λ z. true≢false (sym (meets_of k t (sym z)) ∙ c)))))))
        ∙ sum-hits (λ j. iterate f j s) (first_return f n s) n (λ k u v. iterate_in f n g k s a b)

    -- the round itself meets what n moves meet
    pub meets_round : (t : ℕ) → meets f (first_return f n s) s t ≡ meets f n s t
    meets_round t =
        bool_cases (meets f n s t)
        (λ c.
        let w = of_meets t c in
        let r = reduce w.0 in
        lt-ltb 0 _ (lowest_some (λ k. eqb (iterate f k s) t) (first_return f n s) r.0 r.1 r.2
        (eq-eqb (iterate f r.0 s) t (r.3 ∙ w.1))) ∙ sym c)
        (λ c.
        bool_cases (meets f (first_return f n s) s t)
        (λ d. absurd (true≢false (sym (meets_of (lowest (λ k. eqb (iterate f k s) t) (first_return f n s)) t (eqb-true _ t (lowest-pos (λ k. eqb
        (iterate f k s) t) (first_return f n s) (ltb-true 0 _ d)).passes)) ∙ c)))
        (λ d. d ∙ sym c))

  -- TWO WALKS THAT MEET meet the same places
  pub same_round : (s : ℕ) (a : 0 < s) (b : s ≤ n) (t : ℕ) (c : 0 < t) (d : t ≤ n) (u v : ℕ) → meets f n s u ≡ true
      → meets f n t u ≡ true → meets f n t v ≡ true → meets f n s v ≡ true
  same_round s a b t c d u v e₁ e₂ e₃ =
      let w₁ = of_meets s a b u e₁ in
      let w₂ = of_meets t c d u e₂ in
      let w₃ = of_meets t c d v e₃ in
      let r = turn t c d w₂.0 u w₂.1 in
      meets_of s a b (w₃.0 + (r.0 + w₁.0)) v
      (iterate_add f w₃.0 (r.0 + w₁.0) s ∙ ap (iterate f w₃.0)
      (iterate_add f r.0 w₁.0 s ∙ ap (iterate f r.0) w₁.1 ∙ r.1) ∙ w₃.1)

  -- a row r + 1 whose start no earlier row's walk meets: its walk is marked with it, and no mark of an earlier row is lost.
  -- A row whose start is 0 has no place of 1..n, since 0 leads to 0
  pub paint_row : f 0 ≡ 0 → (st : ℕ → ℕ) (r : ℕ) → Starts n st (suc r) → owner f n st r (st (suc r)) ≡ 0
      → (s : ℕ) → 0 < s → cond (meets f n (st (suc r)) s) (suc r) (owner f n st r s) ≡ owner f n st (suc r) s
  paint_row none st r starts free s pos =
      bool_cases (meets f n (st (suc r)) s)
      (λ c.
      let S : 0 < st (suc r) = some_start none (st (suc r)) s pos c in
      let B = starts (suc r) (omega arith) (le_refl (suc r)) in
      let z : owner f n st r s ≡ 0 =
      lowest_none (row_meets f n st s) r
      (λ q u v.
      bool_cases (row_meets f n st s q)
      (λ d.
      let Q = (row_meets_lem f n st s q).0 d in
      absurd
      (true≢false
      (sym
      ((row_meets_lem f n st (st (suc r)) q).1 (
        Q.0,
        same_round (st q) Q.0 (starts q u (omega arith)) (st (suc r)) S B s (st (suc r)) Q.1 c (meets_of (st (suc r)) S B 0 (st (suc r)) refl),
      ))
      ∙ (lowest-zero (row_meets f n st (st (suc r))) r free).fails q u v)))
      (λ d. d)) in
      rw (z, c, (nonzero (st (suc r))).1 S))
      (λ c. rw (c, cond_same (eqb (st (suc r)) 0) false) (sym (nonzero_zero (owner f n st r s))))

  module _ (st : ℕ → ℕ) (R : ℕ) (starts : Starts n st R) where
    -- a row's walk has as many moves as it meets places: none of either where it has no start
    pub row_size : (r : ℕ) → 0 < r → r ≤ R → sum (λ s. bit (row_meets f n st s r)) n ≡ row_moves f n st r
    row_size r a b =
        bool_cases (eqb (st r) 0)
        (λ c. rw c (sum_none (λ s. false) n (λ s u v. refl)))
        (λ c. rw c (round_size (st r) ((nonzero (st r)).0 c) (starts r a b)))

    module _ (once : first_taken f n st R ≡ 0) where
      -- EXACTLY ONE ROW: a row whose walk meets s is the owner of s
      pub owner_is : (r s : ℕ) → 0 < r → r ≤ R → row_meets f n st s r ≡ true → owner f n st R s ≡ r
      owner_is r s a b e =
          let M = (row_meets_lem f n st s r).0 e in
          lowest_is (row_meets f n st s) R r a b e
          (λ k u v.
          bool_cases (row_meets f n st s k)
          (λ t.
          let K = (row_meets_lem f n st s k).0 t in
          let m : meets f n (st k) (st r) ≡ true = same_round (st k) K.0 (starts k u (omega arith)) (st r) M.0 (starts r a b) s (st r)
          K.1 M.1 (meets_of (st r) M.0 (starts r a b) 0 (st r) refl) in
          let z = lowest-zero (λ r. ltb 0 (owner f n st (pred r) (st r))) R once in
          absurd
          (true≢false
          (sym (lt-ltb 0 (owner f n st (pred r) (st r))
          (lowest_some (row_meets f n st (st r)) (pred r) k u (omega arith) ((row_meets_lem f n st (st r) k).1 (K.0, m)))) ∙ z.fails r a b)))
          (λ t. t))

      pub owner_on : (r s : ℕ) → 0 < r → owner f n st R s ≡ r → row_meets f n st s r ≡ true
      owner_on r s a e = rw e at (lowest-pos (row_meets f n st s) R (rw e a)).passes

      -- THE SUM of the rows' moves
      pub sum_law : first_unmet f n st R ≡ 0 → sum (row_moves f n st) R ≡ n
      sum_law none =
          sum_ext (row_moves f n st) (hits (owner f n st R) n) R
          (λ r a b.
          sym (row_size r a b)
          ∙ sum_ext (λ s. bit (row_meets f n st s r)) (λ s. bit (eqb r (owner f n st R s))) n
          (λ s u v.
          ap bit
          (bool_cases (row_meets f n st s r)
          (λ c. c ∙ sym (eq-eqb r _ (sym (owner_is r s a b c))))
          (λ c. c ∙ sym (ne_eqb r _ (λ z. true≢false (sym (owner_on r s a (sym z)) ∙ c)))))))
          ∙ sum-hits (owner f n st R) n R
          (λ s u v.
          ⊎_elim
          (λ c. absurd (true≢false (sym (eq-eqb (owner f n st R s) 0 c.0) ∙ (lowest-zero (λ s. eqb (owner f n st R s) 0) n none).fails s u v)))
          (λ c. (c.pos, c.within))
          (lowest_cases (row_meets f n st s) R))

-- as a loop has it, at `k + 1`
pub iterate_next : (f : ℕ → ℕ) (k s x y : ℕ) → x ≡ iterate f k s → y ≡ f x → y ≡ iterate f (k + 1) s
iterate_next f k s x y e u = u ∙ ap f e ∙ ap (λ (i : ℕ). iterate f i s) (sym (add-one k))
