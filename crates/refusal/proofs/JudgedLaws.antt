-- Tests in order, each judged in words while the earlier ones hold: then so is the first refusal. And tests of every row, judged
-- at the lowest row that fails.
use mathlib.Core.Path.{◌≡◌, refl, sym, ap, subst, ◌∙◌}
use mathlib.Core.Logic.{◌↔◌, by_cases, ◌⊎◌, inl, inr, ⊎_elim}
use mathlib.Core.Bool.{Bool, true, false, cond, true≢false}
use mathlib.Core.List.{List, [], ◌∷◌}
use Prim.Native.Nat.{ℕ, zero, suc, ◌+◌, ◌<◌}
use native.Mathlib.Decide.{dec_lt}
use native.Mathlib.Omega.{arith}
use borrow.Author.Tests.{le-ltb, ltb-true, ltb-false}
use lib.Dec.{ltb}
use lib.ListN.{length}
use Rattle.laws.specs.Lowest.{lowest, In, Each, LowestFailing}
use Rattle.laws.proofs.LowestLaws.{lowest_cases, lowest_none, lowest-zero}
use Rattle.refusal.specs.declared.Refusal.{Refusal}
use Rattle.refusal.specs.Order.{refusal, fine, refused_if, located, refuses, at_row, lowest_of, first_of}
use Rattle.refusal.proofs.OrderLaws.{first_passes, first-refuses, located-zero, located-at}

-- nothing is refused and what was asked holds; or a number and a place are, and it fails so
abbrev pub Judged : Refusal → Type 0 → (ℕ → ℕ → Type 0) → Type 0
Judged q Holds Fails = ((q.number ≡ 0) × Holds) ⊎ ((q.number ≡ 0 → ⊥) × Fails q.number q.place)

-- T: the tests by name, each with its own rank in the order; Holds x: what x asks; Fails x n p: it fails, with the number n at the
-- place p
module _ (T : Type 0) (rank : T → ℕ) (apart : (x y : T) → rank x ≡ rank y → x ≡ y) (Holds : T → Type 0) (Fails : T → ℕ → ℕ → Type 0) where
  abbrev pub Earlier : ℕ → Type 0
  Earlier k = (x : T) → rank x < k → Holds x

  -- these are the refusals of the tests of rank k, k + 1, ..
  abbrev pub InOrder : List Refusal → ℕ → Type 0
  InOrder [] k = Unit {0}
  InOrder (a ∷ l) k = ((x : T) × (rank x ≡ k) × (Earlier k → Judged a (Holds x) (Fails x))) × InOrder l (suc k)

  -- some test fails with n at p and all earlier ones hold
  pub record FirstFailing (n p : ℕ) : Type 0 where
    pub test : T
    pub earlier : Earlier (rank test)
    pub fails : Fails test n p

  pub judged_in_order : (l : List Refusal) (k : ℕ) → InOrder l k → Earlier k → Judged (first_of l) (Earlier (k + length l)) FirstFailing
  judged_in_order [] k o e = inl (refl, λ x h. e x (omega arith))
  judged_in_order (a ∷ l) k o e =
      let x = o.0.0 in
      let q = o.0.1 in
      ⊎_elim
      (λ h.
      rw (first_passes a (first_of l) h.0)
      (⊎_elim (λ g. inl (g.0, λ y u. g.1 y (omega arith))) inr
      (judged_in_order l (suc k) o.1 (λ y u. by_cases (dec_lt (rank y) k) (e y) (λ c. rw (apart y x (omega arith)) h.1)))))
      (λ h. rw (first-refuses a (first_of l) h.0) (inr (h.0, record { test = x; earlier = λ y u. e y (omega arith); fails = h.1 })))
      (o.0.2 e)

  -- l are the refusals of all tests, none of which both holds and fails, or fails in two ways while the earlier ones hold: then
  -- nothing is refused exactly where all hold, and n at p exactly where a test fails so and all earlier ones hold
  module _ (l : List Refusal) (o : InOrder l 0) (all : (x : T) → rank x < length l)
      (not_both : (x : T) (n p : ℕ) → Fails x n p → Holds x → ⊥)
      (one_way : (x : T) (n p m q : ℕ) → Earlier (rank x) → Fails x n p → Fails x m q → (n ≡ m) × (p ≡ q)) where
    pub judged_all : Judged (first_of l) ((x : T) → Holds x) FirstFailing
    judged_all =
        ⊎_elim (λ h. inl (h.0, λ x. h.1 x (omega (arith, all x)))) inr
        (judged_in_order l 0 o (λ x u. absurd (omega arith)))

    pub one_failing : (n p m q : ℕ) → FirstFailing n p → FirstFailing m q → (n ≡ m) × (p ≡ q)
    one_failing n p m q a b =
        by_cases (dec_lt (rank a.test) (rank b.test))
        (λ u. absurd (not_both a.test n p a.fails (b.earlier a.test u)))
        (λ u.
        by_cases (dec_lt (rank b.test) (rank a.test))
        (λ v. absurd (not_both b.test m q b.fails (a.earlier b.test v)))
        (λ v.
        let e = apart b.test a.test (omega arith) in
        one_way a.test n p m q a.earlier a.fails (subst (λ (x : T). Fails x m q) e b.fails)))

    pub fine_exactly : ((first_of l).number ≡ 0) ↔ ((x : T) → Holds x)
    fine_exactly = (
      λ e. ⊎_elim (λ h. h.1) (λ h. absurd (h.0 e)) judged_all,
      λ h. ⊎_elim (λ g. g.0) (λ g. absurd (not_both g.1.test _ _ g.1.fails (h g.1.test))) judged_all,
    )

    pub refused-exactly : (n p : ℕ) → ((first_of l ≡ refusal n p) × (n ≡ 0 → ⊥)) ↔ FirstFailing n p
    refused-exactly n p = (
      λ e.
          ⊎_elim
          (λ h. let z : n ≡ 0 = sym (ap (λ (r : Refusal). r.number) e.0) ∙ h.0 in absurd (e.1 z))
          (λ h. subst (λ (r : Refusal). FirstFailing r.number r.place) e.0 h.1)
          judged_all,
      λ w.
          ⊎_elim
          (λ h. absurd (not_both w.test n p w.fails (h.1 w.test)))
          (λ h.
          let z = one_failing (first_of l).number (first_of l).place n p h.1 w in
          (λ i. refusal (z.0 i) (z.1 i), λ e. h.0 (z.0 ∙ e)))
          judged_all,
    )

-- ---- "lowest row or side first", for every test of rows or sides: P k is what is asked of k
module _ (P : ℕ → Type 0) (n : ℕ) where
  -- the lowest that fails is one, and there is none where all hold
  pub lowest_one : (p q : ℕ) → LowestFailing n P p → LowestFailing n P q → p ≡ q
  lowest_one p q a b =
      by_cases (dec_lt p q) (λ l. absurd (a.fails (b.below p a.within.0 l)))
      (λ l. by_cases (dec_lt q p) (λ m. absurd (b.fails (a.below q b.within.0 m))) (λ m. omega arith))

  pub fails_not_each : (p : ℕ) → LowestFailing n P p → Each n P → ⊥
  fails_not_each p a h = a.fails (h p a.within)

  -- the lowest that a test b finds, where b says in words that P fails
  module _ (m : ℕ) (some : m ≡ 0 → ⊥) (b : ℕ → Bool) (exact : (k : ℕ) → In n k → (b k ≡ false) ↔ P k) where
    pub judged_lowest : Judged (located m (lowest b n)) (Each n P) (λ x p. (x ≡ m) × LowestFailing n P p)
    judged_lowest =
        ⊎_elim
        (λ h. rw (located-zero m (lowest b n) h.0) (inl (refl, λ k i. (exact k i).0 (h.1.fails k i.0 i.1))))
        (λ h.
        rw (located-at m (lowest b n) (λ e. omega (arith, h.pos)))
        (inr (
          some,
          (
            refl,
            record {
              within = (h.pos, h.within);
              fails = λ w. true≢false (sym h.passes ∙ (exact (lowest b n) (h.pos, h.within)).1 w);
              below = λ k a l. (exact k (a, omega (arith, h.within))).0 (h.below k a l);
            },
          ),
        )))
        (lowest_cases b n)

  -- nothing is found exactly where P holds everywhere
  module _ (b : ℕ → Bool) (exact : (k : ℕ) → In n k → (b k ≡ false) ↔ P k) where
    pub none_found : (ltb 0 (lowest b n) ≡ false) ↔ Each n P
    none_found = (
      λ e k i. (exact k i).0 ((lowest-zero b n (omega (arith, ltb-false 0 (lowest b n) e))).fails k i.0 i.1),
      λ h. le-ltb 0 (lowest b n) (omega (arith, lowest_none b n (λ k u v. (exact k (u, v)).1 (h k (u, v))))),
    )

  -- the lowest of which a refusal is made, each place judged by itself
  at_row_lem : (f : ℕ → Refusal) (r : ℕ) → 0 < r → at_row f r ≡ f r
  at_row_lem f zero h = absurd (omega arith)
  at_row_lem f (suc r) h = refl

  module _ (Q : ℕ → ℕ → Type 0) (f : ℕ → Refusal) (each : (k : ℕ) → In n k → Judged (f k) (P k) (λ m p. (p ≡ k) × Q k m × (P k → ⊥))) where
    fine_row : (k : ℕ) → In n k → refuses f k ≡ false → P k
    fine_row k i e = ⊎_elim (λ h. h.1) (λ h. absurd (h.0 (omega (arith, ltb-false 0 (f k).number e)))) (each k i)

    pub judged_lowest_of : Judged (lowest_of f n) (Each n P) (λ m p. Q p m × LowestFailing n P p)
    unfolding lowest_of
    judged_lowest_of =
        ⊎_elim
        (λ h. rw h.0 (inl (refl, λ k i. fine_row k i (h.1.fails k i.0 i.1))))
        (λ h.
        let r = lowest (refuses f) n in
        rw (at_row_lem f (lowest (refuses f) n) h.pos)
        (⊎_elim (λ g. absurd (omega (arith, ltb-true 0 (f r).number h.passes, g.0)))
        (λ g.
        inr (
          g.0,
          rw g.1.0 (
            g.1.1,
            record {
              within = (h.pos, h.within);
              fails = g.1.2;
              below = λ k a l.
                  fine_row k (a, omega (arith, h.within)) (h.below k a l);
            },
          ),
        ))
        (each r (h.pos, h.within))))
        (lowest_cases (refuses f) n)

-- a test that asks one thing
pub judged_once : (b : Bool) (m p : ℕ) (P : Type 0) (Q : Type 0) → (m ≡ 0 → ⊥) → (b ≡ false → P) → (b ≡ true → Q)
    → Judged (refused_if b m p) P (λ x y. (x ≡ m) × (y ≡ p) × Q)
judged_once true m p P Q some f g = inr (some, (refl, refl, g refl))
judged_once false m p P Q some f g = inl (refl, f refl)

-- a test that is made only where b says G
pub judged_where : (b : Bool) (q : Refusal) (G P : Type 0) (F K : ℕ → ℕ → Type 0) → (b ≡ true) ↔ G → ((n p : ℕ) → G → F n p → K n p)
    → (G → Judged q P F) → Judged (cond b q fine) (G → P) K
judged_where true q G P F K e k j = let g = e.0 refl in ⊎_elim (λ h. inl (h.0, λ x. h.1))
    (λ h. inr (h.0, k q.number q.place g h.1)) (j g)
judged_where false q G P F K e k j = inl (refl, λ g. absurd (true≢false (sym (e.1 g))))

-- a test of one thing that is made only where b says G: it asks P
module _ (b : Bool) (G : Type 0) (says : (b ≡ true) ↔ G) where
  pub asked_where : (c : Bool) (m p : ℕ) (P Q : Type 0) → (m ≡ 0 → ⊥) → (G → (c ≡ false → P) × (c ≡ true → Q))
      → Judged (cond b (refused_if c m p) fine) (G → P) (λ x y. (x ≡ m) × (y ≡ p) × G × Q)
  asked_where c m p P Q some f =
      judged_where b (refused_if c m p) G P (λ x y. (x ≡ m) × (y ≡ p) × Q) (λ x y. (x ≡ m) × (y ≡ p) × G × Q) says
      (λ x y g q. (q.0, q.1, g, q.2))
      (λ g. judged_once c m p P Q some (f g).0 (f g).1)

  pub right_where : (c : Bool) (m p : ℕ) (P : Type 0) → (m ≡ 0 → ⊥) → (G → (c ≡ false) ↔ P)
      → Judged (cond b (refused_if c m p) fine) (G → P) (λ x y. (x ≡ m) × (y ≡ p) × G × (P → ⊥))
  right_where c m p P some f = asked_where c m p P (P → ⊥) some (λ g. ((f g).0, λ e h. true≢false (sym e ∙ (f g).1 h)))
