-- Tests in order, each with its finding, exact in words while the earlier ones hold: then so is the first finding. And tests of every
-- place or row, exact at the lowest that fails.
use mathlib.Core.Path.{◌≡◌, refl, sym, ap, subst, ◌∙◌}
use mathlib.Core.Logic.{◌↔◌, by_cases, ⊎_elim}
use mathlib.Core.Bool.{Bool, true, false, true≢false}
use mathlib.Core.List.{List, [], ◌∷◌}
use Prim.Native.Nat.{ℕ, suc, ◌+◌, ◌≤◌, ◌<◌}
use native.Mathlib.Decide.{dec_lt}
use native.Mathlib.Omega.{arith}
use borrow.Author.Tests.{eqb-true, eqb-false}
use lib.Dec.{eqb}
use lib.ListN.{length}
use Rattle.laws.specs.Lowest.{lowest, In, Each, LowestFailing}
use Rattle.laws.proofs.LowestLaws.{bool_cases, lowest_cases, lowest_none, lowest_is}
use Rattle.refusal.specs.declared.Refusal.{Refusal}
use Rattle.refusal.specs.Order.{refusal}
use Rattle.load.specs.declared.TableName.{TableName}
use Rattle.load.specs.declared.Finding.{Finding}
use Rattle.load.specs.Load.{finding, first_finding, empty_finding}
use Rattle.load.proofs.TopLaws.{number_of, found_passes, found_stops, both_found}

-- nothing is found exactly where H holds, and q exactly where F q
abbrev pub Exactly : Finding → Type 0 → (Finding → Type 0) → Type 0
Exactly a H F = ((number_of a ≡ 0) ↔ H) × ((q : Finding) → ((a ≡ q) × (number_of q ≡ 0 → ⊥)) ↔ F q)

-- T: the tests by name, each with its own rank in the order; Holds x: what x asks; Fails x q: it fails, and q is found
module _ (T : Type 0) (rank : T → ℕ) (apart : (x y : T) → rank x ≡ rank y → x ≡ y) (Holds : T → Type 0) (Fails : T → Finding → Type 0) where
  abbrev pub Earlier : ℕ → Type 0
  Earlier k = (x : T) → rank x < k → Holds x

  -- these are the findings of the tests of rank k, k + 1, ..
  abbrev pub InOrder : List Finding → ℕ → Type 0
  InOrder [] k = Unit {0}
  InOrder (a ∷ l) k = ((x : T) × (rank x ≡ k) × (Earlier k → Exactly a (Holds x) (Fails x))) × InOrder l (suc k)

  -- some test fails with q and all earlier ones hold
  pub record FirstFailing (q : Finding) : Type 0 where
    pub test : T
    pub earlier : Earlier (rank test)
    pub fails : Fails test q

  -- the tests up to k and that of rank k
  one_more : (k : ℕ) (x : T) → rank x ≡ k → Holds x → Earlier k → Earlier (suc k)
  one_more k x r h e y u = by_cases (dec_lt (rank y) k) (e y) (λ c. rw (apart y x (omega arith)) h)

  pub nothing_found : (l : List Finding) (k : ℕ) → InOrder l k → Earlier k → (number_of (first_finding l) ≡ 0) ↔ Earlier (k + length l)
  nothing_found [] k o e = (λ z x u. e x (omega arith), λ w. refl)
  nothing_found (a ∷ l) k o e =
      let x = o.0.0 in
      let r = o.0.1 in
      let exact = (o.0.2 e).0 in (
        λ z.
            let b = both_found a (first_finding l) z in
            let n = (nothing_found l (suc k) o.1 (one_more k x r (exact.0 b.0) e)).0 b.1 in
            λ y u. n y (omega arith),
        λ w.
            let h = w x (omega arith) in
            ap number_of (found_passes a (first_finding l) (exact.1 h))
            ∙ (nothing_found l (suc k) o.1 (one_more k x r h e)).1 (λ y u. w y (omega arith)),
      )

  pub found_failing : (l : List Finding) (k : ℕ) → InOrder l k → Earlier k → (q : Finding) → first_finding l ≡ q
      → (number_of q ≡ 0 → ⊥) → FirstFailing q
  found_failing [] k o e q p n = absurd (n (ap number_of (sym p)))
  found_failing (a ∷ l) k o e q p n =
      let x = o.0.0 in
      let r = o.0.1 in
      let exact = o.0.2 e in
      bool_cases (eqb (number_of a) 0)
      (λ t.
      let z = eqb-true (number_of a) 0 t in
      found_failing l (suc k) o.1 (one_more k x r (exact.0.0 z) e) q (sym (found_passes a (first_finding l) z) ∙ p) n)
      (λ t.
      let z = eqb-false (number_of a) 0 t in
      record { test = x; earlier = λ y u. e y (omega arith); fails = (exact.1 q).0 (sym (found_stops a (first_finding l) z) ∙ p, n) })

  pub failing_found : (l : List Finding) (k : ℕ) → InOrder l k → Earlier k → (q : Finding) → (w : FirstFailing q)
      → k ≤ rank w.test → rank w.test < k + length l
      → (first_finding l ≡ q) × (number_of q ≡ 0 → ⊥)
  failing_found [] k o e q w a b = absurd (omega arith)
  failing_found (a ∷ l) k o e q w u v =
      let x = o.0.0 in
      let r = o.0.1 in
      let exact = o.0.2 e in
      by_cases (dec_lt k (rank w.test))
      (λ c.
      let h = w.earlier x (omega arith) in
      let m = failing_found l (suc k) o.1 (one_more k x r h e) q w c (omega arith) in
      (found_passes a (first_finding l) (exact.0.1 h) ∙ m.0, m.1))
      (λ c.
      let d = apart w.test x (omega arith) in
      let m = (exact.1 q).1 (subst (λ (y : T). Fails y q) d w.fails) in
      (found_stops a (first_finding l) (λ z. m.1 (ap number_of (sym m.0) ∙ z)) ∙ m.0, m.1))

  -- l are the findings of all tests
  module _ (l : List Finding) (o : InOrder l 0) (all : (x : T) → rank x < length l) where
    none_earlier : Earlier 0
    none_earlier x u = absurd (omega arith)

    pub nothing_exactly : (number_of (first_finding l) ≡ 0) ↔ ((x : T) → Holds x)
    nothing_exactly =
        let w = nothing_found l 0 o none_earlier in
        (λ z x. w.0 z x (omega (arith, all x)), λ h. w.1 (λ x u. h x))

    pub found_exactly : (q : Finding) → ((first_finding l ≡ q) × (number_of q ≡ 0 → ⊥)) ↔ FirstFailing q
    found_exactly q = (
      λ e. found_failing l 0 o none_earlier q e.0 e.1,
      λ w. failing_found l 0 o none_earlier q w (omega arith) (omega (arith, all w.test)),
    )

-- ---- the finding of a table's refusal r that is exact by itself
pub exactly_of : (n : TableName) (r : Refusal) (H : Type 0) (F : ℕ → ℕ → Type 0) → (r.number ≡ 0) ↔ H
    → ((m p : ℕ) → ((r ≡ refusal m p) × (m ≡ 0 → ⊥)) ↔ F m p)
    → Exactly (finding n r) H (λ q. (n ≡ q.table) × F q.refusal.number q.refusal.place)
exactly_of n r H F e f = (
  e,
  λ q. (
    λ w. (ap (λ (q : Finding). q.table) w.0, (f q.refusal.number q.refusal.place).0 (ap (λ (q : Finding). q.refusal) w.0, w.1)),
    λ w. let x = (f q.refusal.number q.refusal.place).1 w.1 in (λ i. record { table = w.0 i; refusal = x.0 i }, x.1),
  ),
)

-- ---- F, or R, zero
pub exactly_empty : (n : TableName) (rows : ℕ) → Exactly (empty_finding n rows) (0 < rows) (λ q. (rows ≡ 0) × (finding n (refusal 15 0) ≡ q))
unfolding empty_finding
exactly_empty n rows =
    bool_cases (eqb rows 0)
    (λ t.
    let y = eqb-true rows 0 t in
    rw t (
      (λ z. absurd (omega (arith, z)), λ h. absurd (omega arith)),
      λ q. (λ w. (y, w.0), λ w. (w.1, λ z. let x : ◌≡◌ {A = ℕ} 15 0 = ap number_of w.1 ∙ z in omega arith)),
    ))
    (λ t.
    let y = eqb-false rows 0 t in
    rw t ((λ z. omega arith, λ h. refl), λ q. (λ w. absurd (w.1 (ap number_of (sym w.0))), λ w. absurd (y w.0))))

-- ---- the lowest of 1..n that the test b finds, where b says in words that P fails: a is what is found there, g k at k
module _ (P : ℕ → Type 0) (n : ℕ) (b : ℕ → Bool) (exact : (k : ℕ) → In n k → (b k ≡ false) ↔ P k) (a : Finding) (g : ℕ → Finding)
    (none : lowest b n ≡ 0 → number_of a ≡ 0) (some : 0 < lowest b n → a ≡ g (lowest b n))
    (refuses : (k : ℕ) → In n k → b k ≡ true → number_of (g k) ≡ 0 → ⊥) where
  wrong : (k : ℕ) → In n k → (P k → ⊥) → b k ≡ true
  wrong k i f = bool_cases (b k) (λ t. t) (λ t. absurd (f ((exact k i).0 t)))

  pub exactly_lowest : Exactly a (Each n P) (λ q. (k : ℕ) × LowestFailing n P k × (g k ≡ q))
  exactly_lowest =
      let r = lowest b n in (
        (
          λ z k i.
              ⊎_elim
              (λ h. (exact k i).0 (h.1.fails k i.0 i.1))
              (λ h. absurd (refuses r (h.pos, h.within) h.passes (ap number_of (sym (some h.pos)) ∙ z)))
              (lowest_cases b n),
          λ h. none (lowest_none b n (λ k u v. (exact k (u, v)).1 (h k (u, v)))),
        ),
        λ q. (
          λ w.
              ⊎_elim
              (λ h. absurd (w.1 (ap number_of (sym w.0) ∙ none h.0)))
              (λ h. (
                r,
                record {
                  within = (h.pos, h.within);
                  fails = λ p. true≢false (sym h.passes ∙ (exact r (h.pos, h.within)).1 p);
                  below = λ k u v. (exact k (u, omega (arith, h.within))).0 (h.below k u v);
                },
                sym (some h.pos) ∙ w.0,
              ))
              (lowest_cases b n),
          λ w.
              let k = w.0 in
              let i = w.1.within in
              let t = wrong k i w.1.fails in
              let e : lowest b n ≡ k =
              lowest_is b n k i.0 i.1 t (λ j u v. (exact j (u, omega (arith, i.1))).1 (w.1.below j u v)) in
              let f : a ≡ g k = some (omega (arith, i.0)) ∙ ap g e in
              (f ∙ w.2, λ z. refuses k i t (ap number_of w.2 ∙ z)),
        ),
      )
