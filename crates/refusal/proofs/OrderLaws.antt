-- The laws of tests in order: what a loop over rows needs, and what the first refusal of a list says.
use mathlib.Core.Path.{◌≡◌, refl, sym, ap, ◌∙◌}
use mathlib.Core.Bool.{Bool, true, false}
use mathlib.Core.List.{List, [], ◌∷◌, ◌++◌, append-nil}
use Prim.Native.Nat.{ℕ, zero, suc, ◌+◌, ◌≤◌, ◌<◌}
use native.Mathlib.Omega.{arith}
use native.Mathlib.Numerals.{add-one}
use lib.Dec.{eqb}
use borrow.Author.Tests.{lt-ltb, eq-eqb, ne_eqb, eqb-true, eqb-false, ltb-true}
use Rattle.laws.specs.Lowest.{lowest, None}
use Rattle.laws.proofs.LowestLaws.{none_next, lowest_found, lowest_nothing, lowest-zero, lowest-pos, bool_cases}
use Rattle.refusal.specs.declared.Refusal.{Refusal}
use Rattle.refusal.specs.Order.{refusal, fine, refused_if, first, located, first_of, refuses, at_row, lowest_of, AllFine, RefusedFirst}

-- a test that passes leaves the answer to the rest, and one that refuses is the answer
pub first_passes : (a b : Refusal) → a.number ≡ 0 → first a b ≡ b
unfolding first
first_passes a b h = rw (eq-eqb a.number 0 h)

pub first-refuses : (a b : Refusal) → (a.number ≡ 0 → ⊥) → first a b ≡ a
unfolding first
first-refuses a b h = rw (ne_eqb a.number 0 h)

-- neither of two refuses
pub both : (a b : Refusal) → (first a b).number ≡ 0 → (a.number ≡ 0) × (b.number ≡ 0)
both a b h =
    bool_cases (eqb a.number 0)
    (λ t. let z = eqb-true a.number 0 t in (z, ap (λ (r : Refusal). r.number) (sym (first_passes a b z)) ∙ h))
    (λ t. absurd (eqb-false a.number 0 t (ap (λ (r : Refusal). r.number) (sym (first-refuses a b (eqb-false a.number 0 t))) ∙ h)))

-- nothing at 0, the number elsewhere
pub located-zero : (n p : ℕ) → p ≡ 0 → located n p ≡ fine
unfolding located
located-zero n p h = rw (eq-eqb p 0 h)

pub located-at : (n p : ℕ) → (p ≡ 0 → ⊥) → located n p ≡ refusal n p
unfolding located
located-at n p h = rw (ne_eqb p 0 h)

-- a test that does not refuse
pub located_passes : (n p : ℕ) → (n ≡ 0 → ⊥) → (located n p).number ≡ 0 → p ≡ 0
unfolding located
located_passes n p u h = bool_cases (eqb p 0) (eqb-true p 0) (λ t. absurd (u (rw t at h)))

pub refused_if_passes : (b : Bool) (n p : ℕ) → (n ≡ 0 → ⊥) → (refused_if b n p).number ≡ 0 → b ≡ false
refused_if_passes true n p u h = absurd (u h)
refused_if_passes false n p u h = refl

-- ---- a loop over rows: row i + 1 is fine; is the lowest that refuses; no row refuses
pub on_next : (f : ℕ → Refusal) (i : ℕ) (q : Refusal) → None (refuses f) i → q ≡ f (i + 1) → q.number ≡ 0 → None (refuses f) (i + 1)
on_next f i q h e z =
    let u : (f (suc i)).number ≡ 0 = rw (← add-one i, ← e) z in
    none_next (refuses f) i h (rw u)

pub found : (f : ℕ → Refusal) (n i : ℕ) (q : Refusal) → i < n → None (refuses f) i → q ≡ f (i + 1) → (q.number ≡ 0 → ⊥) → q ≡ lowest_of f n
unfolding lowest_of
found f n i q l h e z =
    let u : f (suc i) ≡ q = rw (← add-one i, e) in
    let v : refuses f (suc i) ≡ true = rw u (lt-ltb 0 q.number (omega arith)) in
    rw (lowest_found (refuses f) n i l h v) (sym u)

pub all_fine : (f : ℕ → Refusal) (n i : ℕ) → n ≤ i → i ≤ n → None (refuses f) i → fine ≡ lowest_of f n
unfolding lowest_of
all_fine f n i a b h =
    let e : i ≡ n = omega arith in
    rw (lowest_nothing (refuses f) n (rw e at h))

-- no row is refused: then none of them is
none_refused : (f : ℕ → Refusal) (n k : ℕ) → (at_row f k).number ≡ 0 → (0 < k → 0 < (f k).number) → k ≡ 0
none_refused f n zero e h = refl
none_refused f n (suc k) e h = absurd (omega (arith, h (omega arith)))

pub all_passed : (f : ℕ → Refusal) (n : ℕ) → (lowest_of f n).number ≡ 0 → None (refuses f) n
unfolding lowest_of
all_passed f n e =
    lowest-zero (refuses f) n
    (none_refused f n (lowest (refuses f) n) e (λ a. ltb-true 0 (f (lowest (refuses f) n)).number (lowest-pos (refuses f) n a).passes))

pub lowest-fine : (f : ℕ → Refusal) (n : ℕ) → (lowest_of f n).number ≡ 0 → lowest_of f n ≡ fine
unfolding lowest_of
lowest-fine f n e =
    ap (at_row f)
    (none_refused f n (lowest (refuses f) n) e (λ a. ltb-true 0 (f (lowest (refuses f) n)).number (lowest-pos (refuses f) n a).passes))

-- ---- the numbers of a list of tests: each refuses with m or a higher number
abbrev pub Numbered : ℕ → Refusal → Type 0
Numbered m r = (r.number ≡ 0 → ⊥) → m ≤ r.number

abbrev pub AllNumbered : ℕ → List Refusal → Type 0
AllNumbered m [] = Unit {0}
AllNumbered m (a ∷ l) = Numbered m a × AllNumbered m l

pub first_numbered : (m : ℕ) (l : List Refusal) → AllNumbered m l → Numbered m (first_of l)
first_numbered m [] h = λ z. absurd (z refl)
first_numbered m (a ∷ l) h =
    bool_cases (eqb a.number 0)
    (λ t. rw (first_passes a (first_of l) (eqb-true a.number 0 t)) (first_numbered m l h.1))
    (λ t. rw (first-refuses a (first_of l) (eqb-false a.number 0 t)) h.0)

pub located_numbered : (m n p : ℕ) → m ≤ n → Numbered m (located n p)
located_numbered m n p h =
    bool_cases (eqb p 0)
    (λ t. rw (located-zero n p (eqb-true p 0 t)) (λ z. absurd (z refl)))
    (λ t. rw (located-at n p (eqb-false p 0 t)) (λ z. h))

row_numbered : (m : ℕ) (f : ℕ → Refusal) (k : ℕ) → ((i : ℕ) → Numbered m (f i)) → Numbered m (at_row f k)
row_numbered m f zero h z = absurd (z refl)
row_numbered m f (suc k) h z = h (suc k) z

pub lowest_numbered : (m : ℕ) (f : ℕ → Refusal) (n : ℕ) → ((i : ℕ) → Numbered m (f i)) → Numbered m (lowest_of f n)
unfolding lowest_of
lowest_numbered m f n h = row_numbered m f (lowest (refuses f) n) h

-- ---- tests in order, as code has them: a test that refuses is the answer; one that is fine leaves it to the rest
pub stops : (a q : Refusal) (l : List Refusal) → q ≡ a → (q.number ≡ 0 → ⊥) → q ≡ first_of (a ∷ l)
stops a q l e n = e ∙ sym (first-refuses a (first_of l) (λ z. n (ap (λ (r : Refusal). r.number) e ∙ z)))

pub goes_on : (a q r : Refusal) (l : List Refusal) → q ≡ a → q.number ≡ 0 → r ≡ first_of l → r ≡ first_of (a ∷ l)
goes_on a q r l e n h = h ∙ sym (first_passes a (first_of l) (sym (ap (λ (r : Refusal). r.number) e) ∙ n))

-- two tests in order
module _ (a b : Refusal) (p : Refusal) (e : p ≡ a) where
  pub at-first_of_two : (p.number ≡ 0 → ⊥) → p ≡ first_of (a ∷ b ∷ [])
  at-first_of_two n = stops a p (b ∷ []) e n

  pub at_second_of_two : p.number ≡ 0 → (q : Refusal) → q ≡ first_of (b ∷ []) → q ≡ first_of (a ∷ b ∷ [])
  at_second_of_two n q f = goes_on a p q (b ∷ []) e n f

-- four tests in order
module _ (a b c d : Refusal) (p : Refusal) (e : p ≡ a) where
  pub at_first : (p.number ≡ 0 → ⊥) → p ≡ first_of (a ∷ b ∷ c ∷ d ∷ [])
  at_first n = stops a p (b ∷ c ∷ d ∷ []) e n

  module _ (n : p.number ≡ 0) (q : Refusal) (f : q ≡ b) where
    pub at_second : (q.number ≡ 0 → ⊥) → q ≡ first_of (a ∷ b ∷ c ∷ d ∷ [])
    at_second m = goes_on a p q (b ∷ c ∷ d ∷ []) e n (stops b q (c ∷ d ∷ []) f m)

    module _ (m : q.number ≡ 0) (r : Refusal) (g : r ≡ c) where
      pub at_third : (r.number ≡ 0 → ⊥) → r ≡ first_of (a ∷ b ∷ c ∷ d ∷ [])
      at_third l = goes_on a p r (b ∷ c ∷ d ∷ []) e n (goes_on b q r (c ∷ d ∷ []) f m (stops c r (d ∷ []) g l))

      pub at_fourth : r.number ≡ 0 → (s : Refusal) → s ≡ first_of (d ∷ []) → s ≡ first_of (a ∷ b ∷ c ∷ d ∷ [])
      at_fourth l s h = goes_on a p s (b ∷ c ∷ d ∷ []) e n (goes_on b q s (c ∷ d ∷ []) f m (goes_on c r s (d ∷ []) g l h))

-- the last test: nothing comes after it
pub located_ends : (n p : ℕ) → (n ≡ 0 → ⊥) → located n p ≡ first_of (located n p ∷ [])
located_ends n p h =
    bool_cases (eqb p 0)
    (λ t. let e = located-zero n p (eqb-true p 0 t) in rw e (sym (first_passes fine fine refl)))
    (λ t. let e = located-at n p (eqb-false p 0 t) in rw e (sym (first-refuses (refusal n p) fine h)))

row_ends : (f : ℕ → Refusal) (k : ℕ) → (0 < k → ((f k).number ≡ 0 → ⊥)) → at_row f k ≡ first_of (at_row f k ∷ [])
row_ends f zero h = sym (first_passes fine fine refl)
row_ends f (suc k) h = sym (first-refuses (f (suc k)) fine (h (omega arith)))

pub lowest_ends : (f : ℕ → Refusal) (n : ℕ) → lowest_of f n ≡ first_of (lowest_of f n ∷ [])
unfolding lowest_of
lowest_ends f n = row_ends f (lowest (refuses f) n)
    (λ a z. omega (arith, ltb-true 0 (f (lowest (refuses f) n)).number (lowest-pos (refuses f) n a).passes))

-- the same for parts of the list, each judged by itself
pub part_stops : (k l : List Refusal) (q : Refusal) → q ≡ first_of k → (q.number ≡ 0 → ⊥) → q ≡ first_of (k ++ l)
part_stops [] l q e n = absurd (n (ap (λ (r : Refusal). r.number) e))
part_stops (a ∷ k) l q e n =
    bool_cases (eqb a.number 0)
    (λ t.
    let z = eqb-true a.number 0 t in
    part_stops k l q (e ∙ first_passes a (first_of k) z) n ∙ sym (first_passes a (first_of (k ++ l)) z))
    (λ t.
    let z = eqb-false a.number 0 t in
    e ∙ first-refuses a (first_of k) z ∙ sym (first-refuses a (first_of (k ++ l)) z))

pub part_goes_on : (k l : List Refusal) (q r : Refusal) → q ≡ first_of k → q.number ≡ 0 → r ≡ first_of l → r ≡ first_of (k ++ l)
part_goes_on [] l q r e n h = h
part_goes_on (a ∷ k) l q r e n h =
    let b = both a (first_of k) (sym (ap (λ (r : Refusal). r.number) e) ∙ n) in
    part_goes_on k l q r (e ∙ first_passes a (first_of k) b.0) n h ∙ sym (first_passes a (first_of (k ++ l)) b.0)

-- ---- "accepted exactly when" every test passes, and "refused with r exactly when" r is the first that refuses
pub all_pass : (l : List Refusal) → AllFine l → (first_of l).number ≡ 0
all_pass [] h = refl
all_pass (a ∷ l) h = ap (λ (r : Refusal). r.number) (first_passes a (first_of l) h.0) ∙ all_pass l h.1

pub passed_all : (l : List Refusal) → (first_of l).number ≡ 0 → AllFine l
passed_all [] h = tt
passed_all (a ∷ l) h = let b = both a (first_of l) h in (b.0, passed_all l b.1)

pub first_is : (earlier later : List Refusal) (r : Refusal) → AllFine earlier → (r.number ≡ 0 → ⊥) → first_of (earlier ++ (r ∷ later)) ≡ r
first_is [] later r p n = first-refuses r (first_of later) n
first_is (a ∷ l) later r p n = first_passes a (first_of (l ++ (r ∷ later))) p.0 ∙ first_is l later r p.1 n

pub refused-first : (l : List Refusal) (r : Refusal) → first_of l ≡ r → (r.number ≡ 0 → ⊥) → RefusedFirst l r
refused-first [] r e n = absurd (n (ap (λ (r : Refusal). r.number) (sym e)))
refused-first (a ∷ l) r e n =
    bool_cases (eqb a.number 0)
    (λ t.
    let z = eqb-true a.number 0 t in
    let w = refused-first l r (sym (first_passes a (first_of l) z) ∙ e) n in
    record {
      earlier = a ∷ w.earlier;
      later = w.later;
      stands = ap (λ (k : List Refusal). a ∷ k) w.stands;
      passed =
          (z, w.passed);
      refused = n;
    })
    (λ t.
    let q : a ≡ r = sym (first-refuses a (first_of l) (eqb-false a.number 0 t)) ∙ e in
    record { earlier = []; later = l; stands = ap (λ (k : Refusal). k ∷ l) q; passed = tt; refused = n })

pub first-refused : (l : List Refusal) (r : Refusal) → RefusedFirst l r → first_of l ≡ r
first-refused l r w = ap first_of w.stands ∙ first_is w.earlier w.later r w.passed w.refused

-- ---- a list of tests within a list of tests: they are asked one after the other
pub first_joined : (a b c : Refusal) → first (first a b) c ≡ first a (first b c)
first_joined a b c =
    bool_cases (eqb a.number 0)
    (λ t. let z = eqb-true a.number 0 t in rw (first_passes a b z, first_passes a (first b c) z))
    (λ t. let z = eqb-false a.number 0 t in rw (first-refuses a b z, first-refuses a (first b c) z) (first-refuses a c z))

pub first_append : (l m : List Refusal) → first_of (l ++ m) ≡ first (first_of l) (first_of m)
first_append [] m = sym (first_passes fine (first_of m) refl)
first_append (a ∷ l) m = ap (first a) (first_append l m) ∙ sym (first_joined a (first_of l) (first_of m))

pub first_within : (l : List Refusal) → first_of (first_of l ∷ []) ≡ first_of l
first_within l = sym (first_append l []) ∙ ap first_of (append-nil l)
