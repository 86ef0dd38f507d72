-- A list made of a function, and a buffer whose front is one.
use mathlib.Core.Path.{◌≡◌, refl, sym, ap, ◌∙◌}
use mathlib.Core.Logic.{by_cases, ◌≢◌}
use mathlib.Core.List.{List, [], ◌∷◌, ◌++◌, append_assoc}
use Prim.Native.Nat.{ℕ, zero, suc, pred, ◌+◌, ◌-◌, ◌≤◌, ◌<◌}
use native.Mathlib.Numerals.{add-one}
use native.Mathlib.Decide.{dec_lt, ℕ_discrete}
use native.Mathlib.Omega.{arith}
use lib.ListN.{length, get_or, drop, set, replicate, length-append, length-drop, length-set, get_or-append}
use lib.Seq.{drop-cons, set_at, get_or_at, drop_at, get_or-append-add, get_or-drop, get_or-set_same, get_or-set_other, ext_get_or}
use Rattle.laws.specs.Orbit.{entry}
use Rattle.laws.specs.Buffer.{listed, front, one_to}

pub length-listed : (g : ℕ → ℕ) (n : ℕ) → length (listed g n) ≡ n
length-listed g zero = refl
length-listed g (suc n) = simp (length-append, length-listed g n) (omega arith)

pub get_or-listed : (g : ℕ → ℕ) (n k : ℕ) → k < n → get_or (listed g n) k 0 ≡ g k
get_or-listed g zero k h = absurd (omega arith)
get_or-listed g (suc n) k h =
    by_cases (dec_lt k n)
    (λ c. get_or-append (listed g n) (g n ∷ []) 0 k (rw (length-listed g n) c) ∙ get_or-listed g n k c)
    (λ c. let q : n ≡ k = omega arith in get_or_at (listed g n) (g n) [] 0 k (length-listed g n ∙ q) ∙ ap g q)

-- read as rows are, from 1
pub entry_listed : (g : ℕ → ℕ) (n i : ℕ) → 0 < i → i ≤ n → entry (listed g n) i ≡ g (pred i)
entry_listed g n zero a b = absurd (omega arith)
entry_listed g n (suc i) a b = get_or-listed g n i b

pub listed_ext : (g h : ℕ → ℕ) (n : ℕ) → ((k : ℕ) → k < n → g k ≡ h k) → listed g n ≡ listed h n
listed_ext g h zero e = refl
listed_ext g h (suc n) e = rw (listed_ext g h n (λ k l. e k (omega arith)), e n (omega arith))

pub length_front : (g : ℕ → ℕ) (n : ℕ) (d : List ℕ) → n ≤ length d → length (front g n d) ≡ length d
length_front g n d h = simp (length-append, length-listed, length-drop) (omega arith)

-- one more store
pub front-set : (g : ℕ → ℕ) (n : ℕ) (d : List ℕ) → n < length d → set (front g n d) n (g n) ≡ front g (suc n) d
front-set g n d h =
    ap (λ (r : List ℕ). set (listed g n ++ r) n (g n)) (drop-cons d n 0 h)
    ∙ set_at (listed g n) (get_or d n 0) (drop (suc n) d) (g n) n (length-listed g n)
    ∙ sym (append_assoc (listed g n) (g n ∷ []) (drop (suc n) d))

-- as a loop has it, at `n + 1`: the buffer is a front of d₀, and what is stored is the next value
pub front_next : (g : ℕ → ℕ) (n v : ℕ) (d d₀ : List ℕ) → d ≡ front g n d₀ → v ≡ g n → n < length d₀ → set d n v ≡ front g (n + 1) d₀
front_next g n v d d₀ e u h = rw (e, u, add-one) (front-set g n d₀ h)

-- ---- a buffer whose front is a function, read and changed at any place of the front
pub front_low : (g : ℕ → ℕ) (n : ℕ) (d : List ℕ) (i : ℕ) → i < n → get_or (front g n d) i 0 ≡ g i
front_low g n d i h = get_or-append (listed g n) (drop n d) 0 i (rw (length-listed g n) h) ∙ get_or-listed g n i h

pub front_high : (g : ℕ → ℕ) (n : ℕ) (d : List ℕ) (i : ℕ) → n ≤ i → get_or (front g n d) i 0 ≡ get_or d i 0
front_high g n d i h =
    let q : i ≡ n + (i - n) = omega arith in
    let t : i ≡ length (listed g n) + (i - n) = omega (arith, length-listed g n) in
    ap (λ (k : ℕ). get_or (front g n d) k 0) t ∙ get_or-append-add (listed g n) (drop n d) (i - n) 0
    ∙ get_or-drop n d (i - n) 0 ∙ ap (λ (k : ℕ). get_or d k 0) (sym q)

-- a buffer as long as d, g below n and as d from there on
pub front_of : (g : ℕ → ℕ) (n : ℕ) (d e : List ℕ) → n ≤ length d → length e ≡ length d
    → ((i : ℕ) → i < n → get_or e i 0 ≡ g i) → ((i : ℕ) → n ≤ i → get_or e i 0 ≡ get_or d i 0) → e ≡ front g n d
front_of g n d e h l a b =
    ext_get_or 0 e (front g n d) (l ∙ sym (length_front g n d h))
    (λ i u. by_cases (dec_lt i n) (λ c. a i c ∙ sym (front_low g n d i c)) (λ c. b i (omega arith) ∙ sym (front_high g n d i (omega arith))))

-- a store at k in the front: g becomes h
pub front_put : (g h : ℕ → ℕ) (n : ℕ) (d e : List ℕ) (k v : ℕ) → n ≤ length d → e ≡ front g n d → k < n → v ≡ h k
    → ((i : ℕ) → i < n → i ≢ k → g i ≡ h i) → set e k v ≡ front h n d
front_put g h n d e k v a w b u c =
    let m : length e ≡ length d = ap length w ∙ length_front g n d a in
    front_of h n d (set e k v) a (length-set e k v ∙ m)
    (λ i l.
    by_cases (ℕ_discrete i k)
    (λ q. rw q (get_or-set_same e k v 0 (omega arith) ∙ u))
    (λ q. get_or-set_other e k i v 0 q ∙ ap (λ (r : List ℕ). get_or r i 0) w ∙ front_low g n d i l ∙ c i l q))
    (λ i l. get_or-set_other e k i v 0 (λ q. omega arith) ∙ ap (λ (r : List ℕ). get_or r i 0) w ∙ front_high g n d i l)

pub front_ext : (g h : ℕ → ℕ) (n : ℕ) (d : List ℕ) → ((i : ℕ) → i < n → g i ≡ h i) → front g n d ≡ front h n d
front_ext g h n d e = ap (λ (r : List ℕ). r ++ drop n d) (listed_ext g h n e)

-- one front over another
pub front_over : (g h : ℕ → ℕ) (n : ℕ) (d : List ℕ) → front g n (front h n d) ≡ front g n d
front_over g h n d = ap (λ (r : List ℕ). listed g n ++ r) (drop_at (listed h n) (drop n d) n (length-listed h n))

-- zeros are 0 everywhere
pub get_or_zeros : (n i : ℕ) → ◌≡◌ {A = ℕ} (get_or (replicate n 0) i 0) 0
get_or_zeros zero i = refl
get_or_zeros (suc n) zero = refl
get_or_zeros (suc n) (suc i) = get_or_zeros n i

-- ---- a list of n elements, all x at first, that a loop fills from the front; k are filled
pub length-one_to : {A : Type 0} (f : ℕ → A) (n : ℕ) → length (one_to f n) ≡ n
length-one_to f zero = refl
length-one_to f (suc n) = simp (length-append, length-one_to f n) (omega arith)

-- element i of a list that begins with f 1, .., f n
pub get_or-one_to : {A : Type 0} (f : ℕ → A) (n : ℕ) (r : List A) (i : ℕ) (d : A) → i < n → get_or (one_to f n ++ r) i d ≡ f (suc i)
get_or-one_to f zero r i d h = absurd (omega arith)
get_or-one_to f (suc n) r i d h =
    rw (append_assoc (one_to f n) (f (suc n) ∷ []) r)
    (by_cases (dec_lt i n) (λ c. get_or-one_to f n (f (suc n) ∷ r) i d c)
    (λ c. let q : n ≡ i = omega arith in get_or_at (one_to f n) (f (suc n)) r d i (length-one_to f n ∙ q) ∙ ap (λ (k : ℕ). f (suc k)) q))

-- one more of them
pub one_to_next : {A : Type 0} (f : ℕ → A) (d : List A) (n k : ℕ) (x v : A) → k < n → d ≡ one_to f k ++ replicate (n - k) x → v ≡ f (suc k)
    → set d k v ≡ one_to f (k + 1) ++ replicate (n - (k + 1)) x
one_to_next f d n k x v h q e =
    let m : n - k ≡ suc (n - suc k) = omega arith in
    let r = replicate (n - suc k) x in
    rw (add-one k, q, m, e) (set_at (one_to f k) x r (f (suc k)) k (length-one_to f k) ∙ sym (append_assoc (one_to f k) (f (suc k) ∷ []) r))
