-- Two texts compared byte by byte, case ignored: one turn of the loop; and names found by where they lie.
use mathlib.Core.Path.{◌≡◌, refl, sym, ap, ◌∙◌}
use mathlib.Core.Bool.{Bool, true, false, ◌&&◌}
use mathlib.Core.List.{List, [], ◌∷◌}
use Prim.Native.Nat.{ℕ, zero, suc, min, ◌+◌, ◌-◌, ◌≤◌, ◌<◌}
use native.Mathlib.Omega.{arith}
use native.Mathlib.Numerals.{add-one}
use borrow.Author.Tests.{eq-eqb, ne_eqb, lt-ltb}
use lib.Dec.{eqb}
use lib.ListN.{length, get_or, take, drop, replicate, drop_of_length-le}
use lib.Seq.{drop-cons, take-take}
use Rattle.laws.specs.Lowest.{lowest, None}
use Rattle.laws.proofs.LowestLaws.{lowest_found, lowest_nothing, lowest_ext}
use Rattle.laws.proofs.BufferLaws.{get_or-one_to}
use Rattle.laws.proofs.PlaceLaws.{drop-take, part_cut}
use mathlib.Core.Logic.{by_cases}
use native.Mathlib.Decide.{dec_le}
use native.Mathlib.Nat.{min-eq_left, min-eq_right}
use Rattle.limits.specs.Limits.{most_columns}
use Rattle.header.specs.declared.Span.{Span}
use Rattle.header.specs.declared.Names.{Names}
use Rattle.header.specs.Places.{part, place_after, column}
use Rattle.header.specs.Names.{lower, same_text, name_of, same_name, named_before, is_named, column_named, span_of, no_span, names_of, part_at, name_among, is_among}
use Rattle.header.proofs.PlaceLaws.{name_within, name-start}

-- texts of two lengths differ
pub same_length : (a b : List ℕ) → (length a ≡ length b → ⊥) → false ≡ same_text a b
same_length [] [] h = absurd (h refl)
same_length [] (y ∷ l) h = refl
same_length (x ∷ k) [] h = refl
same_length (x ∷ k) (y ∷ l) h = either (eqb (lower x) (lower y)) (same_length k l (λ e. h (ap suc e)))
  where
    either : (t : Bool) → {u : Bool} → false ≡ u → false ≡ (t && u)
    either true e = e
    either false e = refl

module _ (a b : List ℕ) (i : ℕ) (h : i < length a) (l : length a ≡ length b) where
  pub same_next : lower (get_or a i 0) ≡ lower (get_or b i 0) → same_text (drop (i + 1) a) (drop (i + 1) b) ≡ same_text (drop i a) (drop i b)
  same_next e = rw (drop-cons a i 0 h, drop-cons b i 0 (omega arith), eq-eqb (lower (get_or a i 0)) (lower (get_or b i 0)) e, add-one i)

  pub same_stop : (lower (get_or a i 0) ≡ lower (get_or b i 0) → ⊥) → false ≡ same_text (drop i a) (drop i b)
  same_stop e = rw (drop-cons a i 0 h, drop-cons b i 0 (omega arith), ne_eqb (lower (get_or a i 0)) (lower (get_or b i 0)) e)

pub same_end : (a b : List ℕ) (i : ℕ) → length a ≤ i → length a ≡ length b → true ≡ same_text (drop i a) (drop i b)
same_end a b i h l = let k : length b ≤ i = omega arith in rw (drop_of_length-le a h, drop_of_length-le b k)

-- ---- names by where they lie
-- of a part that is the name of column k + 1
pub among_said : (file : List ℕ) (names : Names) (name : List ℕ) (k : ℕ) (piece : List ℕ) → piece ≡ name_among file names (suc k)
    → (r : Bool) → r ≡ same_text piece name → is_among file names name (suc k) ≡ r
unfolding is_among
among_said file names name k piece p r t = sym (t ∙ ap (λ (x : List ℕ). same_text x name) p)

-- a part is cut where the file ends
module _ (file : List ℕ) (start end m : ℕ) (h : m ≡ min end (length file)) where
  pub part_within : take (m - start) (drop start file) ≡ take (end - start) (drop start file)
  part_within =
      by_cases (dec_le end (length file))
      (λ c. let q : m ≡ end = h ∙ min-eq_left c in rw q)
      (λ c. let q : m ≡ length file = h ∙ min-eq_right (omega arith) in rw q (part_cut file start (end - start) (omega arith)))

  pub part_empty : m ≤ start → [] ≡ take (end - start) (drop start file)
  part_empty l = let z : m - start ≡ 0 = omega arith in rw z at part_within

-- the part of a head is the same part of its file
pub part_head : (file : List ℕ) (m : ℕ) (x : Span) → x.end ≤ m → part file x ≡ part (take m file) x
part_head file m x h =
    rw (drop-take x.start m file) (sym (take-take (x.end - x.start) (m - x.start) (drop x.start file) (omega arith)))

module _ (s : List ℕ) (n i : ℕ) (h : i < n) where
  pub span-at : get_or (names_of s n).spans i no_span ≡ span_of s (suc i)
  unfolding names_of
  span-at = get_or-one_to (span_of s) n (replicate (most_columns - n) no_span) i no_span h

  among_at : (file : List ℕ) → name_among file (names_of s n) (suc i) ≡ part file (column s (suc i)).name
  among_at file = ap (part_at file) span-at

  -- a column starts where its name does
  pub starts-at : (names : Names) → names ≡ names_of s n → (get_or names.spans i no_span).start ≡ place_after s i
  starts-at names e = (λ t. (get_or (e t).spans i no_span).start) ∙ (λ t. (span-at t).start) ∙ name-start s (place_after s i)

-- the column of a name, sought among the gathered names in the head or in the whole file
module _ (file s : List ℕ) (same : (x : Span) → x.end ≤ length s → part file x ≡ part s x) (n : ℕ) (name : List ℕ) where
  tested : (k : ℕ) → 0 < k → k ≤ n → is_among file (names_of s n) name k ≡ is_named s name k
  unfolding is_among is_named
  tested zero a b = absurd (omega arith)
  tested (suc i) a b =
      ap (λ (x : List ℕ). same_text x name) (among_at s n i (omega arith) file ∙ same (column s (suc i)).name (name_within s (place_after s i)))

  pub named_among : lowest (is_among file (names_of s n) name) n ≡ column_named s n name
  unfolding column_named
  named_among = lowest_ext (is_among file (names_of s n) name) (is_named s name) n tested

-- ---- the search over pairs of columns, counted from 0: what the gathered names say of columns i + 1 and j + 1
-- an earlier column i has the name of column later + 1
abbrev pub names_as : List ℕ → ℕ → ℕ → Bool
names_as s later i = same_name s i (suc later)

module _ (s : List ℕ) (n : ℕ) (names : Names) (e : names ≡ names_of s n) where
  pub name-at : (i : ℕ) → i < n → name_among s names (suc i) ≡ name_of s (suc i)
  name-at i h = (λ t. name_among s (e t) (suc i)) ∙ among_at s n i h s

  pub pair_said : (i j : ℕ) (a b : List ℕ) (r : Bool) → i < n → j < n
      → a ≡ name_among s names (suc i) → b ≡ name_among s names (suc j) → r ≡ same_text a b → names_as s j (suc i) ≡ r
  unfolding same_name
  pair_said i j a b r h l p q t = sym (t ∙ (λ u. same_text ((p ∙ name-at i h) u) ((q ∙ name-at j l) u)))

module _ (s : List ℕ) (earlier later : ℕ) (h : None (names_as s later) earlier) where
  pub no_earlier : earlier ≡ later → named_before s (suc later) ≡ false
  no_earlier q = rw (lowest_nothing (names_as s later) later (rw q at h))

  pub an_earlier : earlier < later → names_as s later (suc earlier) ≡ true → named_before s (suc later) ≡ true
  an_earlier l t = rw (lowest_found (names_as s later) later earlier l h t) (lt-ltb 0 (suc earlier) (omega arith))
