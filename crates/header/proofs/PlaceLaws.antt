-- One turn of the search for a byte, and where the fields of a definition can lie.
use mathlib.Core.Path.{◌≡◌, refl, ap, ◌∙◌}
use mathlib.Core.Logic.{by_cases}
use mathlib.Core.List.{List, [], ◌∷◌}
use Prim.Native.Nat.{ℕ, zero, suc, pred, ◌+◌, ◌≤◌, ◌<◌}
use native.Mathlib.Omega.{arith}
use native.Mathlib.Numerals.{add-one}
use native.Mathlib.Decide.{dec_lt}
use borrow.Author.Tests.{eq-eqb, ne_eqb, lt-ltb, le-ltb}
use lib.Dec.{eqb, ltb}
use lib.ListN.{length, get_or, drop, length-drop, drop_of_length-le}
use lib.Seq.{drop-cons}
use Rattle.laws.proofs.LowestLaws.{bool_cases}
use Rattle.grammar.specs.Words.{semicolon, colon, equals, comma, star}
use Rattle.header.specs.declared.Definition.{Definition}
use Rattle.header.specs.Places.{before, seek, count_of, span, name_end, count_end, thematic_index_end, last_end, definition, first_place}
use Rattle.header.specs.Places.{place_after, column}

-- the first b stands in the list, or at its end
before_le : (b : ℕ) (l : List ℕ) → before b l ≤ length l
before_le b [] = omega arith
before_le b (x ∷ l) = bool_cases (eqb x b) (λ t. rw t (omega arith)) (λ t. rw t (omega (arith, before_le b l)))

module _ (s : List ℕ) (p b : ℕ) where
  seek-at : p ≤ length s → seek s p b ≡ p + before b (drop p s)
  unfolding seek
  seek-at h =
      by_cases (dec_lt p (length s))
      (λ c. rw (lt-ltb p (length s) c))
      (λ c. let q : length s ≤ p = omega arith in rw (le-ltb p (length s) q, drop_of_length-le s q) (omega arith))

  pub seek_here : p < length s → get_or s p 0 ≡ b → p ≡ seek s p b
  seek_here h e = rw (seek-at (omega arith), drop-cons s p 0 h, eq-eqb (get_or s p 0) b e) (omega arith)

  pub seek_end : length s ≤ p → length s ≡ seek s p b
  unfolding seek
  seek_end h = rw (le-ltb p (length s) h)

  pub seek_le : seek s p b ≤ length s
  seek_le =
      by_cases (dec_lt p (length s))
      (λ c. rw (seek-at (omega arith)) (omega (arith, before_le b (drop p s), length-drop p s)))
      (λ c. rw (← seek_end (omega arith)) (omega arith))

pub seek_next : (s : List ℕ) (p b : ℕ) → p < length s → (get_or s p 0 ≡ b → ⊥) → seek s (p + 1) b ≡ seek s p b
seek_next s p b h e =
    rw (seek-at s p b (omega arith), seek-at s (p + 1) b (omega arith), drop-cons s p 0 h, ne_eqb (get_or s p 0) b e, add-one p) (omega arith)

-- a last name ends inside the head
pub last_le : (s : List ℕ) (e : ℕ) → e ≤ length s → last_end s e ≤ length s
last_le s e h = let q : pred e ≤ length s = omega arith in bool_cases (eqb (get_or s (pred e) 0) comma) (λ t. rw t q) (λ t. rw t h)

-- a name ends in the head, wherever its definition is read, and starts there
pub name_within : (s : List ℕ) (p : ℕ) → (definition s p).name.end ≤ length s
unfolding definition
name_within s p = seek_le s p equals

pub name-start : (s : List ℕ) (p : ℕ) → (definition s p).name.start ≡ p
unfolding definition
name-start s p = refl

-- no place is far past the head's end
place_near : (s : List ℕ) (k : ℕ) → place_after s k ≤ length s + 2
unfolding place_after first_place definition
place_near s zero = let h = seek_le s (seek s (seek s 4 semicolon + 1) semicolon + 1) semicolon in omega arith
place_near s (suc k) = let h = seek_le s (thematic_index_end s (place_after s k) + 1) colon in omega arith

-- what the code finds of a definition, one field after the other
module _ (s : List ℕ) (p a b c d e f g : ℕ) (A : a ≡ seek s p equals) (B : b ≡ seek s (a + 3) comma)
    (C : c ≡ seek s (b + 3) comma) (D : d ≡ seek s (c + 1) comma)
    (E : e ≡ seek s (d + 1) comma) (F : f ≡ seek s (e + 1) colon) (G : g ≡ last_end s f) (kind mark count key : ℕ)
    (K : kind ≡ get_or s (a + 1) 0) (M : mark ≡ get_or s (a + 3) 0)
    (N : count ≡ count_of s (a + 3) b) (Y : key ≡ get_or s (b + 1) 0) where
  pub defined :
      record {
        name = span p a;
        kind = kind;
        star = eqb mark star;
        count = count;
        key = key;
        comma = ltb g f;
        description = span (b + 3) c;
        value = span (c + 1) d;
        thematic = span (d + 1) e;
        narrative = span (e + 1) g;
        after = f + 1;
      }
      ≡ definition s p
  unfolding definition
  defined =
      let after : ℕ → ℕ → ℕ = λ k x. seek s (x + k) comma in
      let b' = B ∙ ap (after 3) A in
      let c' = C ∙ ap (after 3) b' in
      let d' = D ∙ ap (after 1) c' in
      let e' = E ∙ ap (after 1) d' in
      let f' = F ∙ ap (λ (x : ℕ). seek s (x + 1) colon) e' in
      let g' = G ∙ ap (last_end s) f' in
      let n' : count ≡ count_of s (name_end s p + 3) (count_end s p) = N ∙ (λ t. count_of s (A t + 3) (b' t)) in
      (λ t. record {
        name = span p (A t);
        kind = (K ∙ ap (λ (x : ℕ). get_or s (x + 1) 0) A) t;
        star = eqb ((M ∙ ap (λ (x : ℕ). get_or s (x + 3) 0) A) t) star;
        count = n' t;
        key = (Y ∙ ap (λ (x : ℕ). get_or s (x + 1) 0) b') t;
        comma = ltb (g' t) (f' t);
        description = span (b' t + 3) (c' t);
        value = span (c' t + 1) (d' t);
        thematic = span (d' t + 1) (e' t);
        narrative = span (e' t + 1) (g' t);
        after = f' t + 1;
      })

-- ---- a loop over the columns that carries the place: `at` is the place after k definitions, d the definition read there
pub at_first : (s : List ℕ) (at : ℕ) → at ≡ first_place s → at ≡ place_after s 0
unfolding place_after
at_first s at e = e

module _ (s : List ℕ) (k at : ℕ) (d : Definition) (e : at ≡ place_after s k) (q : d ≡ definition s at) where
  pub is_column : d ≡ column s (suc k)
  is_column = q ∙ ap (definition s) e

  pub at_next : d.after ≡ place_after s (k + 1)
  unfolding place_after
  at_next = rw add-one (ap (λ (x : Definition). x.after) is_column)

  -- its name starts and ends near the head's end at most
  pub name_near : (d.name.start ≤ length s + 2) × (d.name.end ≤ length s)
  name_near = rw (q, name-start s at, e) (place_near s k, name_within s (place_after s k))
