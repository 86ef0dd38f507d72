-- A text written into a buffer piece by piece.
use mathlib.Core.Path.{◌≡◌, refl, sym, ap, ◌∙◌}
use mathlib.Core.List.{List, [], ◌∷◌, ◌++◌}
use Prim.Native.Nat.{ℕ, suc, ◌+◌, ◌≤◌, ◌<◌}
use native.Mathlib.Numerals.{add-one}
use native.Mathlib.Omega.{arith}
use lib.ListN.{length, get_or, drop, set, length-append, drop_of_length-le}
use lib.Seq.{sets, drop-cons}
use Rattle.laws.specs.Serving.Pieces.{Begun}
use Rattle.laws.proofs.LentLaws.{stored_run}

-- one run of stores after another
pub sets_append : (a b l : List ℕ) (at : ℕ) → sets l at (a ++ b) ≡ sets (sets l at a) (at + length a) b
sets_append [] b l at = let q : at ≡ at + 0 = omega arith in ap (λ (k : ℕ). sets l k b) q
sets_append (x ∷ a) b l at =
    let q : suc at + length a ≡ at + suc (length a) = omega arith in
    sets_append a b (set l at x) (suc at) ∙ ap (λ (k : ℕ). sets (sets (set l at x) (suc at) a) k b) q

-- ---- a run copied element by element: what is left to store gives the whole
pub sets_next : (vs l : List ℕ) (at i : ℕ) → i < length vs
    → sets l (at + i) (drop i vs) ≡ sets (set l (at + i) (get_or vs i 0)) (at + (i + 1)) (drop (i + 1) vs)
sets_next vs l at i h =
    let q : suc (at + i) ≡ at + suc i = omega arith in
    rw (add-one i, drop-cons vs i 0 h) (ap (λ (k : ℕ). sets (set l (at + i) (get_or vs i 0)) k (drop (suc i) vs)) q)

pub sets_end : (vs l : List ℕ) (at i : ℕ) → length vs ≤ i → sets l at (drop i vs) ≡ l
sets_end vs l at i h = rw (drop_of_length-le vs h)

-- ---- pieces
pub begun_none : (d : List ℕ) → Begun d [] 0 d
begun_none d = record { place = refl; holds = refl }

pub begun_more : {d text e : List ℕ} {at : ℕ} (piece : List ℕ) {e' : List ℕ} {at' : ℕ} → Begun d text at e
    → at' ≡ at + length piece → e' ≡ sets e at piece → Begun d (text ++ piece) at' e'
begun_more {d} {text} {e} {at} piece {e'} {at'} b p h =
    record {
      place = simp length-append (omega (arith, b.place));
      holds =
          let q : at ≡ 0 + length text = omega (arith, b.place) in
          h ∙ ap (λ (l : List ℕ). sets l at piece) b.holds ∙ ap (λ (k : ℕ). sets (sets d 0 text) k piece) q
          ∙ sym (sets_append text piece d 0);
    }

-- at the end the text is the buffer's front, and the rest is as it was
pub begun_front : {d text e : List ℕ} {at : ℕ} → Begun d text at e → length text ≤ length d → e ≡ text ++ drop (length text) d
begun_front {d} {text} b h =
    let q : 0 + length text ≡ length text = omega arith in
    b.holds ∙ stored_run text d 0 (omega arith) ∙ ap (λ (k : ℕ). text ++ drop k d) q
