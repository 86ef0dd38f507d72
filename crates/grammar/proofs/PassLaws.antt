-- The rest of a scan past a field, a star, the end of the columns: as if each byte were read by itself.
use mathlib.Core.Path.{◌≡◌, refl, sym, ap, ◌∙◌}
use mathlib.Core.Bool.{true}
use mathlib.Core.List.{List}
use Prim.Native.Nat.{ℕ, zero, suc, ◌+◌, ◌≤◌, ◌<◌}
use native.Mathlib.Omega.{arith}
use native.Mathlib.Nat.{add-zero, add-suc}
use native.Mathlib.Numerals.{add-one}
use Rattle.std.proofs.lemmas.Bool.Decides.{nat_tests}
use lib.ListN.{length, get_or}
use borrow.Author.Count.{below_none, below_more}
use borrow.Author.Tests.{lt-ltb}
use Rattle.laws.specs.Machine.{go}
use Rattle.laws.proofs.MachineLaws.{run_next, run_end}
use Rattle.grammar.specs.Words.{semicolon, colon, star}
use Rattle.grammar.specs.Fields.{rule, printable, plain, digit, holds, allowed}
use Rattle.grammar.specs.Scan.{spot, takes, closes, ends, stars, machine, start, answer, scan_of}
use Rattle.grammar.specs.Serving.Passing.{rest_of, stands, Run, Shut, Past}
use Rattle.grammar.specs.Scan.{closed}
use Rattle.grammar.specs.declared.Field.{Field}
use Rattle.grammar.specs.declared.Field.TheVariants.{OrderLetter, Name, Numeral, AfterStar, Narrative, TextEnd}
use Rattle.grammar.specs.declared.Class.{Class}
use Rattle.grammar.specs.declared.Class.TheVariants.{Plain}
use Rattle.grammar.specs.declared.Rule.{Rule}
use Rattle.grammar.specs.declared.Spot.{Spot}
use Rattle.std.specs.Prelude.{Ok}
use Rattle.grammar.proofs.MachineMoves.{take_step, end_step, star_step, closing, ending}

pub stands_says : (s : List ℕ) (i b : ℕ) → stands s i b ≡ true → (i < length s) × (get_or s i 0 ≡ b)
unfolding stands
stands_says s i b e =
    (grind (arith, nat_tests), grind (arith, nat_tests))

module _ (s : List ℕ) where
  -- all of the text is left
  pub rest_all : rest_of s start 0 ≡ scan_of s
  unfolding rest_of scan_of
  rest_all = refl

  rest_next : (at at' : Spot) (i : ℕ) → i < length s → machine at (get_or s i 0) ≡ go at' → rest_of s at i ≡ rest_of s at' (i + 1)
  unfolding rest_of
  rest_next at at' i h e = rw add-one (ap (answer (length s)) (run_next machine s at i at' h e))

  -- ---- the bytes of a field, and its closer

  pub run_none : {k : Class} {most i : ℕ} → i ≤ length s → Run s k most i 0
  run_none {k} {most} {i} h = record {
    room = omega arith;
    within = omega arith;
    bytes = below_none
        (λ j. allowed k j (get_or s (i + j) 0) ≡ true);
  }

  pub run_more : {k : Class} {most i n : ℕ} → Run s k most i n → n < most → i + n < length s → allowed k n (get_or s (i + n) 0) ≡ true
      → Run s k most i (n + 1)
  run_more {k} {most} {i} {n} r h l e = record {
    room = omega arith;
    within = omega arith;
    bytes = below_more (λ j. allowed k j (get_or s (i + j) 0) ≡ true) n r.bytes e;
  }

  one_less : {k : Class} {most i n : ℕ} → Run s k most i (suc n) → Run s k most i n
  one_less r = record { room = omega (arith, r.room); within = omega (arith, r.within); bytes = λ j h. r.bytes j (omega arith) }

  run_takes : (f : Field) (n b : ℕ) → n < (rule f).most → allowed (rule f).holds n b ≡ true → takes f n b ≡ true
  unfolding takes
  run_takes f n b h e = simp (lt-ltb n (rule f).most h, e)

  rest_run : (f : Field) (cols i n : ℕ) → Run s (rule f).holds (rule f).most i n
      → rest_of s (spot f 0 cols) i ≡ rest_of s (spot f n cols) (i + n)
  rest_run f cols i zero r = rw add-zero
  rest_run f cols i (suc n) r =
      let t = run_takes f n (get_or s (i + n) 0) (omega (arith, r.room)) (r.bytes n (omega arith)) in
      rw (add-suc, ← add-one n, ← add-one (i + n))
      (rest_run f cols i n (one_less r)
      ∙ rest_next (spot f n cols) (spot f (n + 1) cols) (i + n) (omega (arith, r.within)) (take_step f n cols (get_or s (i + n) 0) t))

  -- and the byte that leads from it to another spot once it has enough
  rest_word : (f : Field) (end : ℕ) (to : Spot) (cols i n r : ℕ) → ((n : ℕ) → (rule f).least ≤ n → machine (spot f n cols) end ≡ go to)
      → Run s (rule f).holds (rule f).most i n → Shut s i n (rule f).least end r → rest_of s (spot f 0 cols) i ≡ rest_of s to r
  rest_word f end to cols i n r on u h =
      rw h.place
      (rest_run f cols i n u ∙ rest_next (spot f n cols) to (i + n) (omega (arith, h.place, h.within)) (rw h.byte (on n h.enough)))

  -- ---- a star; the end of the columns and of the text

  module _ (cols i : ℕ) where
    starred : machine (spot Numeral 0 cols) star ≡ go (spot AfterStar 0 cols)
    unfolding takes allowed printable holds digit closes ends stars
    starred = star_step Numeral 0 cols star refl refl refl refl

    pub rest_star : stands s i star ≡ true → rest_of s (spot Numeral 0 cols) i ≡ rest_of s (spot AfterStar 0 cols) (i + 1)
    rest_star e =
        let h = stands_says s i star e in
        rest_next (spot Numeral 0 cols) (spot AfterStar 0 cols) i h.0 (rw h.1 starred)

    over : 0 < cols → machine (spot Name 0 cols) semicolon ≡ go (spot TextEnd 0 cols)
    unfolding takes allowed printable holds plain closes ends
    over some = end_step Name 0 cols semicolon refl refl (lt-ltb 0 cols some)

    nothing_left : i + 1 ≡ length s → rest_of s (spot TextEnd 0 cols) (i + 1) ≡ Ok cols
    unfolding rest_of
    nothing_left last = rw (run_end machine s (spot TextEnd 0 cols) (i + 1) (omega (arith, last)))

    pub rest_end : stands s i semicolon ≡ true → 0 < cols → i + 1 ≡ length s → rest_of s (spot Name 0 cols) i ≡ Ok cols
    rest_end e some last =
        let h = stands_says s i semicolon e in
        rest_next (spot Name 0 cols) (spot TextEnd 0 cols) i h.0 (rw h.1 (over some)) ∙ nothing_left last

  -- ---- the ways past

  pub past_field : (f : Field) {u : Rule} {k : Class} {i n r : ℕ} → u ≡ rule f → (rule f).holds ≡ k → Run s k u.most i n
      → Shut s i n u.least u.closer r → Past s i r (spot f 0) (closed f)
  past_field f {u} {k} {i} {n} {r} e p b z = record {
    within = z.within;
    further = omega (arith, z.place);
    same = λ cols. rest_word f (rule f).closer (closed f cols) cols i n r (closing f cols) (rw p (rw e at b)) (rw e at z);
  }

  -- a column's last name and a colon without its comma
  pub past_bare : {u : Rule} {i n r : ℕ} → u ≡ rule Narrative → Run s Plain u.most i n → Shut s i n u.least colon r
      → Past s i r (spot Narrative 0) (λ cols. spot Name 0 (cols + 1))
  past_bare {u} {i} {n} {r} e b z = record {
    within = z.within;
    further = omega (arith, z.place);
    same = λ cols. rest_word Narrative colon (spot Name 0 (cols + 1)) cols i n r (ending cols) (rw e at b) (rw e at z);
  }

  pub past_star : (i : ℕ) → stands s i star ≡ true → Past s i (i + 1) (spot Numeral 0) (spot AfterStar 0)
  past_star i e = record { within = omega (arith, (stands_says s i star e).0); further = omega arith; same = λ cols. rest_star cols i e }

  pub past_both : {i q r : ℕ} {a b c : ℕ → Spot} → Past s i q a b → Past s q r b c → Past s i r a c
  past_both f g = record { within = g.within; further = omega (arith, f.further, g.further); same = λ cols. f.same cols ∙ g.same cols }

  -- ---- columns counted

  -- past some columns, whose number is below the place that is reached
  pub record Counted (at cols : ℕ) : Type 0 where
    pub within : at ≤ length s
    pub fewer : cols < at
    pub some : 0 < cols
    pub same : rest_of s (spot Name 0 cols) at ≡ scan_of s

  abbrev pub PastColumn : ℕ → ℕ → Type 0
  PastColumn i r = Past s i r (spot Name 0) (λ cols. spot Name 0 (cols + 1))

  pub counted_first : {t r : ℕ} → Past s 0 t (spot OrderLetter 0) (spot Name 0) → PastColumn t r → Counted r 1
  counted_first f g = record {
    within = g.within;
    fewer = omega (arith, f.further, g.further);
    some = omega arith;
    same = sym (f.same 0 ∙ g.same 0) ∙ rest_all;
  }

  pub counted_more : {i r cols : ℕ} → Counted i cols → PastColumn i r → Counted r (cols + 1)
  counted_more {i} {r} {cols} k g = record {
    within = g.within;
    fewer = omega (arith, k.fewer, g.further);
    some = omega arith;
    same = sym (g.same cols) ∙ k.same;
  }

  pub counted_all : {i cols : ℕ} → Counted i cols → stands s i semicolon ≡ true → i + 1 ≡ length s → scan_of s ≡ Ok cols
  counted_all {i} {cols} k e last = sym k.same ∙ rest_end cols i e k.some last
