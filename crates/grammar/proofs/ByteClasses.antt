-- The machine's test of a byte says what the paper says of the bytes of a field.
use mathlib.Core.Path.{◌≡◌}
use mathlib.Core.Bool.{true, not}
use mathlib.Core.Logic.{◌⊎◌, inl, inr, ◌↔◌}
use Prim.Native.Nat.{ℕ, ◌≤◌, ◌<◌}
use native.Mathlib.Omega.{arith}
use lib.ListN.{length, get_or}
use Rattle.std.proofs.lemmas.Bool.Decides.{nat_tests}
use mathlib.Core.List.{List}
use lib.Dec.{ltb, eqb}
use borrow.Author.Tests.{lt-ltb, eq-eqb, ne_eqb, ltb-true, eqb-false, not-true}
use Rattle.laws.proofs.TestLaws.{both_true}
use Rattle.grammar.specs.Words as words
use Rattle.grammar.specs.Words.{semicolon, colon, comma, equals, Printable, Digit, Text}
use Rattle.grammar.specs.Fields.{rule, printable, letter, plain, digit, holds, allowed}
use Rattle.grammar.specs.Scan.{takes}
use Rattle.grammar.specs.declared.Field.{Field}
use Rattle.grammar.specs.declared.Class.{Class}
use Rattle.grammar.specs.declared.Class.TheVariants.{Letters, NoSemicolon, Plain, Digits}

-- b may stand as byte n of a field that holds the class, in the paper's words
abbrev pub Holds : Class → ℕ → ℕ → Type 0
Holds Letters n b = (b ≡ 76) ⊎ (b ≡ 77)
Holds NoSemicolon n b = Printable b × words.NoSemicolon b
Holds Plain n b = words.Plain b
Holds Digits n b = Digit b × (n ≡ 0 → b ≡ 48 → ⊥)

-- ---- from the paper's words to the test

to_printable : (b : ℕ) → Printable b → printable b ≡ true
unfolding printable
to_printable b h = grind (arith, nat_tests)

to_digit : (n b : ℕ) → Digit b → (n ≡ 0 → b ≡ 48 → ⊥) → digit n b ≡ true
unfolding digit
to_digit n b h f = grind (arith, nat_tests)

to_allowed : (k : Class) (n b : ℕ) → Holds k n b → allowed k n b ≡ true
unfolding allowed holds letter plain
to_allowed Letters n b (inl e) = simp (to_printable b (rw e (omega arith)), eq-eqb b 76 e)
to_allowed Letters n b (inr e) = simp (to_printable b (rw e (omega arith)), ne_eqb b 76 (λ q. omega arith), eq-eqb b 77 e)
to_allowed NoSemicolon n b h = simp (to_printable b h.0, ne_eqb b semicolon h.1)
to_allowed Plain n b h =
    simp (
      to_printable b h.printable,
      ne_eqb b semicolon h.no_semicolon,
      ne_eqb b colon h.no_colon,
      ne_eqb b comma h.no_comma,
      ne_eqb b equals h.no_equals,
    )
to_allowed Digits n b h =
    let d = h.0 in
    let p : Printable b = (omega arith, omega arith) in
    simp (to_printable b p, to_digit n b d h.1)

-- ---- from the test to the paper's words

of_printable : (b : ℕ) → printable b ≡ true → Printable b
unfolding printable
of_printable b e = (grind (arith, nat_tests), grind (arith, nat_tests))

of_letter : (b : ℕ) → letter b ≡ true → (b ≡ 76) ⊎ (b ≡ 77)
unfolding letter
of_letter b e = grind (arith, nat_tests)

of_plain : (b : ℕ) → Printable b → plain b ≡ true → words.Plain b
unfolding plain
of_plain b p e =
    record {
      printable = p;
      no_semicolon = λ z. grind (arith, nat_tests);
      no_colon = λ z. grind (arith, nat_tests);
      no_comma = λ z. grind (arith, nat_tests);
      no_equals = λ z. grind (arith, nat_tests);
    }

of_digit : (n b : ℕ) → digit n b ≡ true → Digit b × (n ≡ 0 → b ≡ 48 → ⊥)
unfolding digit
of_digit n b e = ((grind (arith, nat_tests), grind (arith, nat_tests)), λ z q. grind (arith, nat_tests))

of_allowed : (k : Class) (n b : ℕ) → allowed k n b ≡ true → Holds k n b
unfolding allowed holds
of_allowed Letters n b e = let h = both_true (printable b) (letter b) e in of_letter b h.1
of_allowed NoSemicolon n b e =
    let h = both_true (printable b) (not (eqb b semicolon)) e in
    (of_printable b h.0, eqb-false b semicolon (not-true (eqb b semicolon) h.1))
of_allowed Plain n b e = let h = both_true (printable b) (plain b) e in of_plain b (of_printable b h.0) h.1
of_allowed Digits n b e = let h = both_true (printable b) (digit n b) e in of_digit n b h.1

-- b may stand as byte n of a field of the class, exactly when the paper says so
pub allowed_exactly : (k : Class) (n b : ℕ) → (allowed k n b ≡ true) ↔ Holds k n b
allowed_exactly k n b = (of_allowed k n b, to_allowed k n b)

-- ---- a field's bytes

-- the machine takes a byte, exactly when there is room for it and it may stand there
pub takes_exactly : (f : Field) (n b : ℕ) → (takes f n b ≡ true) ↔ ((n < (rule f).most) × Holds (rule f).holds n b)
unfolding takes
takes_exactly f n b = (
  (λ e.
      let h = both_true (ltb n (rule f).most) (allowed (rule f).holds n b) e in
      (ltb-true n (rule f).most h.0, of_allowed (rule f).holds n b h.1)),
  (λ h. simp (lt-ltb n (rule f).most h.0, to_allowed (rule f).holds n b h.1)),
)

-- w may stand as the field
pub record Word (f : Field) (w : List ℕ) : Type 0 where
  pub long : (rule f).least ≤ length w
  pub short : length w ≤ (rule f).most
  pub bytes : (k : ℕ) → k < length w → Holds (rule f).holds k (get_or w k 0)

-- a text of the paper is such a word, and such a word a text, where the bytes say the same
module _ (f : Field) (Allowed : ℕ → Type 0) (w : List ℕ) where
  pub text_word : ((k b : ℕ) → Allowed b → Holds (rule f).holds k b) → Text (rule f).least (rule f).most Allowed w → Word f w
  text_word c t = record { long = t.least-bytes; short = t.most_bytes; bytes = λ k h. c k (get_or w k 0) (t.bytes k h) }

  pub word_text : ((k b : ℕ) → Holds (rule f).holds k b → Allowed b) → Word f w → Text (rule f).least (rule f).most Allowed w
  word_text c t = record { least-bytes = t.long; most_bytes = t.short; bytes = λ k h. c k (get_or w k 0) (t.bytes k h) }
