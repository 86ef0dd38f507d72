-- The tests of a header in document 01's order: nothing is refused exactly where all of them hold, and a number at a place exactly
-- where one fails so while all earlier ones hold.
use mathlib.Core.Path.{◌≡◌, refl, sym, ap, subst, ◌∙◌}
use mathlib.Core.Logic.{◌↔◌}
use mathlib.Core.List.{List, [], ◌∷◌}
use Prim.Native.Nat.{ℕ, ◌+◌, ◌<◌}
use native.Mathlib.Omega.{arith}
use lib.ListN.{length, get_or}
use Rattle.refusal.specs.Order.{refusal}
use Rattle.refusal.proofs.JudgedLaws.{InOrder, fine_exactly, refused-exactly, lowest_one, fails_not_each}
use Rattle.laws.proofs.TestLaws.{clash}
use Rattle.grammar.specs.Words.{Reading, Reads}
use Rattle.grammar.proofs.FirstBadByte.{first_bad_byte}
use Rattle.grammar.proofs.GrammarExact.{grammar_exact}
use Rattle.header.specs.Judge.{tests, header_refusal}
use Rattle.header.specs.Refusals.{SaysLength, text_in, OfLength, OfReading, LeavesGrammar, Test, five_bytes, order_letter, text_fits}
use Rattle.header.specs.Refusals.{text_limit, in_grammar, columns_sound, columns_limit, names_differ, one_id, rank, Holds, FailsAt}
use Rattle.header.specs.Refusals.{RefusedWith}
use Rattle.header.proofs.TestsInWords.{length_said, one_text, judged_five, judged_letter, judged_fits, judged_limit, judged_grammar}
use Rattle.header.proofs.TestsInWords.{judged-sound, judged_columns, judged_names, judged_id}

-- no two tests have one place in the order
order : List Test
order = five_bytes ∷ order_letter ∷ text_fits ∷ text_limit ∷ in_grammar ∷ columns_sound ∷ columns_limit ∷ names_differ ∷ one_id ∷ []

at-rank : (x : Test) → get_or order (rank x) one_id ≡ x
unfolding order
at-rank five_bytes = refl
at-rank order_letter = refl
at-rank text_fits = refl
at-rank text_limit = refl
at-rank in_grammar = refl
at-rank columns_sound = refl
at-rank columns_limit = refl
at-rank names_differ = refl
at-rank one_id = refl

apart : (x y : Test) → rank x ≡ rank y → x ≡ y
apart x y e = sym (at-rank x) ∙ ap (λ (k : ℕ). get_or order k one_id) e ∙ at-rank y

rank_below : (x : Test) → rank x < 9
rank_below five_bytes = omega arith
rank_below order_letter = omega arith
rank_below text_fits = omega arith
rank_below text_limit = omega arith
rank_below in_grammar = omega arith
rank_below columns_sound = omega arith
rank_below columns_limit = omega arith
rank_below names_differ = omega arith
rank_below one_id = omega arith

module _ (file : List ℕ) where
  -- each test is judged while the earlier ones hold: L needs the order letter, the columns need a reading, `id` names that differ
  in_order : InOrder Test rank apart (Holds file) (FailsAt file) (tests file) 0
  in_order = (
    (five_bytes, refl, λ e. judged_five file),
    (
      (order_letter, refl, λ e. judged_letter file),
      (
        (text_fits, refl, λ e. judged_fits file (e order_letter (omega arith))),
        (
          (text_limit, refl, λ e. judged_limit file (e order_letter (omega arith))),
          (
            (in_grammar, refl, λ e. judged_grammar file (e order_letter (omega arith))),
            (
              (columns_sound, refl, λ e. let r = e in_grammar (omega arith) in judged-sound file r.0 r.1),
              (
                (columns_limit, refl, λ e. let r = e in_grammar (omega arith) in judged_columns file r.0 r.1),
                (
                  (names_differ, refl, λ e. let r = e in_grammar (omega arith) in judged_names file r.0 r.1),
                  ((one_id, refl, λ e. let r = e names_differ (omega arith) in judged_id file r.0 r.1 r.2), tt),
                ),
              ),
            ),
          ),
        ),
      ),
    ),
  )

  -- ---- L is one number, and the reading is one
  pub one_length : (l m : ℕ) → SaysLength file l → SaysLength file m → l ≡ m
  one_length l m a b = sym (length_said file l a) ∙ length_said file m b

  same_length : (P Q : ℕ → Type 0) → OfLength file P → OfLength file Q → (l : ℕ) × P l × Q l
  same_length P Q a b = (a.0, a.2, subst Q (one_length b.0 a.0 b.1 a.1) b.2)

  same_reading : (P Q : Reading → Type 0) → OfReading file P → OfReading file Q → (h : Reading) × P h × Q h
  same_reading P Q a b = (a.0, a.2, subst Q (one_text file b.0 a.0 b.1 a.1) b.2)

  -- a text that leaves the grammar does so at one place, and has no reading
  one_leaving : (s : List ℕ) (p q : ℕ) → LeavesGrammar s p → LeavesGrammar s q → p ≡ q
  one_leaving s p q a b =
      let u = (first_bad_byte s a.byte).1 a.leaves in
      let v = (first_bad_byte s b.byte).1 b.leaves in
      let same : a.byte ≡ b.byte = cc (u, v) in
      a.place ∙ ap (λ (i : ℕ). i + 4) same ∙ sym b.place

  not_left : (s : List ℕ) (p : ℕ) (h : Reading) → LeavesGrammar s p → Reads s h → ⊥
  not_left s p h a r =
      let u = (first_bad_byte s a.byte).1 a.leaves in
      let v = (grammar_exact (length h.columns) s).1 (h, r, refl) in
      clash (cc (u, v))

  -- ---- a test does not both hold and fail
  not_both : (x : Test) (n p : ℕ) → FailsAt file x n p → Holds file x → ⊥
  not_both five_bytes n p f h = omega (arith, f.2)
  not_both order_letter n p f h = f.2 h
  not_both text_fits n p f h = let w = same_length _ _ f.2 h in omega (arith, w.1, w.2)
  not_both text_limit n p f h = let w = same_length _ _ f.2 h in omega (arith, w.1, w.2)
  not_both in_grammar n p f h =
      let t = h.1 in
      let e = one_length f.1.0 t.text_length f.1.1 t.says in
      not_left (text_in file t.text_length) p h.0 (subst (λ (l : ℕ). LeavesGrammar (text_in file l) p) e f.1.2) t.reads
  not_both columns_sound n p f h = let w = same_reading _ _ f.1 h in fails_not_each _ _ p w.1 w.2
  not_both columns_limit n p f h = let w = same_reading _ _ f.2 h in omega (arith, w.1, w.2)
  not_both names_differ n p f h = let w = same_reading _ _ f.1 h in fails_not_each _ _ p w.1 w.2
  not_both one_id n p f h = let w = same_reading _ _ f.2 h in w.1 w.2

  -- nor fail in two ways
  one_way : (x : Test) (n p m q : ℕ) → ((y : Test) → rank y < rank x → Holds file y) → FailsAt file x n p
      → FailsAt file x m q → (n ≡ m) × (p ≡ q)
  one_way five_bytes n p m q e f g = (f.0 ∙ sym g.0, f.1 ∙ sym g.1)
  one_way order_letter n p m q e f g = (f.0 ∙ sym g.0, f.1 ∙ sym g.1)
  one_way text_fits n p m q e f g = (f.0 ∙ sym g.0, f.1 ∙ sym g.1)
  one_way text_limit n p m q e f g = (f.0 ∙ sym g.0, f.1 ∙ sym g.1)
  one_way in_grammar n p m q e f g = let w = same_length _ _ f.1 g.1 in
      (f.0 ∙ sym g.0, one_leaving (text_in file w.0) p q w.1 w.2)
  one_way columns_sound n p m q e f g = let w = same_reading _ _ f.1 g.1 in (f.0 ∙ sym g.0, lowest_one _ _ p q w.1 w.2)
  one_way columns_limit n p m q e f g = (f.0 ∙ sym g.0, f.1 ∙ sym g.1)
  one_way names_differ n p m q e f g = let w = same_reading _ _ f.1 g.1 in (f.0 ∙ sym g.0, lowest_one _ _ p q w.1 w.2)
  one_way one_id n p m q e f g = (f.0 ∙ sym g.0, f.1 ∙ sym g.1)

  -- NOTHING IS REFUSED EXACTLY WHERE ALL TESTS HOLD
  pub all_hold_exactly : ((header_refusal file).number ≡ 0) ↔ ((x : Test) → Holds file x)
  unfolding header_refusal
  all_hold_exactly = fine_exactly Test rank apart (Holds file) (FailsAt file) (tests file) in_order rank_below not_both one_way

  -- n AT p IS REFUSED EXACTLY WHERE a test fails so and all earlier ones hold
  pub first_fails_exactly : (n p : ℕ) → ((header_refusal file ≡ refusal n p) × (n ≡ 0 → ⊥)) ↔ RefusedWith file n p
  unfolding header_refusal
  first_fails_exactly n p =
      let w = refused-exactly Test rank apart (Holds file) (FailsAt file) (tests file) in_order rank_below not_both one_way n p in (
        λ e. let f = w.0 e in record { test = f.test; earlier = f.earlier; fails = f.fails },
        λ f. w.1 (record { test = f.test; earlier = f.earlier; fails = f.fails }),
      )
