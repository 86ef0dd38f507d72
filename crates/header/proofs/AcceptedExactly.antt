-- A HEADER IS ACCEPTED EXACTLY WHEN it meets the grammar, its column rules and its limits, with one reading.
use mathlib.Core.Path.{◌≡◌, refl, subst}
use mathlib.Core.Logic.{◌↔◌}
use mathlib.Core.List.{List}
use Rattle.std.specs.Prelude.{Ok}
use Prim.Native.Nat.{ℕ, ◌+◌, ◌≤◌}
use borrow.Author.Tests.{eqb-true, eq-eqb}
use lib.Dec.{eqb}
use lib.ListN.{length}
use Rattle.laws.proofs.LowestLaws.{bool_cases}
use Rattle.laws.proofs.TestLaws.{clash}
use Rattle.refusal.specs.declared.Refusal.{Refusal}
use Rattle.number.specs.Bytes.{number}
use Rattle.grammar.specs.Words.{Reading, Reads}
use Rattle.limits.specs.Limits.{most_text, most_columns}
use Rattle.refusal.specs.Order.{unless}
use Rattle.header.specs.Judge.{header_refusal}
use Rattle.header.specs.Layouts.{handed_on, header_of}
use Rattle.header.specs.Words.{OneId, AcceptedHeader}
use Rattle.header.specs.Refusals.{SaysLength, text_in, TextReads, OfLength, OfReading, AllSound, NamesDiffer, Test, five_bytes}
use Rattle.header.specs.Refusals.{order_letter, text_fits, text_limit, in_grammar, columns_sound, columns_limit, names_differ, one_id}
use Rattle.header.specs.Refusals.{Holds}
use Rattle.header.proofs.TestsInWords.{one_text}
use Rattle.header.proofs.InOrder.{one_length, all_hold_exactly}

-- x is given exactly where no number is refused
pub accepted_number : {T : Type 0} → (q : Refusal) (x : T) → (unless q x ≡ Ok x) ↔ (q.number ≡ 0)
accepted_number q x = (
  λ e. bool_cases (eqb q.number 0) (eqb-true q.number 0) (λ c. let w = rw c at e in clash (cc)),
  λ e. rw (eq-eqb q.number 0 e),
)

module _ (file : List ℕ) where
  -- L, and the reading of an accepted header's text
  pub accepted_says : (h : Reading) (a : AcceptedHeader file h) → SaysLength file (number a.order file 0 4)
  accepted_says h a = record { order = a.order; letter = a.letter; says = refl }

  pub accepted_text : (h : Reading) → AcceptedHeader file h → TextReads file h
  accepted_text h a = record { text_length = number a.order file 0 4; says = accepted_says h a; reads = a.reads }

  -- the rules are what the nine tests ask
  header_holds : (h : Reading) → AcceptedHeader file h → (x : Test) → Holds file x
  header_holds h a five_bytes = a.five_bytes
  header_holds h a order_letter = (a.order, a.letter)
  header_holds h a text_fits = (number a.order file 0 4, accepted_says h a, a.text_fits)
  header_holds h a text_limit = (number a.order file 0 4, accepted_says h a, a.text_limit)
  header_holds h a in_grammar = (h, accepted_text h a)
  header_holds h a columns_sound = (h, accepted_text h a, a.rules.sound)
  header_holds h a columns_limit = (h, accepted_text h a, a.rules.columns_limit)
  header_holds h a names_differ = (h, accepted_text h a, λ j b i p l. a.rules.names_differ i j b p l)
  header_holds h a one_id = (h, accepted_text h a, a.rules.one_id)

  holds_header : ((x : Test) → Holds file x) → (h : Reading) × AcceptedHeader file h
  holds_header all =
      let h = (all in_grammar).0 in
      let t = (all in_grammar).1 in
      let l = number t.says.order file 0 4 in
      let says : SaysLength file l = record { order = t.says.order; letter = t.says.letter; says = refl } in
      let of_length : (P : ℕ → Type 0) → OfLength file P → P l = λ P a. subst P (one_length file a.0 l a.1 says) a.2 in
      let of_reading : (P : Reading → Type 0) → OfReading file P → P h = λ P a. subst P (one_text file a.0 h a.1 t) a.2 in (
        h,
        record {
          order = t.says.order;
          five_bytes = all five_bytes;
          letter = t.says.letter;
          text_fits = of_length (λ l. l + 4 ≤ length file) (all text_fits);
          text_limit = of_length (λ l. l ≤ most_text) (all text_limit);
          reads = of_length (λ l. Reads (text_in file l) h) (t.text_length, t.says, t.reads);
          rules =
              record {
                sound = of_reading AllSound (all columns_sound);
                columns_limit = of_reading (λ h. length h.columns ≤ most_columns) (all columns_limit);
                names_differ = λ i j b p l. of_reading NamesDiffer (all names_differ) j b i p l;
                one_id = of_reading OneId (all one_id);
              };
        },
      )

  -- NOTHING IS REFUSED EXACTLY WHEN the header is accepted in words
  pub accepted_exactly : ((header_refusal file).number ≡ 0) ↔ ((h : Reading) × AcceptedHeader file h)
  accepted_exactly = (
    λ e. holds_header ((all_hold_exactly file).0 e),
    λ a. (all_hold_exactly file).1 (header_holds a.0 a.1),
  )

  pub answer_accepted_exactly : (header_of file ≡ Ok (handed_on file)) ↔ ((h : Reading) × AcceptedHeader file h)
  unfolding header_of
  answer_accepted_exactly = (
    λ e. accepted_exactly.0 ((accepted_number (header_refusal file) (handed_on file)).0 e),
    λ a. (accepted_number (header_refusal file) (handed_on file)).1 (accepted_exactly.1 a),
  )

  -- WITH ONE READING
  pub accepted_once : (h k : Reading) → AcceptedHeader file h → AcceptedHeader file k → h ≡ k
  accepted_once h k a b = one_text file h k (accepted_text h a) (accepted_text k b)
