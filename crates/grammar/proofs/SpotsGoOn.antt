-- From each spot that is reached some text goes on to the end of a header text.
use mathlib.Core.Path.{◌≡◌, refl, sym, subst}
use mathlib.Core.List.{List, [], ◌∷◌, ◌++◌}
use mathlib.Core.Logic.{by_cases}
use Prim.Native.Nat.{ℕ, ◌+◌, ◌≤◌, ◌<◌}
use native.Mathlib.Omega.{arith}
use native.Mathlib.Decide.{dec_le}
use Rattle.laws.specs.Machine.{Next, go, Continues}
use Rattle.laws.proofs.TestLaws.{clash}
use Rattle.grammar.specs.Words as words
use Rattle.grammar.specs.Words.{semicolon}
use Rattle.grammar.specs.Fields.{rule}
use Rattle.grammar.specs.Scan.{spot, machine}
use Rattle.grammar.specs.declared.Field.{Field}
use Rattle.grammar.specs.declared.Field.TheVariants.{OrderLetter, TableDescription, TableNarrative, Name, Kind, Numeral, AfterStar}
use Rattle.grammar.specs.declared.Field.TheVariants.{Key, Description, ValueTable, ThematicIndex, Narrative, ColumnEnd, TextEnd}
use Rattle.grammar.specs.declared.Special.TheVariants.{TextIsWhole}
use Rattle.grammar.specs.declared.Spot.{Spot}
use Rattle.grammar.proofs.ByteClasses.{Word, takes_exactly}
use Rattle.grammar.specs.Scan.{closed}
use Rattle.grammar.proofs.MachineMoves.{closing, Way, taken, shut, over, starred, bare, barred, way}
use Rattle.grammar.proofs.PrintIsRead.{Leads, feed, field_in, end_in, one_byte, no_byte}

-- the text is whole
abbrev pub Whole : Spot → Type 0
Whole st = (rule st.field).special ≡ TextIsWhole

-- no more bytes than the field has
abbrev pub Fits : Spot → Type 0
Fits st = st.n ≤ (rule st.field).most

pub fits_keeps : (st : Spot) (b : ℕ) (st' : Spot) → Fits st → machine st b ≡ go st' → Fits st'
fits_keeps st b st' ok e = by (machine st b) (way st.field st.n st.cols b) e
  where
    same : {x : Spot} → go x ≡ go st' → Fits x → Fits st'
    same {x} q k = let h : x ≡ st' = cc in subst Fits h k

    by : (o : Next Spot) → Way st.field st.n st.cols b o → o ≡ go st' → Fits st'
    by _ (taken t) q = same q (omega (arith, ((takes_exactly st.field st.n b).0 t).0))
    by _ (shut t) q = same q (omega arith)
    by _ (over t) q = same q (omega arith)
    by _ (starred t) q = same q (omega arith)
    by _ (bare t) q = same q (omega arith)
    by _ barred q = clash (cc)

-- `-`, the name for none
dash : words.Plain 45
dash =
    record {
      printable = (omega arith, omega arith);
      no_semicolon = λ e. omega arith;
      no_colon = λ e. omega arith;
      no_comma = λ e. omega arith;
      no_equals = λ e. omega arith;
    }

-- some text goes on from the spot
abbrev GoesOn : Spot → Type 0
GoesOn st = (t : List ℕ) × Leads Whole t st

module _ (cols : ℕ) where
  word_then : (f : Field) (v : List ℕ) → Word f v → GoesOn (closed f cols) → GoesOn (spot f 0 cols)
  word_then f v w g = (v ++ ((rule f).closer ∷ g.0), field_in Whole f cols g.0 v w g.1)

  from_end : GoesOn (spot Name 0 (cols + 1))
  from_end = (semicolon ∷ [], end_in Whole (cols + 1) (omega arith) refl)

  from_column_end : GoesOn (spot ColumnEnd 0 cols)
  from_column_end = word_then ColumnEnd [] (no_byte ColumnEnd (omega arith)) from_end

  from_narrative : GoesOn (spot Narrative 0 cols)
  from_narrative = word_then Narrative (45 ∷ []) (one_byte Narrative 45 (omega arith) (omega arith) dash) from_column_end

  from_thematic_index : GoesOn (spot ThematicIndex 0 cols)
  from_thematic_index = word_then ThematicIndex (45 ∷ []) (one_byte ThematicIndex 45 (omega arith) (omega arith) dash) from_narrative

  from_value_table : GoesOn (spot ValueTable 0 cols)
  from_value_table = word_then ValueTable (45 ∷ []) (one_byte ValueTable 45 (omega arith) (omega arith) dash) from_thematic_index

  from_description : GoesOn (spot Description 0 cols)
  from_description = word_then Description [] (no_byte Description (omega arith)) from_value_table

  from_key : GoesOn (spot Key 0 cols)
  from_key = word_then Key (45 ∷ []) (one_byte Key 45 (omega arith) (omega arith) dash) from_description

  -- the count 1
  from_count : GoesOn (spot Numeral 0 cols)
  from_count = word_then Numeral (49 ∷ [])
      (one_byte Numeral 49 (omega arith) (omega arith) ((omega arith, omega arith), λ z q. omega arith)) from_key

  from_type : GoesOn (spot Kind 0 cols)
  from_type = word_then Kind (45 ∷ []) (one_byte Kind 45 (omega arith) (omega arith) dash) from_count

  from_name : GoesOn (spot Name 0 cols)
  from_name = word_then Name (45 ∷ []) (one_byte Name 45 (omega arith) (omega arith) dash) from_type

  from_table_narrative : GoesOn (spot TableNarrative 0 cols)
  from_table_narrative = word_then TableNarrative (45 ∷ [])
      (one_byte TableNarrative 45 (omega arith) (omega arith) (dash.printable, dash.no_semicolon)) from_name

  from_table_description : GoesOn (spot TableDescription 0 cols)
  from_table_description = word_then TableDescription [] (no_byte TableDescription (omega arith)) from_table_narrative

  -- after n bytes of a field: its closer, where the field may end there; else none of its bytes has been read
  after : (f : Field) (n : ℕ) → (rule f).least ≤ 1 → n ≤ (rule f).most → GoesOn (closed f cols)
      → ((rule f).least ≡ 1 → GoesOn (spot f 0 cols)) → GoesOn (spot f n cols)
  after f n l m g h =
      by_cases (dec_le (rule f).least n)
      (λ c. (
        (rule f).closer ∷ g.0,
        feed Whole f cols (rule f).closer (closed f cols) (closing f cols) g.0 g.1 [] n (λ k j. absurd (none k j)) (omega arith) (omega arith),
      ))
      (λ c.
      let z : n ≡ 0 = omega arith in
      let o : (rule f).least ≡ 1 = omega arith in
      subst (λ (k : ℕ). GoesOn (spot f k cols)) (sym z) (h o))
    where
      none : (k : ℕ) → k < 0 → ⊥
      none k j = omega arith

  goes_on : (f : Field) (n : ℕ) → n ≤ (rule f).most → GoesOn (spot f n cols)
  goes_on OrderLetter n m = after OrderLetter n (omega arith) m from_table_description (λ e. absurd (omega arith))
  goes_on TableDescription n m = after TableDescription n (omega arith) m from_table_narrative (λ e. absurd (omega arith))
  goes_on TableNarrative n m = after TableNarrative n (omega arith) m from_name (λ e. from_table_narrative)
  goes_on Name n m = after Name n (omega arith) m from_type (λ e. from_name)
  goes_on Kind n m = after Kind n (omega arith) m from_count (λ e. from_type)
  goes_on Numeral n m = after Numeral n (omega arith) m from_key (λ e. from_count)
  goes_on AfterStar n m = after AfterStar n (omega arith) m from_key (λ e. absurd (omega arith))
  goes_on Key n m = after Key n (omega arith) m from_description (λ e. from_key)
  goes_on Description n m = after Description n (omega arith) m from_value_table (λ e. absurd (omega arith))
  goes_on ValueTable n m = after ValueTable n (omega arith) m from_thematic_index (λ e. from_value_table)
  goes_on ThematicIndex n m = after ThematicIndex n (omega arith) m from_narrative (λ e. from_thematic_index)
  goes_on Narrative n m = after Narrative n (omega arith) m from_column_end (λ e. from_narrative)
  goes_on ColumnEnd n m = after ColumnEnd n (omega arith) m from_end (λ e. absurd (omega arith))
  goes_on TextEnd n m = ([], refl)

pub live : (st : Spot) → Fits st → Continues machine Whole [] st
live st ok = goes_on st.cols st.field st.n ok
