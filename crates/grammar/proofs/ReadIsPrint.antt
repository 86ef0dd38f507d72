-- What is read to its end is the print of a well-formed reading.
--
-- The plan. `Leads P s st` says that the machine goes over the text s from the spot st to one of which P holds; P is any property that only
-- the text's end has (`whole`). A field is read by induction on the text (`parse`): by `way` each byte is taken into the field, closes it,
-- ends the columns, is a star, is a colon without its comma, or is barred. So the text is a word of the field, its closer and what follows
-- (`Parsed`), or a word, a colon and what follows (`Parsed` too), or the columns end here (`Over`), or a star stands here (`Starred`). Where
-- only the first can be, that is `read`; a count is a numeral or a star (`counted`), a column's last name has its comma or not
-- (`column-ended`). A column is its fields one after the other; their equations between texts are put together from the last to the first,
-- which gives the column's print (`column_out`). Columns follow by induction on the length of what is left, which each of them shortens
-- (`column_shorter`, `columns_out`). The text is the mark, the two fields before the columns, and those (`text_out`).
use mathlib.Core.Path.{◌≡◌, refl, sym, ap, subst, ◌∙◌}
use mathlib.Core.List.{List, [], ◌∷◌, ◌++◌, append_assoc}
use mathlib.Core.Logic.{◌⊎◌, inl, inr}
use Prim.Native.Nat.{ℕ, zero, suc, ◌+◌, ◌≤◌, ◌<◌}
use native.Mathlib.Omega.{arith}
use native.Mathlib.Nat.{add-zero, zero-add}
use lib.ListN.{length, get_or, length-append}
use Rattle.laws.specs.Machine.{Next, on_next}
use Rattle.laws.proofs.TestLaws.{clash}
use Rattle.grammar.specs.Words as words
use Rattle.grammar.specs.Words.{semicolon, colon, comma, equals, star, Mark, absent, letter_l, letter_m, Form, with_comma, without_comma}
use Rattle.grammar.specs.Words.{Column, Reading, printed_mark, printed_comma}
use Rattle.grammar.specs.Words.{printed_column, printed_columns, Printable, Count, WellFormedColumn, WellFormedColumns, WellFormed, Reads}
use Rattle.grammar.specs.Fields.{rule}
use Rattle.grammar.specs.Scan.{spot, machine, start}
use Rattle.grammar.specs.declared.Field.{Field}
use Rattle.grammar.specs.declared.Field.TheVariants.{OrderLetter, TableDescription, TableNarrative, Name, Kind, Numeral, AfterStar}
use Rattle.grammar.specs.declared.Field.TheVariants.{Key, Description, ValueTable, ThematicIndex, Narrative, ColumnEnd, TextEnd}
use Rattle.grammar.specs.declared.Special.{Special}
use Rattle.grammar.specs.declared.Special.TheVariants.{Usual, ColumnsMayEnd, StarMayStand, ColonMayStand, ColumnIsWhole, TextIsWhole}
use Rattle.grammar.specs.declared.Spot.{Spot}
use Rattle.grammar.proofs.ByteClasses.{Holds, Word, takes_exactly, word_text}
use Rattle.grammar.specs.Scan.{closed}
use Rattle.grammar.proofs.MachineMoves.{closes_says, Way, taken, shut, over, starred, bare, barred, way}
use Rattle.grammar.proofs.PrintIsRead.{Leads, column_then_lem}

-- ---- words of the paper

no_bytes : (w : List ℕ) → length w ≤ 0 → w ≡ []
no_bytes [] h = refl
no_bytes (b ∷ w) h = let z : ⊥ = omega arith in absurd z

one_byte : (w : List ℕ) → 1 ≤ length w → length w ≤ 1 → w ≡ get_or w 0 0 ∷ []
one_byte [] l h = let z : ⊥ = omega arith in absurd z
one_byte (b ∷ w) l h = ap (λ (r : List ℕ). b ∷ r) (no_bytes w (omega arith))

word_mark : (w : List ℕ) → Word OrderLetter w → (m : Mark) × (printed_mark m ≡ w)
word_mark [] h = (absent, refl)
word_mark (b ∷ w) h = by (h.bytes 0 (omega arith))
  where
    alone : w ≡ []
    alone = no_bytes w (omega (arith, h.short))

    by : (b ≡ 76) ⊎ (b ≡ 77) → (m : Mark) × (printed_mark m ≡ b ∷ w)
    by (inl e) = (letter_l, rw (e, alone) refl)
    by (inr e) = (letter_m, rw (e, alone) refl)

word_numeral : (w : List ℕ) → Word Numeral w → words.Numeral w
word_numeral w h =
    record {
      digits = record { least-bytes = h.long; most_bytes = h.short; bytes = λ k l. (h.bytes k l).0 };
      first_not_0 = λ e. (h.bytes 0 (omega (arith, h.long))).1 refl e;
    }

-- ---- a field, read

-- n bytes of the field have been read, then a word, the byte that ends it, and what follows, from another spot on
pub record Parsed (P : Spot → Type 0) (f : Field) (least end : ℕ) (to : Spot) (n : ℕ) (s : List ℕ) : Type 0 where
  pub word : List ℕ
  pub rest : List ℕ
  pub text : s ≡ word ++ (end ∷ rest)
  pub long : least ≤ n + length word
  pub short : n + length word ≤ (rule f).most
  pub bytes : (k : ℕ) → k < length word → Holds (rule f).holds (n + k) (get_or word k 0)
  pub next : Leads P rest to

module _ (P : Spot → Type 0) (f : Field) (n cols : ℕ) (s : List ℕ) where
  -- the columns end here
  pub record Over : Type 0 where
    pub special : (rule f).special ≡ ColumnsMayEnd
    pub at-start : n ≡ 0
    pub some : 0 < cols
    pub rest : List ℕ
    pub text : s ≡ semicolon ∷ rest
    pub next : Leads P rest (spot TextEnd 0 cols)

  -- a star stands here
  pub record Starred : Type 0 where
    pub special : (rule f).special ≡ StarMayStand
    pub at-start : n ≡ 0
    pub rest : List ℕ
    pub text : s ≡ star ∷ rest
    pub next : Leads P rest (spot AfterStar 0 cols)

  pub data Outcome : Type 0 where
    parsed : Parsed P f (rule f).least (rule f).closer (closed f cols) n s → Outcome
    ended : Over → Outcome
    star_stands : Starred → Outcome
    comma_lacks : (rule f).special ≡ ColonMayStand → Parsed P f 1 colon (spot Name 0 (cols + 1)) n s → Outcome

-- a word is begun at the byte that ends it, and goes on to its front
module _ (P : Spot → Type 0) (f : Field) (least end : ℕ) (to : Spot) (n : ℕ) where
  at_its_end : (b : ℕ) (bs : List ℕ) → b ≡ end → least ≤ n → n ≤ (rule f).most → Leads P bs to → Parsed P f least end to n (b ∷ bs)
  at_its_end b bs e l m a = record {
    word = [];
    rest = bs;
    text = ap (λ (c : ℕ). c ∷ bs) e;
    long = omega arith;
    short = omega arith;
    bytes = λ k j. absurd (none_below k j);
    next = a;
  }
    where
      none_below : (k : ℕ) → k < 0 → ⊥
      none_below k j = omega arith

  one_before : (b : ℕ) (bs : List ℕ) → Holds (rule f).holds n b → Parsed P f least end to (n + 1) bs → Parsed P f least end to n (b ∷ bs)
  one_before b bs h p = record {
    word = b ∷ p.word;
    rest = p.rest;
    text = ap (λ (l : List ℕ). b ∷ l) p.text;
    long = omega (arith, p.long);
    short = omega (arith, p.short);
    bytes = at;
    next = p.next;
  }
    where
      shift : (k : ℕ) → n + 1 + k ≡ n + suc k
      shift k = omega arith

      at : (k : ℕ) → k < length (b ∷ p.word) → Holds (rule f).holds (n + k) (get_or (b ∷ p.word) k 0)
      at zero l = rw add-zero h
      at (suc k) l = subst (λ (j : ℕ). Holds (rule f).holds j (get_or p.word k 0)) (shift k) (p.bytes k (omega arith))

more : (P : Spot → Type 0) (f : Field) (n cols b : ℕ) (bs : List ℕ) → Holds (rule f).holds n b
    → Outcome P f (n + 1) cols bs → Outcome P f n cols (b ∷ bs)
more P f n cols b bs h (ended o) = let z : ⊥ = omega (arith, o.at-start) in absurd z
more P f n cols b bs h (star_stands o) = let z : ⊥ = omega (arith, o.at-start) in absurd z
more P f n cols b bs h (parsed p) = parsed (one_before P f _ _ _ n b bs h p)
more P f n cols b bs h (comma_lacks e p) = comma_lacks e (one_before P f _ _ _ n b bs h p)

module _ (P : Spot → Type 0) (whole : (st : Spot) → P st → (rule st.field).special ≡ TextIsWhole) where
  parse : (f : Field) (cols : ℕ) → ((rule f).special ≡ TextIsWhole → ⊥) → (s : List ℕ) (n : ℕ) → n ≤ (rule f).most
      → Leads P s (spot f n cols) → Outcome P f n cols s
  parse f cols l [] n m a = absurd (l (whole (spot f n cols) a))
  parse f cols l (b ∷ bs) n m a = by (machine (spot f n cols) b) (way f n cols b) a (λ h r. parse f cols l bs (n + 1) h r)
    where
      by : (o : Next Spot) → Way f n cols b o → on_next (Leads P bs) o
          → (n + 1 ≤ (rule f).most → Leads P bs (spot f (n + 1) cols) → Outcome P f (n + 1) cols bs)
          → Outcome P f n cols (b ∷ bs)
      by _ (taken e) a ih =
          let t = (takes_exactly f n b).0 e in
          more P f n cols b bs t.1 (ih (omega (arith, t.0)) a)
      by _ (shut e) a ih =
          let t = closes_says f n b e in
          parsed (at_its_end P f _ _ _ n b bs t.0 t.1 m a)
      by _ (over e) a ih =
          ended (record {
            special = e.special;
            at-start = e.at-start;
            some = e.some;
            rest = bs;
            text = ap
                (λ (c : ℕ). c ∷ bs) e.byte;
            next = a;
          })
      by _ (starred e) a ih =
          star_stands (record { special = e.special; at-start = e.at-start; rest = bs; text = ap (λ (c : ℕ). c ∷ bs) e.byte; next = a })
      by _ (bare e) a ih = comma_lacks e.special (at_its_end P f _ _ _ n b bs e.byte e.some m a)
      by _ barred a ih = absurd a

  -- nothing follows the end
  ends_here : (cols : ℕ) (s : List ℕ) → Leads P s (spot TextEnd 0 cols) → (s ≡ []) × P (spot TextEnd 0 cols)
  ends_here cols [] a = (refl, a)
  ends_here cols (b ∷ bs) a = by (machine (spot TextEnd 0 cols) b) (way TextEnd 0 cols b) a
    where
      by : (o : Next Spot) → Way TextEnd 0 cols b o → on_next (Leads P bs) o → (b ∷ bs ≡ []) × P (spot TextEnd 0 cols)
      by _ (taken e) a = let t = ((takes_exactly TextEnd 0 b).0 e).0 in let z : ⊥ = omega arith in absurd z
      by _ (shut e) a = let t = (closes_says TextEnd 0 b e).1 in let z : ⊥ = omega arith in absurd z
      by _ (over e) a = clash (cc e.special)
      by _ (starred e) a = clash (cc e.special)
      by _ (bare e) a = clash (cc e.special)
      by _ barred a = absurd a

  -- ---- a field where nothing else can stand

  abbrev Alone : Special → Type 0
  Alone Usual = Unit {0}
  Alone ColumnIsWhole = Unit {0}
  Alone ColumnsMayEnd = ⊥
  Alone StarMayStand = ⊥
  Alone ColonMayStand = ⊥
  Alone TextIsWhole = ⊥

  -- a word of the field, its closer, and what follows
  pub record Found (f : Field) (cols : ℕ) (s : List ℕ) : Type 0 where
    pub word : List ℕ
    pub rest : List ℕ
    pub text : s ≡ word ++ ((rule f).closer ∷ rest)
    pub is : Word f word
    pub next : Leads P rest (closed f cols)

  is_word : (f : Field) (end : ℕ) (to : Spot) (s : List ℕ) (p : Parsed P f (rule f).least end to 0 s) → Word f p.word
  is_word f end to s p = record {
    long = omega (arith, p.long);
    short = omega (arith, p.short);
    bytes = λ k l. rw zero-add at (p.bytes k l);
  }

  found : (f : Field) (cols : ℕ) (s : List ℕ) → Parsed P f (rule f).least (rule f).closer (closed f cols) 0 s → Found f cols s
  found f cols s p = record { word = p.word; rest = p.rest; text = p.text; is = is_word f _ _ s p; next = p.next }

  read : (f : Field) (cols : ℕ) → Alone (rule f).special → (s : List ℕ) → Leads P s (spot f 0 cols) → Found f cols s
  read f cols x s a = by (parse f cols (λ e. subst Alone e x) s 0 (omega arith) a)
    where
      by : Outcome P f 0 cols s → Found f cols s
      by (parsed p) = found f cols s p
      by (ended o) = absurd (subst Alone o.special x)
      by (star_stands o) = absurd (subst Alone o.special x)
      by (comma_lacks e p) = absurd (subst Alone e x)

  -- a count, and what follows its comma
  pub record Counted (cols : ℕ) (s : List ℕ) : Type 0 where
    pub word : List ℕ
    pub rest : List ℕ
    pub text : s ≡ word ++ (comma ∷ rest)
    pub is : Count word
    pub next : Leads P rest (spot Key 0 cols)

  counted : (cols : ℕ) (s : List ℕ) → Outcome P Numeral 0 cols s → Counted cols s
  counted cols s (parsed p) =
      let w = found Numeral cols s p in
      record { word = w.word; rest = w.rest; text = w.text; is = inr (word_numeral w.word w.is); next = w.next }
  counted cols s (ended o) = clash (cc o.special)
  counted cols s (comma_lacks e p) = clash (cc e)
  counted cols s (star_stands o) =
      let w = read AfterStar cols tt o.rest o.next in
      let t : o.rest ≡ comma ∷ w.rest = w.text ∙ ap (λ (l : List ℕ). l ++ (comma ∷ w.rest)) (no_bytes w.word w.is.short) in
      record { word = star ∷ []; rest = w.rest; text = o.text ∙ ap (λ (l : List ℕ). star ∷ l) t; is = inl refl; next = w.next }

  -- a column's last name, in which form the column ends, and what follows
  pub record Ended (cols : ℕ) (s : List ℕ) : Type 0 where
    pub word : List ℕ
    pub form : Form
    pub rest : List ℕ
    pub text : s ≡ word ++ (printed_comma form ++ (colon ∷ rest))
    pub is : Word Narrative word
    pub next : Leads P rest (spot Name 0 (cols + 1))

  column-ended : (cols : ℕ) (s : List ℕ) → Outcome P Narrative 0 cols s → Ended cols s
  column-ended cols s (parsed p) =
      let w = found Narrative cols s p in
      let end = read ColumnEnd cols tt w.rest w.next in
      let t : w.rest ≡ colon ∷ end.rest = end.text ∙ ap (λ (l : List ℕ). l ++ (colon ∷ end.rest)) (no_bytes end.word end.is.short) in
      record {
        word = w.word;
        form = with_comma;
        rest = end.rest;
        text = w.text ∙ ap (λ (l : List ℕ). w.word ++ (comma ∷ l)) t;
        is = w.is;
        next = end.next;
      }
  column-ended cols s (ended o) = clash (cc o.special)
  column-ended cols s (star_stands o) = clash (cc o.special)
  column-ended cols s (comma_lacks e p) =
      record { word = p.word; form = without_comma; rest = p.rest; text = p.text; is = is_word Narrative _ _ s p; next = p.next }

  -- ---- a column, read

  pub record ColumnRead (cols : ℕ) (s : List ℕ) : Type 0 where
    pub column : Column
    pub well_formed : WellFormedColumn column
    pub rest : List ℕ
    pub text : s ≡ printed_column column ++ rest
    pub next : Leads P rest (spot Name 0 (cols + 1))

  column_out : (cols : ℕ) (s : List ℕ) → Found Name cols s → ColumnRead cols s
  column_out cols s name =
      let kind = read Kind cols tt name.rest name.next in
      let count = counted cols kind.rest (parse Numeral cols (λ e. clash (cc e)) kind.rest 0 (omega arith) kind.next) in
      let key = read Key cols tt count.rest count.next in
      let description = read Description cols tt key.rest key.next in
      let value_table = read ValueTable cols tt description.rest description.next in
      let thematic_index = read ThematicIndex cols tt value_table.rest value_table.next in
      let narrative = column-ended cols thematic_index.rest
      (parse Narrative cols (λ e. clash (cc e)) thematic_index.rest 0 (omega arith) thematic_index.next) in
      joined kind count key description value_table thematic_index narrative
    where
      joined : (kind : Found Kind cols name.rest) (count : Counted cols kind.rest)
          (key : Found Key cols count.rest) (description : Found Description cols key.rest)
          (value_table : Found ValueTable cols description.rest) (thematic_index : Found ThematicIndex cols value_table.rest)
          (narrative : Ended cols thematic_index.rest) → ColumnRead cols s
      joined kind count key description value_table thematic_index narrative =
          let c : Column
          = record {
            name = name.word;
            type = get_or kind.word 0 0;
            count = count.word;
            key = get_or key.word 0 0;
            description = description.word;
            value_table = value_table.word;
            thematic_index = thematic_index.word;
            narrative = narrative.word;
            form = narrative.form;
          } in
          let w : WellFormedColumn c
          = record {
            name = word_text Name words.Plain name.word (λ k b h. h) name.is;
            type = kind.is.bytes 0 (omega (arith, kind.is.long));
            count = count.is;
            key = key.is.bytes 0 (omega (arith, key.is.long));
            description = word_text Description words.Plain description.word (λ k b h. h) description.is;
            value_table = word_text ValueTable words.Plain value_table.word (λ k b h. h) value_table.is;
            thematic_index = word_text ThematicIndex words.Plain thematic_index.word (λ k b h. h) thematic_index.is;
            narrative = word_text Narrative words.Plain narrative.word (λ k b h. h) narrative.is;
          } in
          let e₇ = thematic_index.text ∙ ap (λ (l : List ℕ). thematic_index.word ++ (comma ∷ l)) narrative.text in
          let e₆ = value_table.text ∙ ap (λ (l : List ℕ). value_table.word ++ (comma ∷ l)) e₇ in
          let e₅ = description.text ∙ ap (λ (l : List ℕ). description.word ++ (comma ∷ l)) e₆ in
          let one₄ = one_byte key.word key.is.long key.is.short in
          let e₄ = key.text ∙ (λ i. one₄ i ++ (comma ∷ e₅ i)) in
          let e₃ = count.text ∙ ap (λ (l : List ℕ). count.word ++ (comma ∷ l)) e₄ in
          let one₂ = one_byte kind.word kind.is.long kind.is.short in
          let e₂ = kind.text ∙ (λ i. one₂ i ++ (comma ∷ e₃ i)) in
          let e₁ = name.text ∙ ap (λ (l : List ℕ). name.word ++ (equals ∷ l)) e₂ in
          record { column = c; well_formed = w; rest = narrative.rest; text = e₁ ∙ sym (column_then_lem c narrative.rest); next = narrative.next }

  column_shorter : (cols : ℕ) (s : List ℕ) (r : ColumnRead cols s) → length r.rest < length s
  column_shorter cols s r = omega (arith, simp length-append at (ap length (r.text ∙ column_then_lem r.column r.rest)))

  -- ---- columns, read

  pub record ColumnsRead (cols : ℕ) (s : List ℕ) : Type 0 where
    pub columns : List Column
    pub well_formed : WellFormedColumns columns
    pub text : s ≡ printed_columns columns ++ (semicolon ∷ [])
    pub some : 0 < cols + length columns
    pub reached : P (spot TextEnd 0 (cols + length columns))

  columns-by : (cols : ℕ) (s : List ℕ) → ((r : List ℕ) → length r < length s → Leads P r (spot Name 0 (cols + 1)) → ColumnsRead (cols + 1) r)
      → Outcome P Name 0 cols s → ColumnsRead cols s
  columns-by cols s ih (star_stands o) = clash (cc o.special)
  columns-by cols s ih (comma_lacks e p) = clash (cc e)
  columns-by cols s ih (ended o) =
      let e = ends_here cols o.rest o.next in
      record {
        columns = [];
        well_formed = tt;
        text = o.text ∙ ap (λ (l : List ℕ). semicolon ∷ l) e.0;
        some = omega (arith, o.some);
        reached = rw add-zero e.1;
      }
  columns-by cols s ih (parsed p) =
      let r = column_out cols s (found Name cols s p) in
      let q = ih r.rest (column_shorter cols s r) r.next in
      record {
        columns = r.column ∷ q.columns;
        well_formed = (r.well_formed, q.well_formed);
        text = r.text ∙ ap (λ (l : List ℕ). printed_column r.column ++ l) q.text
            ∙ sym (append_assoc (printed_column r.column) (printed_columns q.columns) (semicolon ∷ []));
        some = omega (arith, q.some);
        reached = subst (λ (k : ℕ). P (spot TextEnd 0 k)) (shift cols (length q.columns)) q.reached;
      }
    where
      shift : (n k : ℕ) → n + 1 + k ≡ n + suc k
      shift n k = omega arith

  -- the text that is left grows shorter with each column
  columns_out : (fuel cols : ℕ) (s : List ℕ) → length s ≤ fuel → Leads P s (spot Name 0 cols) → ColumnsRead cols s
  columns_out zero cols s h a = columns-by cols s (λ r l b. let z : ⊥ = omega arith in absurd z)
      (parse Name cols (λ e. clash (cc e)) s 0 (omega arith) a)
  columns_out (suc fuel) cols s h a = columns-by cols s (λ r l b. columns_out fuel (cols + 1) r (omega arith) b)
      (parse Name cols (λ e. clash (cc e)) s 0 (omega arith) a)

  -- ---- the text, read

  pub text_out : (s : List ℕ) → Leads P s start → (h : Reading) × Reads s h × P (spot TextEnd 0 (length h.columns))
  text_out s a =
      let letter = read OrderLetter 0 tt s a in
      let description = read TableDescription 0 tt letter.rest letter.next in
      let narrative = read TableNarrative 0 tt description.rest description.next in
      let columns = columns_out (length narrative.rest) 0 narrative.rest (omega arith) narrative.next in
      let mark = word_mark letter.word letter.is in
      let h : Reading = record { mark = mark.0; description = description.word; narrative = narrative.word; columns = columns.columns } in
      let w : WellFormed h
      = record {
        description = word_text TableDescription (λ b. Printable b × words.NoSemicolon b) description.word (λ k b x. x) description.is;
        narrative = word_text TableNarrative (λ b. Printable b × words.NoSemicolon b) narrative.word (λ k b x. x) narrative.is;
        columns = columns.well_formed;
        one_or_more = omega (arith, columns.some);
      } in
      let e₃ = narrative.text ∙ ap (λ (l : List ℕ). narrative.word ++ (semicolon ∷ l)) columns.text in
      let e₂ = description.text ∙ ap (λ (l : List ℕ). description.word ++ (semicolon ∷ l)) e₃ in
      let m = sym mark.1 in
      let e₁ = letter.text ∙ (λ i. m i ++ (semicolon ∷ e₂ i)) in (
        h,
        record { well_formed = w; print = sym e₁ },
        rw zero-add at columns.reached,
      )
