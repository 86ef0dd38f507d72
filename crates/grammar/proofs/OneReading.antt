-- No text has two readings: `printed` is injective on well-formed readings.
use mathlib.Core.Path.{◌≡◌, refl, sym, ◌∙◌}
use mathlib.Core.List.{List, [], ◌∷◌, ◌++◌, append_assoc}
use Prim.Native.Nat.{ℕ}
use native.Mathlib.Omega.{arith}
use Rattle.laws.proofs.SeparatorLaws.{Lacks, first_cut, one_cut}
use Rattle.laws.proofs.TestLaws.{clash}
use Rattle.grammar.specs.Words.{semicolon, colon, comma, equals, Mark, absent, letter_l, letter_m, Form, with_comma, without_comma}
use Rattle.grammar.specs.Words.{Column, Reading, printed_mark, printed_comma, printed_column}
use Rattle.grammar.specs.Words.{printed_columns, printed, WellFormedColumn, WellFormedColumns, WellFormed, Reads}
use Rattle.grammar.proofs.PrintIsRead.{column_then_lem}
use Rattle.grammar.proofs.ColumnFacts.{name_lacks_equals, count_lacks, description_lacks, value_table_lacks, thematic_index_lacks}
use Rattle.grammar.proofs.ColumnFacts.{narrative_lacks, narrative_lacks_colon, column_not_end, mark_lacks_semicolon, table_description_lacks}
use Rattle.grammar.proofs.ColumnFacts.{table_narrative_lacks}

heads : {a b : ℕ} {u v : List ℕ} → a ∷ u ≡ b ∷ v → (a ≡ b) × (u ≡ v)
heads e = (cc, cc)

-- ---- columns

-- a column's last name, which has no comma and no colon, and what ends the column
module _ (xs ys u v : List ℕ) (a : Lacks comma xs × Lacks colon xs) (b : Lacks comma ys × Lacks colon ys) where
  one_end : (f g : Form) → xs ++ (printed_comma f ++ (colon ∷ u)) ≡ ys ++ (printed_comma g ++ (colon ∷ v)) → (xs ≡ ys) × (f ≡ g) × (u ≡ v)
  one_end with_comma with_comma e = let r = one_cut comma xs ys _ _ a.0 b.0 e in (r.0, refl, (heads r.1).1)
  one_end without_comma without_comma e = let r = one_cut colon xs ys u v a.1 b.1 e in (r.0, refl, r.1)
  one_end with_comma without_comma e =
      let r = first_cut comma colon xs ys _ _ a.1 b.0 e in
      let z : comma ≡ colon = (heads r.1).0 in absurd (omega arith)
  one_end without_comma with_comma e =
      let r = first_cut colon comma xs ys _ _ a.0 b.1 e in
      let z : colon ≡ comma = (heads r.1).0 in absurd (omega arith)

pub one_column : (c d : Column) (u v : List ℕ) → WellFormedColumn c → WellFormedColumn d
    → printed_column c ++ u ≡ printed_column d ++ v → (c ≡ d) × (u ≡ v)
one_column c d u v w x e =
    let e₀ = sym (column_then_lem c u) ∙ e ∙ column_then_lem d v in
    let name = one_cut equals c.name d.name _ _ (name_lacks_equals c w) (name_lacks_equals d x) e₀ in
    let type = heads name.1 in
    let count = one_cut comma c.count d.count _ _ (count_lacks c w) (count_lacks d x) (heads type.1).1 in
    let key = heads count.1 in
    let description = one_cut comma c.description d.description _ _ (description_lacks c w) (description_lacks d x) (heads key.1).1 in
    let value_table = one_cut comma c.value_table d.value_table _ _ (value_table_lacks c w) (value_table_lacks d x) description.1 in
    let thematic_index = one_cut comma c.thematic_index d.thematic_index _ _ (thematic_index_lacks c w)
    (thematic_index_lacks d x) value_table.1 in
    let narrative = one_end c.narrative d.narrative u v (narrative_lacks c w, narrative_lacks_colon c w)
    (narrative_lacks d x, narrative_lacks_colon d x) c.form d.form thematic_index.1 in (
      (λ i.
          record {
            name = name.0 i;
            type = type.0 i;
            count = count.0 i;
            key = key.0 i;
            description = description.0 i;
            value_table = value_table.0 i;
            thematic_index = thematic_index.0 i;
            narrative = narrative.0 i;
            form = narrative.1 i;
          }),
      narrative.2,
    )

pub same_columns : (cs ds : List Column) → WellFormedColumns cs → WellFormedColumns ds → (u v : List ℕ)
    → printed_columns cs ++ (semicolon ∷ u) ≡ printed_columns ds ++ (semicolon ∷ v) → cs ≡ ds
same_columns [] [] w x u v e = refl
same_columns [] (d ∷ ds) w x u v e = absurd
    (column_not_end d x.0 _ u (sym (e ∙ append_assoc (printed_column d) (printed_columns ds) (semicolon ∷ v))))
same_columns (c ∷ cs) [] w x u v e = absurd
    (column_not_end c w.0 _ v (sym (append_assoc (printed_column c) (printed_columns cs) (semicolon ∷ u)) ∙ e))
same_columns (c ∷ cs) (d ∷ ds) w x u v e =
    let r = one_column c d _ _ w.0 x.0
    (sym (append_assoc (printed_column c) (printed_columns cs) (semicolon ∷ u)) ∙ e
    ∙ append_assoc (printed_column d) (printed_columns ds) (semicolon ∷ v)) in
    let t = same_columns cs ds w.1 x.1 u v r.1 in
    λ i. r.0 i ∷ t i

-- ---- the whole text

same_mark : (m k : Mark) → printed_mark m ≡ printed_mark k → m ≡ k
same_mark absent absent e = refl
same_mark letter_l letter_l e = refl
same_mark letter_m letter_m e = refl
same_mark absent letter_l e = clash (cc)
same_mark absent letter_m e = clash (cc)
same_mark letter_l absent e = clash (cc)
same_mark letter_m absent e = clash (cc)
same_mark letter_l letter_m e = let z : ◌≡◌ {A = ℕ} 76 77 = (heads e).0 in absurd (omega arith)
same_mark letter_m letter_l e = let z : ◌≡◌ {A = ℕ} 77 76 = (heads e).0 in absurd (omega arith)

pub one_reading : (h k : Reading) → WellFormed h → WellFormed k → printed h ≡ printed k → h ≡ k
one_reading h k w x e =
    let mark = one_cut semicolon (printed_mark h.mark) (printed_mark k.mark) _ _ (mark_lacks_semicolon h.mark)
    (mark_lacks_semicolon k.mark) e in
    let m = same_mark h.mark k.mark mark.0 in
    let description = one_cut semicolon h.description k.description _ _ (table_description_lacks h w)
    (table_description_lacks k x) mark.1 in
    let narrative = one_cut semicolon h.narrative k.narrative _ _ (table_narrative_lacks h w)
    (table_narrative_lacks k x) description.1 in
    let columns = same_columns h.columns k.columns w.columns x.columns [] [] narrative.1 in
    λ i. record { mark = m i; description = description.0 i; narrative = narrative.0 i; columns = columns i }

pub reads_once : (s : List ℕ) (h k : Reading) → Reads s h → Reads s k → h ≡ k
reads_once s h k r q = one_reading h k r.well_formed q.well_formed (r.print ∙ sym q.print)
