-- What was read before is read now, every column with its comma; what is read now and was not lacks the last commas of columns, and
-- nothing else.
use mathlib.Core.Path.{◌≡◌, refl, sym, ap, subst, ◌∙◌}
use mathlib.Core.List.{List, [], ◌∷◌, ◌++◌, map, append_assoc}
use mathlib.Core.Logic.{◌↔◌, by_cases}
use Prim.Native.Nat.{ℕ, ◌<◌}
use native.Mathlib.Omega.{arith}
use native.Mathlib.Decide.{dec_lt}
use lib.ListN.{length-map}
use Rattle.grammar.specs.Words.{semicolon, colon, comma, Form, with_comma, without_comma, Column, Reading, printed_comma, column_then, printed_column}
use Rattle.grammar.specs.Words.{printed_mark, printed_columns, printed, WellFormedColumns, WellFormed, Reads}
use Rattle.grammar.specs.Amended.{column_with_comma, with_commas, ReadBefore, or_one_more, commas_lacking, LeavesOut, at_end, same_byte, no_comma}
use Rattle.grammar.specs.Amended.{Amended}
use Rattle.grammar.proofs.PrintIsRead.{column_then_lem}
use Rattle.grammar.proofs.OneReading.{reads_once}

-- ---- a well-formed reading is well formed with every comma

columns_with : (cs : List Column) → WellFormedColumns cs → WellFormedColumns (map column_with_comma cs)
columns_with [] w = tt
columns_with (c ∷ cs) w = (
  record {
    name = w.0.name;
    type = w.0.type;
    count = w.0.count;
    key = w.0.key;
    description = w.0.description;
    value_table = w.0.value_table;
    thematic_index = w.0.thematic_index;
    narrative = w.0.narrative;
  },
  columns_with cs w.1,
)

formed_with : (h : Reading) → WellFormed h → WellFormed (with_commas h)
formed_with h w = record {
  description = w.description;
  narrative = w.narrative;
  columns = columns_with h.columns w.columns;
  one_or_more = omega (arith, w.one_or_more, length-map h.columns column_with_comma);
}

-- ---- which commas a print leaves out

-- bytes that stand in both, and a column's fields
both : (w : List ℕ) {n : ℕ} {s t : List ℕ} → LeavesOut n s t → LeavesOut n (w ++ s) (w ++ t)
both [] l = l
both (b ∷ w) l = same_byte b (both w l)

both_fields : (c : Column) {n : ℕ} {s t : List ℕ} → LeavesOut n s t → LeavesOut n (column_then c s) (column_then c t)
both_fields c l =
    both c.name (same_byte _ (same_byte _ (same_byte _ (both c.count (same_byte _ (same_byte _ (same_byte _
    (both c.description (same_byte _ (both c.value_table (same_byte _ (both c.thematic_index (same_byte _ (both c.narrative l))))))))))))))

form_leaves_out : (f : Form) {n : ℕ} {s t : List ℕ} → LeavesOut n s t
    → LeavesOut (or_one_more f n) (printed_comma f ++ (colon ∷ s)) (comma ∷ (colon ∷ t))
form_leaves_out with_comma l = same_byte _ (same_byte _ l)
form_leaves_out without_comma l = no_comma l

column_parts : (c : Column) (cs : List Column) (s : List ℕ)
    → printed_columns (c ∷ cs) ++ s ≡ column_then c (printed_comma c.form ++ (colon ∷ (printed_columns cs ++ s)))
column_parts c cs s = append_assoc (printed_column c) (printed_columns cs) s ∙ column_then_lem c (printed_columns cs ++ s)

moved : {n : ℕ} {s t u v : List ℕ} → s ≡ u → t ≡ v → LeavesOut n u v → LeavesOut n s t
moved {n} {s} {t} {u} {v} e f l = subst (λ (x : List ℕ). LeavesOut n x t) (sym e) (subst (λ (x : List ℕ). LeavesOut n u x) (sym f) l)

columns_leave_out : (cs : List Column) (s : List ℕ) → LeavesOut 0 s s
    → LeavesOut (commas_lacking cs) (printed_columns cs ++ s) (printed_columns (map column_with_comma cs) ++ s)
columns_leave_out [] s l = l
columns_leave_out (c ∷ cs) s l =
    moved (column_parts c cs s) (column_parts (column_with_comma c) (map column_with_comma cs) s)
    (both_fields c (form_leaves_out c.form (columns_leave_out cs s l)))

text_leaves_out : (h : Reading) → LeavesOut (commas_lacking h.columns) (printed h) (printed (with_commas h))
text_leaves_out h =
    both (printed_mark h.mark) (same_byte _ (both h.description (same_byte _ (both h.narrative (same_byte _
    (columns_leave_out h.columns (semicolon ∷ []) (same_byte _ at_end)))))))

nothing_left_out : (n : ℕ) {s t : List ℕ} → LeavesOut n s t → n ≡ 0 → s ≡ t
nothing_left_out _ at_end e = refl
nothing_left_out n (same_byte b l) e = ap (λ (r : List ℕ). b ∷ r) (nothing_left_out n l e)
nothing_left_out _ (no_comma l) e = absurd (omega arith)

none_lacking : (cs : List Column) → commas_lacking (map column_with_comma cs) ≡ 0
none_lacking [] = refl
none_lacking (c ∷ cs) = none_lacking cs

-- ---- the amendment

still_read : (s : List ℕ) (h : Reading) → ReadBefore s h → Reads s (with_commas h)
still_read s h r = record { well_formed = formed_with h r.well_formed; print = r.print }

module _ (s : List ℕ) (h : Reading) (r : Reads s h) where
  if_none_lacks : commas_lacking h.columns ≡ 0 → ReadBefore s h
  if_none_lacks e = record { well_formed = r.well_formed; print = sym (nothing_left_out _ (text_leaves_out h) e) ∙ r.print }

  none_lacks : (k : Reading) → ReadBefore s k → commas_lacking h.columns ≡ 0
  none_lacks k b = rw (reads_once s h (with_commas k) r (still_read s k b)) (none_lacking k.columns)

  newly_read : ((k : Reading) → ReadBefore s k → ⊥) ↔ (0 < commas_lacking h.columns)
  newly_read = (
    (λ no. by_cases (dec_lt 0 (commas_lacking h.columns)) (λ c. c) (λ c. absurd (no h (if_none_lacks (omega arith))))),
    (λ c k b. omega (arith, none_lacks k b)),
  )

pub amended : (s : List ℕ) → Amended s
amended s = record {
  still = still_read s;
  newly = newly_read s;
  lacks = λ h r. (
    subst (λ (x : List ℕ). LeavesOut (commas_lacking h.columns) x (printed (with_commas h))) r.print (text_leaves_out h),
    record { well_formed = r.well_formed; print = refl },
  );
}
