-- Which separators the fields of a well-formed reading lack: what closes a field does not stand in it.
use mathlib.Core.Path.{◌≡◌, sym, ◌∙◌}
use mathlib.Core.List.{List, [], ◌∷◌, ◌++◌}
use mathlib.Core.Logic.{inl, inr}
use Prim.Native.Nat.{ℕ, zero, suc, ◌≤◌}
use native.Mathlib.Omega.{arith}
use lib.ListN.{length, get_or}
use Rattle.laws.proofs.SeparatorLaws.{Lacks, lacks_both}
use Rattle.grammar.specs.Words.{semicolon, colon, comma, equals, star, Mark, absent, letter_l, letter_m, Form, with_comma, without_comma}
use Rattle.grammar.specs.Words.{Column, Reading, printed_mark, printed_comma}
use Rattle.grammar.specs.Words.{printed_column, Text, Count, WellFormedColumn, WellFormed}
use Rattle.grammar.proofs.PrintIsRead.{column_then_lem}

text_lacks : (b : ℕ) {least most : ℕ} {Allowed : ℕ → Type 0} (w : List ℕ) → ((x : ℕ) → Allowed x → x ≡ b → ⊥)
    → Text least most Allowed w → Lacks b w
text_lacks b w f t k h e = f (get_or w k 0) (t.bytes k h) e

single_lacks : (b x : ℕ) → (x ≡ b → ⊥) → Lacks b (x ∷ [])
single_lacks b x f zero h e = f e
single_lacks b x f (suc k) h e = omega arith

-- a count is a star or digits
count_lacks_comma : (w : List ℕ) → Count w → Lacks comma w
count_lacks_comma w (inl e) = rw e (single_lacks comma star (λ z. omega arith))
count_lacks_comma w (inr n) = text_lacks comma w (λ x d q. omega (arith, d)) n.digits

comma_lacks_colon : (f : Form) → Lacks colon (printed_comma f)
comma_lacks_colon with_comma = single_lacks colon comma (λ z. omega arith)
comma_lacks_colon without_comma = λ k h e. omega arith

-- ---- a column

module _ (c : Column) (w : WellFormedColumn c) where
  pub name_lacks_equals : Lacks equals c.name
  name_lacks_equals = text_lacks equals c.name (λ x p. p.no_equals) w.name

  pub name_lacks_semicolon : Lacks semicolon c.name
  name_lacks_semicolon = text_lacks semicolon c.name (λ x p. p.no_semicolon) w.name

  pub count_lacks : Lacks comma c.count
  count_lacks = count_lacks_comma c.count w.count

  pub description_lacks : Lacks comma c.description
  description_lacks = text_lacks comma c.description (λ x p. p.no_comma) w.description

  pub value_table_lacks : Lacks comma c.value_table
  value_table_lacks = text_lacks comma c.value_table (λ x p. p.no_comma) w.value_table

  pub thematic_index_lacks : Lacks comma c.thematic_index
  thematic_index_lacks = text_lacks comma c.thematic_index (λ x p. p.no_comma) w.thematic_index

  pub narrative_lacks : Lacks comma c.narrative
  narrative_lacks = text_lacks comma c.narrative (λ x p. p.no_comma) w.narrative

  pub narrative_lacks_colon : Lacks colon c.narrative
  narrative_lacks_colon = text_lacks colon c.narrative (λ x p. p.no_colon) w.narrative

  -- with its comma or without
  pub last_lacks_colon : Lacks colon (c.narrative ++ printed_comma c.form)
  last_lacks_colon = lacks_both colon c.narrative (printed_comma c.form) narrative_lacks_colon (comma_lacks_colon c.form)

  -- a column does not begin with `;`
  pub column_not_end : (u v : List ℕ) → printed_column c ++ u ≡ semicolon ∷ v → ⊥
  column_not_end u v e = by c.name w.name.least-bytes name_lacks_semicolon _ (sym (column_then_lem c u) ∙ e)
    where
      by : (n : List ℕ) → 1 ≤ length n → Lacks semicolon n → (r : List ℕ) → n ++ r ≡ semicolon ∷ v → ⊥
      by [] l m r e = omega arith
      by (b ∷ n) l m r e = let q : b ≡ semicolon = cc in m 0 (omega arith) q

-- ---- the text before the columns

pub mark_lacks_semicolon : (m : Mark) → Lacks semicolon (printed_mark m)
mark_lacks_semicolon absent = λ k h e. omega arith
mark_lacks_semicolon letter_l = single_lacks semicolon 76 (λ z. omega arith)
mark_lacks_semicolon letter_m = single_lacks semicolon 77 (λ z. omega arith)

module _ (h : Reading) (w : WellFormed h) where
  pub table_description_lacks : Lacks semicolon h.description
  table_description_lacks = text_lacks semicolon h.description (λ x p. p.1) w.description

  pub table_narrative_lacks : Lacks semicolon h.narrative
  table_narrative_lacks = text_lacks semicolon h.narrative (λ x p. p.1) w.narrative
