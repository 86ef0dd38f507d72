-- ROWS HAVE NO ONE WIDTH EXACTLY WHERE a column has `*` or type K: what the layout's width says is what the header's reading says.
use mathlib.Core.Path.{◌≡◌, sym, ◌∙◌}
use mathlib.Core.Logic.{◌↔◌, ◌⊎◌, inl, inr, ⊎_elim}
use mathlib.Core.Bool.{true≢false}
use mathlib.Core.List.{List}
use Prim.Native.Nat.{ℕ, ◌<◌}
use native.Mathlib.Omega.{arith}
use borrow.Author.Tests.{eqb-true, eqb-false}
use lib.ListN.{length}
use Rattle.laws.specs.Lowest.{In}
use Rattle.laws.proofs.LowestLaws.{bool_cases, some_or_none}
use Rattle.grammar.specs.Words.{Reading}
use Rattle.field.specs.Letters.{letter_k}
use Rattle.field.specs.Fields.{letter_of, is_triplet}
use Rattle.field.proofs.TableRule.{letter_of_type}
use Rattle.header.specs.Words.{column_at, AcceptedHeader}
use Rattle.header.specs.LayoutWords.{Varies, layout_at, LaidOut}
use Rattle.header.proofs.LayoutMeans.{laid_out_lem}
use Rattle.header.specs.Layouts.{layout_of}
use Rattle.opening.specs.Words.{NoneVaries, SomeVaries, HasOneWidth, NeedsIndex}

-- what the layout says: one width of all rows, or 0
abbrev pub OneWidth : List ℕ → Type 0
OneWidth file = 0 < (layout_of file).width

abbrev pub NoWidth : List ℕ → Type 0
NoWidth file = (layout_of file).width ≡ 0

module _ (file : List ℕ) (h : Reading) (a : AcceptedHeader file h) where
  abbrev means : LaidOut file h (layout_of file)
  means = laid_out_lem file h a

  pub in_layout : (k : ℕ) → In (length h.columns) k → In (layout_of file).columns k
  in_layout k i = (i.0, omega (arith, i.1, means.columns))

  pub in_reading : (k : ℕ) → In (layout_of file).columns k → In (length h.columns) k
  in_reading k i = (i.0, omega (arith, i.1, means.columns))

  told : (k : ℕ) → In (length h.columns) k → Varies (column_at h k) ⊎ (Varies (column_at h k) → ⊥)
  told k i =
      let c = means.each k (in_layout k i) in
      let t = (layout_at (layout_of file) k).kind in
      let e = letter_of_type (column_at h k).type t c.kind in
      bool_cases (layout_at (layout_of file) k).star
      (λ b. inl (inl (c.star.0 b)))
      (λ b.
      bool_cases (is_triplet t)
      (λ d. inl (inr (sym e ∙ eqb-true (letter_of t) letter_k d)))
      (λ d. inr (⊎_elim (λ s. true≢false (sym (c.star.1 s) ∙ b)) (λ s. eqb-false (letter_of t) letter_k d (e ∙ s)))))

  some_varies_no_width : SomeVaries h → NoWidth file
  some_varies_no_width w = means.no_width w.0 (in_layout w.0 w.1) w.2

  none_varies_one_width : NoneVaries h → OneWidth file
  none_varies_one_width f = omega (arith, means.width_some (λ k i. f k (in_reading k i)))

  pub some_or_none_varies : SomeVaries h ⊎ NoneVaries h
  some_or_none_varies = some_or_none (λ k. Varies (column_at h k)) (length h.columns) told

  pub no_width_exactly : NoWidth file ↔ SomeVaries h
  no_width_exactly = (λ w. ⊎_elim (λ s. s) (λ f. absurd (omega (arith, none_varies_one_width f))) some_or_none_varies, some_varies_no_width)

  pub one_width_exactly : OneWidth file ↔ NoneVaries h
  one_width_exactly = (λ w. ⊎_elim (λ s. absurd (omega (arith, some_varies_no_width s))) (λ f. f) some_or_none_varies, none_varies_one_width)

-- of an accepted header
pub says_one_width : (file : List ℕ) → HasOneWidth file → OneWidth file
says_one_width file w = (one_width_exactly file w.0 w.1).1 w.2

pub says_no_width : (file : List ℕ) → NeedsIndex file → NoWidth file
says_no_width file w = (no_width_exactly file w.0 w.1).1 w.2

module _ (file : List ℕ) (a : (h : Reading) × AcceptedHeader file h) where
  pub has_one_width : OneWidth file ↔ HasOneWidth file
  has_one_width = (λ w. (a.0, a.1, (one_width_exactly file a.0 a.1).0 w), says_one_width file)

  pub needs_index_lem : NoWidth file ↔ NeedsIndex file
  needs_index_lem = (λ w. (a.0, a.1, (no_width_exactly file a.0 a.1).0 w), says_no_width file)
