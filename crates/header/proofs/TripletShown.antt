-- "if K occurs": a column of the layout that a file's header gives is of type K EXACTLY WHEN its header is accepted and a column of its
-- reading has the type letter K.
use mathlib.Core.Path.{◌≡◌, sym, ap, subst, ◌∙◌}
use mathlib.Core.Logic.{◌↔◌}
use mathlib.Core.Bool.{Bool, true}
use mathlib.Core.List.{List}
use Prim.Native.Nat.{ℕ, min, ◌<◌}
use native.Mathlib.Omega.{arith}
use borrow.Author.Tests.{eq-eqb, eqb-true}
use Rattle.laws.specs.Lowest.{lowest, In}
use Rattle.laws.proofs.LowestLaws.{lowest-pos, lowest_some}
use Rattle.grammar.specs.Words.{Reading}
use Rattle.field.specs.Letters.{letter_k}
use Rattle.field.specs.Fields.{letter_of, is_triplet}
use Rattle.field.proofs.TableRule.{letter_of_type}
use Rattle.header.specs.declared.Layout.{Layout}
use Rattle.limits.specs.Limits.{most_columns}
use Rattle.header.specs.declared.Header.{Header}
use Rattle.std.specs.Prelude.{Ok}
use Rattle.header.proofs.HeaderLaws.{given_header}
use Rattle.header.specs.Layouts.{layout_of, handed_on, header_of}
use Rattle.header.specs.Words.{column_at, AcceptedHeader}
use Rattle.header.specs.LayoutWords.{layout_at, ShowsK}
use Rattle.header.proofs.AcceptedExactly.{accepted_exactly, answer_accepted_exactly}
use Rattle.header.proofs.LayoutMeans.{laid_out_lem}

abbrev pub is_k : Layout → ℕ → Bool
is_k l k = is_triplet (layout_at l k).kind

module _ (file : List ℕ) where
  -- a column of an accepted header's layout is a triplet's exactly where its letter is K
  letter_exactly : (h : Reading) → AcceptedHeader file h → (k : ℕ) → In (layout_of file).columns k
      → (is_k (layout_of file) k ≡ true) ↔ ((column_at h k).type ≡ letter_k)
  letter_exactly h a k i =
      let t = (layout_at (layout_of file) k).kind in
      let e = letter_of_type (column_at h k).type t ((laid_out_lem file h a).each k i).kind in
      (λ q. sym e ∙ eqb-true (letter_of t) letter_k q, λ q. eq-eqb (letter_of t) letter_k (e ∙ q))

  -- A TRIPLET COLUMN of the header that is given EXACTLY WHEN K OCCURS
  pub triplet_exactly : ((head : Header) × (header_of file ≡ Ok head) × ((k : ℕ) × In head.layout.columns k × (is_k head.layout k ≡ true))) ↔ ShowsK file
  triplet_exactly = (
    λ w.
        let g = given_header file w.0 w.1 in
        let a = (accepted_exactly file).0 g.0 in
        let m = laid_out_lem file a.0 a.1 in
        let l : w.0.layout ≡ layout_of file = ap (λ (x : Header). x.layout) g.1 in
        let i = subst (λ (x : Layout). In x.columns w.2.0) l w.2.1 in
        record {
          reading = a.0;
          accepted = a.1;
          column = w.2.0;
          within = (i.0, omega (arith, i.1, m.columns));
          letter = (letter_exactly a.0 a.1 w.2.0 i).0 (subst (λ (x : Layout). is_k x w.2.0 ≡ true) l w.2.2);
        },
    λ w.
        let i : In (layout_of file).columns w.column = (w.within.0, omega (arith, w.within.1, (laid_out_lem file w.reading w.accepted).columns)) in (
          handed_on file,
          (answer_accepted_exactly file).1 (w.reading, w.accepted),
          (w.column, i, (letter_exactly w.reading w.accepted w.column i).1 w.letter),
        ),
  )

  -- and so, as a search over no more columns than the limit finds one
  pub lowest_triplet_exactly : ((head : Header) × (header_of file ≡ Ok head) × (0 < lowest (is_k head.layout) (min head.layout.columns most_columns))) ↔ ShowsK file
  lowest_triplet_exactly = (
    λ p.
        let l = p.0.layout in
        let w = lowest-pos (is_k l) (min l.columns most_columns) p.2 in
        triplet_exactly.0 (p.0, p.1, (lowest (is_k l) (min l.columns most_columns), (w.pos, omega (arith, w.within)), w.passes)),
    λ w.
        let x = triplet_exactly.1 w in
        let l = given_header file x.0 x.1 in
        let few = (laid_out_lem file w.reading w.accepted).columns_limit in (
          x.0,
          x.1,
          lowest_some (is_k x.0.layout) (min x.0.layout.columns most_columns) x.2.0 x.2.1.0
              (omega (arith, x.2.1.1, few, ap (λ (y : Header). y.layout.columns) l.1)) x.2.2,
        ),
  )
