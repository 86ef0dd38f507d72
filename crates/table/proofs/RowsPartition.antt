-- IN AN OPENED TABLE THE ROWS PARTITION THE BODY: the first starts at L + 4, each next where the last ended, the last ends with the
-- file, and every byte of the body lies in exactly one row.
use mathlib.Core.Path.{◌≡◌, refl, sym, ◌∙◌}
use mathlib.Core.Logic.{◌↔◌, inl, inr, ⊎_elim}
use mathlib.Core.List.{List}
use Prim.Native.Nat.{ℕ, zero, suc, pred, ◌+◌, ◌*◌, ◌≤◌, ◌<◌}
use native.Mathlib.Omega.{arith}
use borrow.Author.Tests.{eq-eqb, ne_eqb}
use lib.ListN.{length}
use Rattle.laws.specs.Lowest.{In}
use Rattle.laws.specs.Partition.{Partition}
use Rattle.laws.proofs.PartitionLaws.{partition}
use Rattle.grammar.specs.Words.{Reading}
use Rattle.header.specs.declared.Layout.{Layout}
use Rattle.opening.specs.Opening.{offset_at, length_at, end_at}
use Rattle.table.specs.Rows.{bound_of}
use Rattle.table.specs.Words.{Lies}
use Rattle.header.specs.Layouts.{layout_of}
use Rattle.opening.specs.Words.{FixedBody, Opens}
use Rattle.opening.proofs.OpeningLaws.{end_first, end_entry}
use Rattle.opening.proofs.RowWidth.{OneWidth, NoWidth, no_width_exactly, one_width_exactly, says_one_width, says_no_width}
use Rattle.opening.proofs.OpenedExactly.{starts_right, ends_right}

-- where row k ends: k widths past the start, or by its entry
pub bound_fixed : (l : Layout) (index : List ℕ) (k : ℕ) → 0 < l.width → bound_of l index k ≡ l.start + l.width * k
unfolding bound_of
bound_fixed l index k w = rw (ne_eqb l.width 0 (λ z. omega arith))

pub bound_indexed : (l : Layout) (index : List ℕ) (k : ℕ) → l.width ≡ 0 → bound_of l index k ≡ end_at l index k
unfolding bound_of
bound_indexed l index k w = rw (eq-eqb l.width 0 w)

module _ (file index : List ℕ) (most : ℕ) (h : Reading) (n : ℕ) (o : Opens file index most h n) where
  abbrev l : Layout
  l = layout_of file

  fixed_partition : OneWidth file → FixedBody l index (length file) n → Partition (bound_of l index) n l.start (length file)
  fixed_partition w b =
      partition (bound_of l index) n l.start (length file)
      (bound_fixed l index 0 w ∙ omega arith)
      (λ k i. rw (bound_fixed l index k w, bound_fixed l index (suc k) w) (omega arith))
      (bound_fixed l index n w ∙ sym b.whole_rows)

  indexed_partition : NoWidth file → Partition (bound_of l index) n l.start (length file)
  indexed_partition w =
      partition (bound_of l index) n l.start (length file)
      (bound_indexed l index 0 w ∙ sym (end_first l index 0 refl))
      (λ k i.
      rw (bound_indexed l index k w, bound_indexed l index (suc k) w)
      (omega (arith, end_entry l index (suc k) (λ z. omega arith), starts_right file index most h n o w (suc k) (omega arith, i))))
      (bound_indexed l index n w ∙ ends_right file index most h n o w n refl)

  -- row i is the part from `bound_of .. (i - 1)` to `bound_of .. i`
  pub rows_partition : Partition (bound_of l index) n l.start (length file)
  rows_partition =
      ⊎_elim (λ b. fixed_partition ((one_width_exactly file h o.header).1 b.0) b.1)
      (λ b. indexed_partition ((no_width_exactly file h o.header).1 b.0)) o.body

  -- a row lies inside the body
  pub row_inside : (i : ℕ) → In n i → (l.start ≤ bound_of l index (pred i))
      × (bound_of l index (pred i) ≤ bound_of l index i) × (bound_of l index i ≤ length file)
  row_inside i r =
      let p = rows_partition in (
        omega (arith, p.begins, p.rises 0 (pred i) (omega arith) (omega (arith, r.1))),
        p.rises (pred i) i (omega arith) r.1,
        omega (arith, p.ends, p.rises i n r.1 (omega arith)),
      )

  -- a row of fixed width has that many bytes
  pub row_width : OneWidth file → (i : ℕ) → In n i → bound_of l index i ≡ bound_of l index (pred i) + l.width
  row_width w zero r = absurd (omega (arith, r.0))
  row_width w (suc i) r = rw (bound_fixed l index (suc i) w, bound_fixed l index i w) (omega arith)

  -- ROW i LIES IN WORDS EXACTLY from the bound before it to its own
  pub row_lies : (i : ℕ) → In n i → (start end : ℕ)
      → Lies file index i start end ↔ ((start ≡ bound_of l index (pred i)) × (end ≡ bound_of l index i))
  row_lies i r start end = (
    ⊎_elim
        (λ w.
        let q = says_one_width file w.0 in
        let b = bound_fixed l index (pred i) q in
        (omega (arith, w.1.starts, b), omega (arith, w.1.starts, w.1.ends, b, row_width q i r)))
        (λ w. let b = by_entry (says_no_width file w.0) in
        (omega (arith, w.1.starts, b.0), omega (arith, w.1.starts, w.1.ends, b.1))),
    λ e.
        ⊎_elim
        (λ w.
        let q = (one_width_exactly file h o.header).1 w.0 in
        inl (
          (h, o.header, w.0),
          record {
            starts = e.0 ∙ bound_fixed l index (pred i) q;
            ends = omega (arith, e.0, e.1, row_width q i r);
          },
        ))
        (λ w.
        let b = by_entry ((no_width_exactly file h o.header).1 w.0) in
        inr ((h, o.header, w.0), record { starts = omega (arith, e.0, b.0); ends = omega (arith, e.0, e.1, b.0, b.1) }))
        o.body,
  )
    where
      by_entry : NoWidth file → (bound_of l index (pred i) ≡ offset_at l index i) × (bound_of l index i ≡ offset_at l index i + length_at l index i)
      by_entry q = (
        bound_indexed l index (pred i) q ∙ sym (starts_right file index most h n o q i r),
        bound_indexed l index i q ∙ sym (end_entry l index i (λ z. omega (arith, r.0))),
      )
