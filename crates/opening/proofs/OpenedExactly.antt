-- A TABLE OPENS EXACTLY WHEN its header is accepted and the rules of rows and index hold, with one number of rows; and it is refused
-- with a number at a place exactly when a test fails so and all earlier ones hold.
use mathlib.Core.Path.{◌≡◌, refl, sym, ap, ◌∙◌}
use mathlib.Core.Logic.{◌↔◌, inl, inr, ⊎_elim}
use mathlib.Core.List.{List}
use Rattle.std.specs.Prelude.{Ok, Err}
use Prim.Native.Nat.{ℕ, zero, suc, pred, ◌-◌, ◌*◌, ◌/◌}
use native.Mathlib.Nat.{mul-div_cancel_left}
use native.Mathlib.Omega.{arith}
use borrow.Author.Tests.{eq-eqb, ne_eqb}
use lib.ListN.{length}
use Rattle.laws.specs.Lowest.{In}
use Rattle.refusal.specs.Order.{refusal}
use Rattle.grammar.specs.Words.{Reading}
use Rattle.header.specs.declared.Layout.{Layout}
use Rattle.header.proofs.AcceptedExactly.{accepted_number, accepted_once}
use Rattle.header.proofs.RefusedExactly.{refused-number}
use Rattle.opening.specs.Opening.{offset_at, end_at, rows_said, table_refusal, table_of, opened, opened_of}
use Rattle.opening.specs.declared.Opened.{Opened}
use Rattle.header.specs.Layouts.{layout_of}
use Rattle.opening.specs.Words.{FixedBody, IndexedBody, Opens, NeedsIndex, entries_of, rows_in, RefusedWith}
use Rattle.opening.specs.Words.{Test, header_accepted, index_there, rows_few, whole_rows, index_head, entries, last_end, Holds}
use Rattle.opening.proofs.RowWidth.{OneWidth, NoWidth, some_or_none_varies, no_width_exactly, one_width_exactly, says_one_width, says_no_width}
use Rattle.opening.proofs.OpeningLaws.{end_first, end_entry}
use Rattle.opening.proofs.OpeningInOrder.{rows_exactly, all_hold_exactly, refused_exactly_when}

module _ (file index : List ℕ) (most : ℕ) where
  abbrev l : Layout
  l = layout_of file

  -- ---- the number of rows
  rows_fixed : OneWidth file → (n : ℕ) → FixedBody l index (length file) n → rows_in file index ≡ n
  unfolding rows_said
  rows_fixed w n b =
      let e : length file - l.start ≡ l.width * n = omega (arith, b.whole_rows) in
      rw (ne_eqb l.width 0 (λ z. omega arith)) (ap (λ (k : ℕ). k / l.width) e ∙ mul-div_cancel_left n w)

  rows_indexed : NoWidth file → (n : ℕ) → IndexedBody l index (length file) n → rows_in file index ≡ n
  unfolding rows_said
  rows_indexed w n b = rw (eq-eqb l.width 0 w) b.count

  pub opened_rows : (h : Reading) (n : ℕ) → Opens file index most h n → (table_of file index).rows ≡ n
  opened_rows h n o =
      ⊎_elim (λ b. rows_fixed ((one_width_exactly file h o.header).1 b.0) n b.1)
      (λ b. rows_indexed ((no_width_exactly file h o.header).1 b.0) n b.1) o.body

  -- ---- the rules are what the seven tests ask
  indexed : NeedsIndex file → ((x : Test) → Holds file index most x) → IndexedBody l index (length file) (entries_of file index)
  indexed w all =
      let starts = all entries w in
      let ends = all last_end w in
      record {
        count = refl;
        long = (all index_head w).long;
        size_of_header = (all index_head w).size_of_header;
        row_1 = λ p. (starts 1 (omega arith, p)).row_1 refl;
        next_row = λ k p q. (starts (suc k) (omega arith, q)).next_row k p refl;
        last_row = ends.last_row;
        no_row = ends.no_row;
      }

  opens : ((x : Test) → Holds file index most x) → (h : Reading) × (n : ℕ) × Opens file index most h n
  opens all =
      let a = all header_accepted in
      ⊎_elim
      (λ s.
      let b = indexed (a.0, a.1, s) all in
      let n = entries_of file index in
      let few = all rows_few n (inr ((a.0, a.1, s), refl)) in
      (a.0, n, record { header = a.1; as_asked = few.0; row_limit = few.1; body = inr (s, b) }))
      (λ f.
      let b = all whole_rows (a.0, a.1, f) in
      let n = b.0 in
      let r = rows_fixed ((one_width_exactly file a.0 a.1).1 f) n b.1 in
      let few = all rows_few n ((rows_exactly file index most a n).1 r) in
      (a.0, n, record { header = a.1; as_asked = few.0; row_limit = few.1; body = inl (f, b.1) }))
      (some_or_none_varies file a.0 a.1)

  module _ (h : Reading) (n : ℕ) (o : Opens file index most h n) where
    -- the body, whichever of the two the width says
    pub body_fixed : OneWidth file → FixedBody l index (length file) n
    body_fixed w = ⊎_elim (λ b. b.1) (λ b. absurd (omega (arith, (no_width_exactly file h o.header).1 b.0))) o.body

    body_indexed : NoWidth file → IndexedBody l index (length file) n
    body_indexed w = ⊎_elim (λ b. absurd (omega (arith, (one_width_exactly file h o.header).1 b.0))) (λ b. b.1) o.body

    pub starts_right : NoWidth file → (k : ℕ) → In n k → offset_at l index k ≡ end_at l index (pred k)
    starts_right w zero i = absurd (omega (arith, i.0))
    starts_right w (suc zero) i = (body_indexed w).row_1 (omega (arith, i.1)) ∙ end_first l index 0 refl
    starts_right w (suc (suc k)) i = (body_indexed w).next_row (suc k) (omega arith) i.1 ∙ end_entry l index (suc k) (λ z. omega arith)

    pub ends_right : NoWidth file → (m : ℕ) → n ≡ m → end_at l index m ≡ length file
    ends_right w zero e = sym (end_first l index 0 refl) ∙ (body_indexed w).no_row e
    ends_right w (suc m) e = sym (end_entry l index (suc m) (λ z. omega arith)) ∙ rw e at ((body_indexed w).last_row (omega arith))

    all_hold : (x : Test) → Holds file index most x
    all_hold header_accepted = (h, o.header)
    all_hold index_there = λ w. omega (arith, (body_indexed (says_no_width file w)).long)
    all_hold rows_few = λ m r.
        let e = (rows_exactly file index most (h, o.header) m).0 r in
        (omega (arith, e, opened_rows h n o, o.as_asked), omega (arith, e, opened_rows h n o, o.row_limit))
    all_hold whole_rows = λ w. (n, body_fixed (says_one_width file w))
    all_hold index_head = λ w.
        let b = body_indexed (says_no_width file w) in
        record { long = rw b.count b.long; size_of_header = b.size_of_header }
    all_hold entries = λ w k i.
        let b = body_indexed (says_no_width file w) in
        record {
          row_1 = λ e. b.row_1 (omega (arith, i.0, i.1, b.count));
          next_row = λ j p e. b.next_row j p (omega (arith, i.1, b.count));
        }
    all_hold last_end = λ w. let b = body_indexed (says_no_width file w) in rw b.count (record { last_row = b.last_row; no_row = b.no_row })

  -- NOTHING IS REFUSED EXACTLY WHEN the table opens in words
  pub opened_exactly : ((table_refusal file index most).number ≡ 0) ↔ ((h : Reading) × (n : ℕ) × Opens file index most h n)
  opened_exactly = (
    λ e. opens ((all_hold_exactly file index most).0 e),
    λ w. (all_hold_exactly file index most).1 (all_hold w.0 w.1 w.2),
  )

  pub answer_opened_exactly : (opened_of file index most ≡ Ok (opened file index)) ↔ ((h : Reading) × (n : ℕ) × Opens file index most h n)
  unfolding opened_of
  answer_opened_exactly = (
    λ e. opened_exactly.0 ((accepted_number (table_refusal file index most) (opened file index)).0 e),
    λ w. (accepted_number (table_refusal file index most) (opened file index)).1 (opened_exactly.1 w),
  )

  -- THE OPENED TABLE has the header's layout and the n rows
  pub opened_table : (h : Reading) (n : ℕ) → Opens file index most h n
      → (o : Opened) × (opened_of file index most ≡ Ok o) × (o.table ≡ record { layout = layout_of file; rows = n })
  opened_table h n o = (
    opened file index,
    answer_opened_exactly.1 (h, n, o),
    λ i. record { layout = layout_of file; rows = opened_rows h n o i },
  )

  -- with one reading and one number of rows
  pub opened_once : (h k : Reading) (n m : ℕ) → Opens file index most h n → Opens file index most k m → (h ≡ k) × (n ≡ m)
  opened_once h k n m o p = (accepted_once file h k o.header p.header, sym (opened_rows h n o) ∙ opened_rows k m p)

  -- A TABLE IS REFUSED WITH m AT p EXACTLY WHEN a test fails so and all earlier ones hold
  pub answer_refused_exactly : (m p : ℕ) → (opened_of file index most ≡ Err (refusal m p)) ↔ RefusedWith file index most m p
  unfolding opened_of
  answer_refused_exactly m p = (
    λ e. (refused_exactly_when file index most m p).0 ((refused-number (table_refusal file index most) (refusal m p) (opened file index)).0 e),
    λ w. (refused-number (table_refusal file index most) (refusal m p) (opened file index)).1 ((refused_exactly_when file index most m p).1 w),
  )
