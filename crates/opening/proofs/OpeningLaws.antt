-- The laws of index entries, and of an opening that goes on after the header.
use mathlib.Core.Path.{◌≡◌, refl, sym, ap, ◌∙◌}
use mathlib.Core.Bool.{Bool, true, false, cond, not, true≢false}
use mathlib.Core.List.{List, [], ◌∷◌}
use Prim.Native.Nat.{ℕ, zero, suc, min, ◌+◌, ◌-◌, ◌*◌, ◌/◌, ◌%◌, ◌≤◌, ◌<◌}
use native.Mathlib.Omega.{arith}
use native.Mathlib.Numerals.{add-one}
use native.Mathlib.Nat.{add-zero}
use lib.Dec.{eqb, ltb}
use lib.ListN.{length, take, drop}
use borrow.Author.Tests.{eq-eqb, eqb-true, ne_eqb, lt-ltb, le-ltb}
use Rattle.laws.proofs.LowestLaws.{bool_cases}
use Rattle.laws.proofs.TestLaws.{clash}
use Rattle.refusal.specs.declared.Refusal.{Refusal}
use Rattle.laws.specs.Lowest.{lowest, found}
use Rattle.refusal.specs.Order.{Answer, refusal, fine, answered, refused_at, refused_if, located, first, first_of}
use Rattle.refusal.proofs.OrderLaws.{first_passes, first-refuses, both, first_within, goes_on, located-zero, located-at, located_passes}
use Rattle.number.specs.declared.Order.{Order}
use Rattle.number.specs.Bytes.{number}
use Rattle.number.proofs.NumberLaws.{number_outside, number_within}
use Rattle.header.specs.declared.Layout.{Layout}
use Rattle.std.specs.Prelude.{Ok, Err, Option}
use Rattle.header.specs.declared.Header.{Header}
use Rattle.header.specs.Judge.{header_refusal}
use Rattle.header.specs.Layouts.{layout_of, handed_on, header_of}
use Rattle.header.proofs.JudgeLaws.{given}
use Rattle.header.proofs.AcceptedExactly.{accepted_number}
use Rattle.header.proofs.RefusedExactly.{refused-number}
use Rattle.header.specs.Names.{column_among}
use Rattle.header.specs.Steps.{column_of}
use Rattle.header.proofs.HeaderLaws.{among_given, among_names, given_header}
use Rattle.refusal.proofs.AnswerLaws.{ok-fine, err-is, err-refuses}
use Rattle.opening.specs.declared.Opened.{Opened}
use Rattle.limits.specs.Limits.{most_rows}
use Rattle.opening.specs.Opening.{needs_index, entries_said, offset_at, length_at, entry_end, end_at, entry_wrong, size_wrong, head_wrong, index_refusal}
use Rattle.opening.specs.Opening.{fixed_refusal, rows_said, body_refusal, open_refusal, table_refusal, opened, opened_of}

-- ---- where a row ends by its entry: an entry past the index says 0
module _ (o : Order) (index : List ℕ) (first : ℕ) where
  pub no_entry : (k : ℕ) → length index / 8 < k → 0 ≡ entry_end o index first k
  no_entry zero h = absurd (omega arith)
  no_entry (suc k) h =
      rw (number_outside o index (8 * suc k) 4 (omega arith), number_outside o index (8 * suc k + 4) 4 (omega arith))

  pub by_entry : (k a b : ℕ) → (k ≡ 0 → ⊥) → a ≡ number o index (8 * k) 4 → b ≡ number o index (8 * k + 4) 4 → a + b ≡ entry_end o index first k
  by_entry zero a b h e f = absurd (h refl)
  by_entry (suc k) a b h e f = rw (e, f)

module _ (l : Layout) (index : List ℕ) where
  -- where row 1 starts
  pub end_first : (k : ℕ) → k ≡ 0 → l.start ≡ end_at l index k
  unfolding end_at
  end_first k e = rw e

  -- the end of a row by its entry
  pub end_entry : (k : ℕ) → (k ≡ 0 → ⊥) → offset_at l index k + length_at l index k ≡ end_at l index k
  unfolding end_at
  end_entry zero h = absurd (h refl)
  end_entry (suc k) h = refl

  -- ---- a loop over the entries: entry i + 1 starts where the last row ended, or elsewhere
  module _ (i offset end : ℕ) (a : offset ≡ offset_at l index (i + 1)) (e : end ≡ end_at l index i) where
    pub entry_fine : offset ≡ end → entry_wrong l index (suc i) ≡ false
    entry_fine h =
        let u : offset_at l index (suc i) ≡ end_at l index i = rw (← add-one i, ← a, ← e) h in
        rw (eq-eqb (offset_at l index (suc i)) (end_at l index i) u)

    pub entry_wrong_lem : (offset ≡ end → ⊥) → entry_wrong l index (suc i) ≡ true
    entry_wrong_lem h =
        let u : offset_at l index (suc i) ≡ end_at l index i → ⊥ = λ q. h (a ∙ ap (λ (k : ℕ). offset_at l index k) (add-one i) ∙ q ∙ sym e) in
        rw (ne_eqb (offset_at l index (suc i)) (end_at l index i) u)

    pub end_next : (bytes : ℕ) → bytes ≡ length_at l index (i + 1) → offset + bytes ≡ end_at l index (i + 1)
    end_next bytes b = rw (a, b) (end_entry (i + 1) (λ q. omega arith))

-- a number of an entry that is cut out of the index
pub entry_number : (o : Order) (index : List ℕ) (at k : ℕ) → at + 8 ≤ length index → k + 4 ≤ 8
    → number o (take (at + 8 - at) (drop at index)) k 4 ≡ number o index (at + k) 4
entry_number o index at k h l =
    let q : at + 8 - at ≡ 8 = omega arith in
    rw q (number_within o index at 8 k 4 h l)

pub entry_first : (o : Order) (index : List ℕ) (at : ℕ) → at + 8 ≤ length index
    → number o (take (at + 8 - at) (drop at index)) 0 4 ≡ number o index at 4
entry_first o index at h = entry_number o index at 0 h (omega arith) ∙ ap (λ (k : ℕ). number o index k 4) (add-zero at)

-- an index whose head is right has all its entries
pub entries_there : (l : Layout) (index : List ℕ) → head_wrong l index ≡ false → 8 + 8 * entries_said l index ≤ length index
unfolding head_wrong
entries_there l index h =
    bool_cases (eqb (length index) (8 + 8 * entries_said l index))
    (λ t. let e = eqb-true (length index) (8 + 8 * entries_said l index) t in omega (arith, e))
    (λ t. absurd (true≢false (sym (ap (λ (b : Bool). cond b (size_wrong l index) true) t) ∙ h)))

-- ---- the index judged: n is the count that it says, w the lowest entry that starts elsewhere
module _ (l : Layout) (index : List ℕ) (size : ℕ) where
  abbrev last_refusal : ℕ → Refusal
  last_refusal n = first (refused_if (not (eqb (end_at l index n) size)) 8 n) fine

  pub index_head : head_wrong l index ≡ true → refusal 8 0 ≡ index_refusal l index size
  unfolding index_refusal first
  index_head h = rw h

  module _ (h : head_wrong l index ≡ false) (n w : ℕ) (e : n ≡ entries_said l index) (q : w ≡ lowest (entry_wrong l index) n) where
    head_passes : index_refusal l index size ≡ first (located 8 w) (last_refusal n)
    unfolding index_refusal
    head_passes =
        first_passes (refused_if (head_wrong l index) 8 0)
        (first (located 8 (lowest (entry_wrong l index) (entries_said l index))) (last_refusal (entries_said l index)))
        (ap (λ (b : Bool). (refused_if b 8 0).number) h)
        ∙ rw (← e, ← q)

    pub index_entry : (w ≡ 0 → ⊥) → refusal 8 w ≡ index_refusal l index size
    index_entry z =
        sym (head_passes ∙ first-refuses (located 8 w) (last_refusal n) (λ u. z (located_passes 8 w (λ k. omega arith) u)) ∙ located-at 8 w z)

    passes_entries : w ≡ 0 → index_refusal l index size ≡ last_refusal n
    passes_entries z = head_passes ∙ first_passes (located 8 w) (last_refusal n) (ap (λ (r : Refusal). r.number) (located-zero 8 w z))

    pub index_last : w ≡ 0 → (end_at l index n ≡ size → ⊥) → refusal 8 n ≡ index_refusal l index size
    unfolding first
    index_last z u = sym (passes_entries z ∙ rw (ne_eqb (end_at l index n) size u))

    pub index-fine : w ≡ 0 → end_at l index n ≡ size → fine ≡ index_refusal l index size
    unfolding first
    index-fine z u = sym (passes_entries z ∙ rw (eq-eqb (end_at l index n) size u))

-- what the test of the entries answers: nothing where w is 0, else 8 at w
pub entries_pass : (w : ℕ) (o : Option ℕ) → o ≡ found w → refused_at 8 o ≡ Ok tt → w ≡ 0
entries_pass zero o e p = refl
entries_pass (suc w) o e p = absurd (clash (other (rw e at p)))
  where
    other : ◌≡◌ {A = Answer} (Err (refusal 8 (suc w))) (Ok tt) → ◌≡◌ {A = ℕ} 0 1
    other e = cc

pub entry_refused : (l : Layout) (index : List ℕ) (size : ℕ) → head_wrong l index ≡ false → (n w : ℕ) → n ≡ entries_said l index
    → w ≡ lowest (entry_wrong l index) n → (o : Option ℕ) → o ≡ found w → (q : Refusal) → refused_at 8 o ≡ Err q
    → Err q ≡ answered (index_refusal l index size)
entry_refused l index size h n zero e f o g q r = absurd (clash (other (rw g at r)))
  where
    other : ◌≡◌ {A = Answer} (Ok tt) (Err q) → ◌≡◌ {A = ℕ} 0 1
    other e = cc
entry_refused l index size h n (suc w) e f o g q r =
    rw (← index_entry l index size h n (suc w) e f (λ z. omega (arith, z))) (sym (rw g at r))

-- ---- the tests after the header's own, one after the other
test_ends : (b : Bool) (n p : ℕ) → (n ≡ 0 → ⊥) → first_of (refused_if b n p ∷ []) ≡ refused_if b n p
test_ends true n p h = first-refuses (refusal n p) fine h
test_ends false n p h = first_passes fine fine refl

module _ (l : Layout) (index : List ℕ) (size most : ℕ) where
  abbrev lacks : Bool
  lacks = cond (needs_index l) (ltb (length index) 8) false

  pub open_head : lacks ≡ true → refusal 8 0 ≡ open_refusal l index size most
  unfolding open_refusal first
  open_head h = rw h

  pub open_rows : lacks ≡ false → (rows : ℕ) → rows ≡ rows_said l index size → min most most_rows < rows
      → refusal 15 0 ≡ open_refusal l index size most
  unfolding open_refusal first
  open_rows h rows e u = rw (h, ← e, lt-ltb (min most most_rows) rows u)

  -- nothing comes after the body's own tests
  body_ends : first_of (body_refusal l index size ∷ []) ≡ body_refusal l index size
  unfolding index_refusal fixed_refusal
  body_ends =
      bool_cases (needs_index l)
      (λ t.
      rw t
      (first_within
      (refused_if (head_wrong l index) 8 0
      ∷ located 8 (lowest (entry_wrong l index) (entries_said l index))
      ∷ refused_if (not (eqb (end_at l index (entries_said l index)) size)) 8 (entries_said l index)
      ∷ [])))
      (λ t. rw t (test_ends (cond (eqb (length index) 0) (not (eqb ((size - l.start) % l.width) 0)) true) 7 size (λ z. omega arith)))

  pub open_rest : lacks ≡ false → (rows : ℕ) → rows ≡ rows_said l index size → rows ≤ min most most_rows → (b : Refusal)
      → b ≡ body_refusal l index size
      → b ≡ open_refusal l index size most
  unfolding open_refusal
  open_rest h rows e u b q =
      let many = refused_if (ltb (min most most_rows) (rows_said l index size)) 15 0 in
      goes_on (refused_if lacks 8 0) (refused_if lacks 8 0) b (many ∷ body_refusal l index size ∷ []) refl
      (ap (λ (t : Bool). (refused_if t 8 0).number) h)
      (goes_on many many b (body_refusal l index size ∷ []) refl
      (ap (λ (t : Bool). (refused_if t 15 0).number) (ap (ltb (min most most_rows)) (sym e) ∙ le-ltb (min most most_rows) rows u))
      (q ∙ sym body_ends))

  -- nor after an opening's
  open_ends : first_of (open_refusal l index size most ∷ []) ≡ open_refusal l index size most
  unfolding open_refusal
  open_ends =
      first_within
      (refused_if lacks 8 0 ∷ refused_if (ltb (min most most_rows) (rows_said l index size)) 15 0 ∷ body_refusal l index size ∷ [])

-- ---- an opening: the header first, then the tests after it, and the table where nothing is refused
module _ (file index : List ℕ) (most : ℕ) where
  -- the header's refusal
  pub header_refused : (q : Refusal) → header_of file ≡ Err q → opened_of file index most ≡ Err q
  unfolding header_of opened_of table_refusal
  header_refused q e =
      let r = (refused-number (header_refusal file) q (handed_on file)).0 e in
      (refused-number (table_refusal file index most) q (opened file index)).1 (
        first-refuses (header_refusal file) (first (open_refusal (layout_of file) index (length file) most) fine) (λ z. r.1 (ap (λ (r : Refusal). r.number) (sym r.0) ∙ z))
            ∙ r.0,
        r.1,
      )

  module _ (h : Header) (e : header_of file ≡ Ok h) where
    after_header : table_refusal file index most ≡ open_refusal h.layout index (length file) most
    unfolding table_refusal
    after_header =
        let g = given_header file h e in
        first_passes (header_refusal file) (first (open_refusal (layout_of file) index (length file) most) fine) g.0
        ∙ open_ends (layout_of file) index (length file) most
        ∙ ap (λ (x : Header). open_refusal x.layout index (length file) most) (sym g.1)

    pub table_refused : (q : Refusal) → answered (open_refusal h.layout index (length file) most) ≡ Err q → opened_of file index most ≡ Err q
    unfolding opened_of
    table_refused q a =
        let r = err-is (open_refusal h.layout index (length file) most) q a in
        (refused-number (table_refusal file index most) q (opened file index)).1 (
          after_header ∙ r,
          λ z. err-refuses (open_refusal h.layout index (length file) most) q a (ap (λ (r : Refusal). r.number) r ∙ z),
        )

    pub table_opened : (rows : ℕ) → rows ≡ rows_said h.layout index (length file) → answered (open_refusal h.layout index (length file) most) ≡ Ok tt
        → opened_of file index most ≡ Ok (record { table = record { layout = h.layout; rows = rows }; names = h.names })
    unfolding opened_of
    table_opened rows m a =
        let z = ap (λ (r : Refusal). r.number) after_header ∙ ok-fine (open_refusal h.layout index (length file) most) a in
        let g = given_header file h e in
        rw m ((accepted_number (table_refusal file index most) (opened file index)).1 z
        ∙ ap (λ (x : Header). Ok (record { table = record { layout = x.layout; rows = rows_said x.layout index (length file) }; names = x.names })) (sym g.1))

-- THE COLUMN OF A NAME, found among the names that an opened table gives on
pub opened_column : (file index : List ℕ) (most : ℕ) (o : Opened) → opened_of file index most ≡ Ok o → (name : List ℕ)
    → column_among file o.names o.table.layout.columns name ≡ column_of file name
unfolding opened_of table_refusal header_of
opened_column file index most o e name =
    let g = given (table_refusal file index most) (opened file index) o e in
    let z = (both (header_refusal file) (first (open_refusal (layout_of file) index (length file) most) fine) g.0).0 in
    rw g.1
    (ap (among_given file name) (sym ((accepted_number (header_refusal file) (handed_on file)).1 z)) ∙ among_names file name)
