-- The tests of the opening in document 01's order: nothing is refused exactly where all of them hold, and a number at a place exactly where
-- one fails so while all earlier ones hold.
--
-- The plan. The definition is a nest: the header, an index that is there, the rows, then the tests of one width or those of an index.
-- `one_after_the_other` lays it flat as seven refusals in a row: a test of the one case passes in the other (`flatten`). Each is then
-- judged in words: the header by crate `header` (`judged_header`); and, where that is known to be accepted, which case it is (`no_width`,
-- `one_width`), the rows that are said, as a quotient (`rows_exactly`), whole rows and no index (`fixed_exactly`), the index's head
-- (`head_exactly`), its lowest entry that starts wrong (`start_exactly`), the end of the last row (`end_exactly`). `in_order` lines the
-- seven up. No test both holds and fails (`not_both`), and none fails in two ways (`one_way`); so the law of tests in order (JudgedLaws)
-- gives `all_hold_exactly` and `refused_exactly_when`.
use mathlib.Core.Path.{◌≡◌, refl, sym, ap, subst, ◌∙◌}
use mathlib.Core.Logic.{◌↔◌, ◌⊎◌, by_cases, inl, inr, ⊎_elim}
use mathlib.Core.Bool.{Bool, true, false, cond, not, true≢false}
use mathlib.Core.List.{List, [], ◌∷◌}
use Prim.Native.Nat.{ℕ, zero, suc, min, ◌+◌, ◌-◌, ◌*◌, ◌/◌, ◌%◌, ◌≤◌, ◌<◌}
use native.Mathlib.Decide.{dec_lt}
use native.Mathlib.Nat.{div-add-mod, div-eq_of_lt-le, lt-mul-div-succ, mul_comm, mul-div-le, mul-mod_right}
use native.Mathlib.Numerals.{add-one}
use native.Mathlib.Omega.{arith}
use borrow.Author.Tests.{ltb-true, ltb-false, eqb-true, eqb-false, eq-eqb, ne_eqb}
use lib.Dec.{eqb, ltb}
use lib.ListN.{length, get_or}
use Rattle.laws.specs.Lowest.{lowest, In, LowestFailing}
use Rattle.laws.proofs.LowestLaws.{bool_cases}
use Rattle.laws.proofs.TestLaws.{equal, not_unequal, wrong_unless, wrong_else}
use Rattle.refusal.specs.declared.Refusal.{Refusal}
use Rattle.refusal.specs.Order.{refusal, fine, refused_if, located, first, first_of}
use Rattle.refusal.proofs.OrderLaws.{first_within}
use Rattle.refusal.proofs.JudgedLaws.{Judged, InOrder, fine_exactly, refused-exactly, judged_lowest, judged_once, judged_where, asked_where}
use Rattle.refusal.proofs.JudgedLaws.{right_where, lowest_one, fails_not_each}
use Rattle.grammar.specs.Words.{Reading}
use Rattle.header.specs.declared.Layout.{Layout}
use Rattle.header.specs.Judge.{header_refusal}
use Rattle.header.specs.Words.{AcceptedHeader}
use Rattle.header.specs.Refusals as header
use Rattle.header.proofs.AcceptedExactly.{accepted_exactly}
use Rattle.header.proofs.RefusedExactly as refused
use Rattle.header.proofs.LayoutMeans.{laid_out_lem}
use Rattle.limits.specs.Limits.{most_rows}
use Rattle.opening.specs.Opening.{needs_index, header_size, offset_at, length_at, end_at, entry_wrong, size_wrong, head_wrong}
use Rattle.opening.specs.Opening.{index_refusal, fixed_refusal, rows_said, open_refusal, table_refusal}
use Rattle.header.specs.Layouts.{layout_of}
use Rattle.opening.specs.Words.{HasOneWidth, NeedsIndex, entries_of, WholeRows, RowsSaid, rows_in, FixedRight, HeadRight, StartsRight, EndsRight}
use Rattle.opening.specs.Words.{Test, header_accepted, index_there, rows_few, whole_rows, index_head, entries, last_end, rank, Holds, FailsAt, RefusedWith}
use Rattle.opening.proofs.OpeningLaws.{end_first, end_entry}
use Rattle.opening.proofs.RowWidth.{OneWidth, says_one_width, has_one_width, needs_index_lem}

-- ---- the tests one after the other
order : List Test
order = header_accepted ∷ index_there ∷ rows_few ∷ whole_rows ∷ index_head ∷ entries ∷ last_end ∷ []

at-rank : (x : Test) → get_or order (rank x) last_end ≡ x
unfolding order
at-rank header_accepted = refl
at-rank index_there = refl
at-rank rows_few = refl
at-rank whole_rows = refl
at-rank index_head = refl
at-rank entries = refl
at-rank last_end = refl

apart : (x y : Test) → rank x ≡ rank y → x ≡ y
apart x y e = sym (at-rank x) ∙ ap (λ (k : ℕ). get_or order k last_end) e ∙ at-rank y

rank_below : (x : Test) → rank x < 7
rank_below header_accepted = omega arith
rank_below index_there = omega arith
rank_below rows_few = omega arith
rank_below whole_rows = omega arith
rank_below index_head = omega arith
rank_below entries = omega arith
rank_below last_end = omega arith

-- a test that is made in one of two cases only
flatten : (b : Bool) (h t r f x y z : Refusal)
    → first_of (h ∷ first_of (t ∷ r ∷ cond b (first_of (x ∷ y ∷ z ∷ [])) f ∷ []) ∷ [])
    ≡ first_of (h ∷ t ∷ r ∷ cond (not b) f fine ∷ cond b x fine ∷ cond b y fine ∷ cond b z fine ∷ [])
unfolding first
flatten true h t r f x y z =
    ap (λ (q : Refusal). first h q) (first_within (t ∷ r ∷ first_of (x ∷ y ∷ z ∷ []) ∷ []))
    ∙ ap (λ (q : Refusal). first h (first t (first r q))) (first_within (x ∷ y ∷ z ∷ []))
flatten false h t r f x y z = ap (λ (q : Refusal). first h q) (first_within (t ∷ r ∷ f ∷ []))

refused_where : (b c : Bool) (n p : ℕ) → refused_if (cond b c false) n p ≡ cond b (refused_if c n p) fine
refused_where true c n p = refl
refused_where false c n p = refl

empty_list : (l : List ℕ) → length l ≡ 0 → l ≡ []
empty_list [] e = refl
empty_list (x ∷ l) e = absurd (omega arith)

-- the quotient: so many times w fits, and once more does not
quotient_exactly : (x w m : ℕ) → 0 < w → ((w * m ≤ x) × (x < w * suc m)) ↔ (x / w ≡ m)
quotient_exactly x w m p = (
  λ h. div-eq_of_lt-le w (rw (mul_comm m w) h.0) (rw (add-one m, mul_comm (suc m) w) h.1),
  λ e. (rw e at (mul-div-le x w), rw (e, add-one m) at (lt-mul-div-succ x p)),
)

module _ (file index : List ℕ) (most : ℕ) where
  abbrev l : Layout
  l = layout_of file

  abbrev size : ℕ
  size = length file

  abbrev n : ℕ
  n = entries_of file index

  tests : List Refusal
  tests =
      header_refusal file
      ∷ cond (needs_index l) (refused_if (ltb (length index) 8) 8 0) fine
      ∷ refused_if (ltb (min most most_rows) (rows_in file index)) 15 0
      ∷ cond (not (needs_index l)) (fixed_refusal l index size) fine
      ∷ cond (needs_index l) (refused_if (head_wrong l index) 8 0) fine
      ∷ cond (needs_index l) (located 8 (lowest (entry_wrong l index) n)) fine
      ∷ cond (needs_index l) (refused_if (not (eqb (end_at l index n) size)) 8 n) fine
      ∷ []

  one_after_the_other : table_refusal file index most ≡ first_of tests
  unfolding table_refusal open_refusal index_refusal tests
  one_after_the_other =
      flatten (needs_index l) (header_refusal file) (refused_if (cond (needs_index l) (ltb (length index) 8) false) 8 0)
      (refused_if (ltb (min most most_rows) (rows_in file index)) 15 0) (fixed_refusal l index size) (refused_if (head_wrong l index) 8 0)
      (located 8 (lowest (entry_wrong l index) n)) (refused_if (not (eqb (end_at l index n) size)) 8 n)
      ∙ simp (refused_where (needs_index l) (ltb (length index) 8) 8 0)

  -- ---- each test in words
  module _ (a : Holds file index most header_accepted) where
    no_width : (needs_index l ≡ true) ↔ NeedsIndex file
    no_width = (λ e. (needs_index_lem file a).0 (eqb-true l.width 0 e), λ g. eq-eqb l.width 0 ((needs_index_lem file a).1 g))

    one_width : (not (needs_index l) ≡ true) ↔ HasOneWidth file
    one_width = (
      λ e.
          bool_cases (needs_index l)
          (λ t. absurd (true≢false (sym (rw t at e))))
          (λ t. let z = eqb-false l.width 0 t in (has_one_width file a).0 (omega arith)),
      λ g. let w = (has_one_width file a).1 g in rw (ne_eqb l.width 0 (λ z. omega arith)),
    )

    start_inside : l.start ≤ size
    start_inside = (laid_out_lem file a.0 a.1).start_inside

    -- the rows that are said are those that the definition counts
    whole_exactly : OneWidth file → (m : ℕ) → WholeRows l size m ↔ ((size - l.start) / l.width ≡ m)
    whole_exactly w m =
        let q = quotient_exactly (size - l.start) l.width m w in
        let i = start_inside in (
          λ r. q.0 (omega (arith, r.fit), omega (arith, r.no_more)),
          λ e. let r = q.1 e in record { fit = omega (arith, r.0); no_more = omega (arith, r.1) },
        )

    pub rows_exactly : (m : ℕ) → RowsSaid file index m ↔ (rows_in file index ≡ m)
    unfolding rows_said
    rows_exactly m = (
      ⊎_elim
          (λ r. let w = (has_one_width file a).1 r.0 in rw (ne_eqb l.width 0 (λ z. omega arith)) ((whole_exactly w m).0 r.1))
          (λ r. rw (eq-eqb l.width 0 ((needs_index_lem file a).1 r.0)) r.1),
      λ e.
          bool_cases (needs_index l)
          (λ t. inr (no_width.0 t, rw t at e))
          (λ t. let z = eqb-false l.width 0 t in let w : OneWidth file = omega arith in inl
          ((has_one_width file a).0 w, (whole_exactly w m).1 (rw t at e))),
    )

    few_rows : ltb (min most most_rows) (rows_in file index) ≡ false → Holds file index most rows_few
    few_rows e m r =
        let i = ltb-false (min most most_rows) (rows_in file index) e in
        let q = (rows_exactly m).0 r in
        (omega arith, omega arith)

    many_rows : ltb (min most most_rows) (rows_in file index) ≡ true → (m : ℕ) × RowsSaid file index m × ((most < m) ⊎ (most_rows < m))
    many_rows e =
        let m = rows_in file index in
        let i = ltb-true (min most most_rows) m e in
        (m, (rows_exactly m).1 refl, by_cases (dec_lt most m) inl (λ c. inr (omega arith)))

  judged_header : Judged (header_refusal file) ((h : Reading) × AcceptedHeader file h) (header.RefusedWith file)
  judged_header =
      bool_cases (eqb (header_refusal file).number 0)
      (λ t. let z = eqb-true (header_refusal file).number 0 t in inl (z, (accepted_exactly file).0 z))
      (λ t.
      let z = eqb-false (header_refusal file).number 0 t in
      inr (z, (refused.refused-exactly file (header_refusal file).number (header_refusal file).place).0 (refl, z)))

  fixed_exactly : l.start ≤ size → OneWidth file
      → (cond (eqb (length index) 0) (not (eqb ((size - l.start) % l.width) 0)) true ≡ false) ↔ FixedRight file index
  fixed_exactly i w =
      let x = (size - l.start) / l.width in
      let q = wrong_unless (eqb (length index) 0) (not (eqb ((size - l.start) % l.width) 0)) (equal (length index) 0)
      (not_unequal ((size - l.start) % l.width) 0) in (
        λ e.
            let r = q.0 e in
            (x, record { no_index = empty_list index r.0; whole_rows = omega (arith, div-add-mod (size - l.start) l.width, r.1) }),
        λ f.
            let e : size - l.start ≡ l.width * f.0 = omega (arith, f.1.whole_rows) in
            q.1 (rw f.1.no_index, ap (λ (k : ℕ). k % l.width) e ∙ mul-mod_right l.width f.0),
      )

  head_exactly : (head_wrong l index ≡ false) ↔ HeadRight l index
  unfolding head_wrong size_wrong
  head_exactly =
      let w = wrong_unless (eqb (length index) (8 + 8 * n)) _ (equal (length index) (8 + 8 * n))
      (wrong_else (eqb (header_size l index) l.start) (not (eqb (header_size l index + 4) l.start)) (equal (header_size l index) l.start)
      (not_unequal (header_size l index + 4) l.start)) in
      (λ e. let r = w.0 e in record { long = r.0; size_of_header = r.1 }, λ r. w.1 (r.long, r.size_of_header))

  start_exactly : (k : ℕ) → In n k → (entry_wrong l index k ≡ false) ↔ StartsRight l index k
  start_exactly zero i = absurd (omega (arith, i.0))
  start_exactly (suc zero) i =
      let w = not_unequal (offset_at l index 1) (end_at l index 0) in (
        λ e. record { row_1 = λ q. w.0 e ∙ sym (end_first l index 0 refl); next_row = λ j p q. absurd (omega arith) },
        λ r. w.1 (r.row_1 refl ∙ end_first l index 0 refl),
      )
  start_exactly (suc (suc j)) i =
      let w = not_unequal (offset_at l index (suc (suc j))) (end_at l index (suc j)) in
      let q = end_entry l index (suc j) (λ z. omega arith) in (
        λ e. record {
          row_1 = λ z. absurd (omega arith);
          next_row = λ k p z.
              let x : suc j ≡ k = omega arith in
              subst (λ (k : ℕ). offset_at l index (suc k) ≡ offset_at l index k + length_at l index k) x (w.0 e ∙ sym q);
        },
        λ r. w.1 (r.next_row (suc j) (omega arith) refl ∙ q),
      )

  end_exactly : (m : ℕ) → (not (eqb (end_at l index m) size) ≡ false) ↔ EndsRight l index size m
  end_exactly zero =
      let w = not_unequal (end_at l index 0) size in
      let q = end_first l index 0 refl in (
        λ e. record { last_row = λ p. absurd (omega arith); no_row = λ z. q ∙ w.0 e },
        λ r. w.1 (sym q ∙ r.no_row refl),
      )
  end_exactly (suc m) =
      let w = not_unequal (end_at l index (suc m)) size in
      let q = end_entry l index (suc m) (λ z. omega arith) in (
        λ e. record { last_row = λ p. q ∙ w.0 e; no_row = λ z. absurd (omega arith) },
        λ r. w.1 (sym q ∙ r.last_row (omega arith)),
      )

  -- ---- in order: all after the header are judged where it is known to be accepted
  in_order : InOrder Test rank apart (Holds file index most) (FailsAt file index most) tests 0
  unfolding tests fixed_refusal
  in_order = (
    (header_accepted, refl, λ e. judged_header),
    (
      (
        index_there,
        refl,
        λ e.
            asked_where (needs_index l) (NeedsIndex file) (no_width (e header_accepted (omega arith)))
            (ltb (length index) 8) 8 0 _ _ (λ z. omega arith)
            (λ g. (ltb-false (length index) 8, ltb-true (length index) 8)),
      ),
      (
        (
          rows_few,
          refl,
          λ e.
              judged_once (ltb (min most most_rows) (rows_in file index)) 15 0 _ _ (λ z. omega arith) (few_rows (e header_accepted (omega arith)))
              (many_rows (e header_accepted (omega arith))),
        ),
        (
          (
            whole_rows,
            refl,
            λ e.
                let a = e header_accepted (omega arith) in
                right_where (not (needs_index l)) (HasOneWidth file) (one_width a) _ 7 size (FixedRight file index) (λ z. omega arith)
                (λ g. fixed_exactly (start_inside a) (says_one_width file g)),
          ),
          (
            (
              index_head,
              refl,
              λ e.
                  right_where (needs_index l) (NeedsIndex file) (no_width (e header_accepted (omega arith)))
                  (head_wrong l index) 8 0 (HeadRight l index) (λ z. omega arith)
                  (λ g. head_exactly),
            ),
            (
              (
                entries,
                refl,
                λ e.
                    judged_where (needs_index l) _ (NeedsIndex file) _
                    (λ m p. (m ≡ 8) × LowestFailing n (StartsRight l index) p) (FailsAt file index most entries)
                    (no_width (e header_accepted (omega arith))) (λ m p g f. (f.0, g, f.1))
                    (λ g. judged_lowest (StartsRight l index) n 8 (λ z. omega arith) (entry_wrong l index) start_exactly),
              ),
              (
                (
                  last_end,
                  refl,
                  λ e.
                      right_where (needs_index l) (NeedsIndex file) (no_width (e header_accepted (omega arith))) _ 8 n
                      (EndsRight l index size n) (λ z. omega arith)
                      (λ g. end_exactly n),
                ),
                tt,
              ),
            ),
          ),
        ),
      ),
    ),
  )

  -- ---- a test does not both hold and fail, nor fail in two ways
  not_both : (x : Test) (m p : ℕ) → FailsAt file index most x m p → Holds file index most x → ⊥
  not_both header_accepted m p f h = refused.not_accepted_and_refused file h.0 m p h.1 f
  not_both index_there m p f h = omega (arith, f.3, h f.2)
  not_both rows_few m p f h =
      let w = h f.2.0 f.2.1 in ⊎_elim (λ x. omega (arith, w.0)) (λ x. omega (arith, w.1)) f.2.2
  not_both whole_rows m p f h = f.3 (h f.2)
  not_both index_head m p f h = f.3 (h f.2)
  not_both entries m p f h = fails_not_each _ _ p f.2 (h f.1)
  not_both last_end m p f h = f.3 (h f.2)

  one_way : (x : Test) (m p k q : ℕ) → ((y : Test) → rank y < rank x → Holds file index most y)
      → FailsAt file index most x m p → FailsAt file index most x k q
      → (m ≡ k) × (p ≡ q)
  one_way header_accepted m p k q e f g = refused.refused_once file m p k q f g
  one_way index_there m p k q e f g = (f.0 ∙ sym g.0, f.1 ∙ sym g.1)
  one_way rows_few m p k q e f g = (f.0 ∙ sym g.0, f.1 ∙ sym g.1)
  one_way whole_rows m p k q e f g = (f.0 ∙ sym g.0, f.1 ∙ sym g.1)
  one_way index_head m p k q e f g = (f.0 ∙ sym g.0, f.1 ∙ sym g.1)
  one_way entries m p k q e f g = (f.0 ∙ sym g.0, lowest_one _ _ p q f.2 g.2)
  one_way last_end m p k q e f g = (f.0 ∙ sym g.0, f.1 ∙ sym g.1)

  -- NOTHING IS REFUSED EXACTLY WHERE ALL TESTS HOLD
  pub all_hold_exactly : ((table_refusal file index most).number ≡ 0) ↔ ((x : Test) → Holds file index most x)
  unfolding tests
  all_hold_exactly =
      rw one_after_the_other
      (fine_exactly Test rank apart (Holds file index most) (FailsAt file index most) tests in_order rank_below not_both one_way)

  -- A TABLE IS REFUSED WITH m AT p EXACTLY WHEN a test fails so and all earlier ones hold
  pub refused_exactly_when : (m p : ℕ) → ((table_refusal file index most ≡ refusal m p) × (m ≡ 0 → ⊥)) ↔ RefusedWith file index most m p
  unfolding tests
  refused_exactly_when m p =
      rw one_after_the_other
      (let w = refused-exactly Test rank apart (Holds file index most)
      (FailsAt file index most) tests in_order rank_below not_both one_way m p in (
        λ e. let f = w.0 e in record { test = f.test; earlier = f.earlier; fails = f.fails },
        λ f. w.1 (record { test = f.test; earlier = f.earlier; fails = f.fails }),
      ))
