-- The tests of the check in document 01's order: all of them hold and nothing is refused, or one fails with its number and place
-- while all earlier ones hold; and no two such refusals fit one tile.
use mathlib.Core.Path.{◌≡◌, refl, sym, ap, ◌∙◌}
use mathlib.Core.Logic.{inl, inr, ⊎_elim}
use mathlib.Core.List.{List, [], ◌∷◌}
use lib.ListN.{get_or}
use Prim.Native.Nat.{ℕ, ◌<◌}
use native.Mathlib.Omega.{arith}
use Rattle.refusal.proofs.JudgedLaws.{Judged, InOrder, judged_in_order, one_failing, lowest_one, fails_not_each}
use Rattle.side.proofs.SuccessorExactly.{one_fault}
use Rattle.tile.specs.Columns.{Tile, sides}
use Rattle.tile.specs.Check.{tests, verdict}
use Rattle.facts.specs.Facts.{Test, sizes, owner_space, nodes, faces, links, successors, predecessors, first_edges, ring_faces, runs}
use Rattle.facts.specs.Facts.{starts, not_named_twice, covered, rank, Holds, FailsAt, RefusedWith, Succeeded}
use Rattle.facts.proofs.TestsInWords.{judged_sizes, judged_space, judged_nodes, judged_faces, judged_links, link_in, judged_successors}
use Rattle.facts.proofs.TestsInWords.{judged_predecessors, not_two, judged_first_edges, judged_ring_faces, judged_runs, judged_starts}
use Rattle.facts.proofs.TestsInWords.{judged_named, judged_covered}

-- no two tests have one place in the order
order : List Test
order = sizes ∷ owner_space ∷ nodes ∷ faces ∷ links ∷ successors ∷ predecessors ∷ first_edges ∷ ring_faces ∷ runs
    ∷ starts ∷ not_named_twice ∷ covered ∷ []

at-rank : (x : Test) → get_or order (rank x) covered ≡ x
unfolding order
at-rank sizes = refl
at-rank owner_space = refl
at-rank nodes = refl
at-rank faces = refl
at-rank links = refl
at-rank successors = refl
at-rank predecessors = refl
at-rank first_edges = refl
at-rank ring_faces = refl
at-rank runs = refl
at-rank starts = refl
at-rank not_named_twice = refl
at-rank covered = refl

apart : (x y : Test) → rank x ≡ rank y → x ≡ y
apart x y e = sym (at-rank x) ∙ ap (λ (k : ℕ). get_or order k covered) e ∙ at-rank y

rank_below : (x : Test) → rank x < 13
rank_below sizes = omega arith
rank_below owner_space = omega arith
rank_below nodes = omega arith
rank_below faces = omega arith
rank_below links = omega arith
rank_below successors = omega arith
rank_below predecessors = omega arith
rank_below first_edges = omega arith
rank_below ring_faces = omega arith
rank_below runs = omega arith
rank_below starts = omega arith
rank_below not_named_twice = omega arith
rank_below covered = omega arith

module _ (t : Tile) (space : ℕ) where
  -- each test is judged while the earlier ones hold; four of them need some of those
  in_order : InOrder Test rank apart (Holds t space) (FailsAt t space) (tests t space) 0
  in_order = (
    (sizes, refl, λ e. judged_sizes t),
    (
      (owner_space, refl, λ e. judged_space t space),
      (
        (nodes, refl, λ e. judged_nodes t),
        (
          (faces, refl, λ e. judged_faces t),
          (
            (links, refl, λ e. judged_links t),
            (
              (successors, refl, λ e. judged_successors t (e links (omega arith))),
              (
                (predecessors, refl, λ e. judged_predecessors t (e successors (omega arith))),
                (
                  (first_edges, refl, λ e. judged_first_edges t),
                  (
                    (ring_faces, refl, λ e. judged_ring_faces t),
                    (
                      (runs, refl, λ e. judged_runs t),
                      (
                        (starts, refl, λ e. judged_starts t),
                        (
                          (
                            not_named_twice,
                            refl,
                            λ e. judged_named t (e successors (omega arith))
                                (e predecessors (omega arith)) (e starts (omega arith)),
                          ),
                          (
                            (
                              covered,
                              refl,
                              λ e. judged_covered t (e successors (omega arith))
                                  (e predecessors (omega arith)) (e starts (omega arith)),
                            ),
                            tt,
                          ),
                        ),
                      ),
                    ),
                  ),
                ),
              ),
            ),
          ),
        ),
      ),
    ),
  )

  -- ALL TESTS HOLD, OR ONE IS THE FIRST THAT FAILS
  pub judged : Judged (verdict t space) ((x : Test) → Holds t space x) (RefusedWith t space)
  unfolding verdict
  judged =
      ⊎_elim
      (λ h. inl (h.0, λ x. h.1 x (rank_below x)))
      (λ h. inr (h.0, record { test = h.1.test; earlier = h.1.earlier; fails = h.1.fails }))
      (judged_in_order Test rank apart (Holds t space) (FailsAt t space) (tests t space) 0 in_order (λ x l. absurd (omega arith)))

  -- ---- a test does not both hold and fail
  not_both : (x : Test) (n p : ℕ) → FailsAt t space x n p → Holds t space x → ⊥
  not_both sizes n p f h = f.2 h
  not_both owner_space n p f h = omega (arith, f.2)
  not_both nodes n p f h = fails_not_each _ _ p f.1 h
  not_both faces n p f h = fails_not_each _ _ p f.1 h
  not_both links n p f h = fails_not_each _ _ p f.1 h
  not_both successors n p f h = fails_not_each _ _ p f.1 h
  not_both predecessors n p f h = fails_not_each _ _ p f.1 (λ s i. not_two t s (h s i))
  not_both first_edges n p f h = fails_not_each _ _ p f.1 h
  not_both ring_faces n p f h = fails_not_each _ _ p f.1 h
  not_both runs n p f h = fails_not_each _ _ p f.1 h
  not_both starts n p f h = fails_not_each _ _ p f.1 h
  not_both not_named_twice n p f h = fails_not_each _ _ p f.1 h
  not_both covered n p f h = fails_not_each _ _ p f.1 h

  -- nor fail in two ways, the earlier ones holding
  one_way : (x : Test) (n p m q : ℕ) → ((y : Test) → rank y < rank x → Holds t space y) → FailsAt t space x n p
      → FailsAt t space x m q → (n ≡ m) × (p ≡ q)
  one_way sizes n p m q e f g = (f.0 ∙ sym g.0, f.1 ∙ sym g.1)
  one_way owner_space n p m q e f g = (f.0 ∙ sym g.0, f.1 ∙ sym g.1)
  one_way nodes n p m q e f g = (f.0 ∙ sym g.0, lowest_one _ _ p q f.1 g.1)
  one_way faces n p m q e f g = (f.0 ∙ sym g.0, lowest_one _ _ p q f.1 g.1)
  one_way links n p m q e f g = (f.0 ∙ sym g.0, lowest_one _ _ p q f.1 g.1)
  one_way successors n p m q e f g =
      let z = lowest_one (Succeeded t) (sides t) p q f.1 g.1 in
      (one_fault t.edg p (link_in t (e links (omega arith)) p f.1.within).0 n m f.0 (rw z g.0), z)
  one_way predecessors n p m q e f g = (f.0 ∙ sym g.0, lowest_one _ _ p q f.1 g.1)
  one_way first_edges n p m q e f g = (f.0 ∙ sym g.0, lowest_one _ _ p q f.1 g.1)
  one_way ring_faces n p m q e f g = (f.0 ∙ sym g.0, lowest_one _ _ p q f.1 g.1)
  one_way runs n p m q e f g = (f.0 ∙ sym g.0, lowest_one _ _ p q f.1 g.1)
  one_way starts n p m q e f g = (f.0 ∙ sym g.0, lowest_one _ _ p q f.1 g.1)
  one_way not_named_twice n p m q e f g = (f.0 ∙ sym g.0, lowest_one _ _ p q f.1 g.1)
  one_way covered n p m q e f g = (f.0 ∙ sym g.0, lowest_one _ _ p q f.1 g.1)

  -- a tile of which all tests hold is refused with nothing, and no tile with two
  pub none_refused : ((x : Test) → Holds t space x) → (n p : ℕ) → RefusedWith t space n p → ⊥
  none_refused h n p w = not_both w.test n p w.fails (h w.test)

  pub one_refusal : (n p m q : ℕ) → RefusedWith t space n p → RefusedWith t space m q → (n ≡ m) × (p ≡ q)
  one_refusal n p m q a b =
      one_failing Test rank apart (Holds t space) (FailsAt t space) (tests t space) in_order rank_below not_both one_way n p m q
      (record { test = a.test; earlier = a.earlier; fails = a.fails })
      (record { test = b.test; earlier = b.earlier; fails = b.fails })
