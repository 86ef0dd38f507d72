-- A TILE IS REFUSED WITH n AT p EXACTLY WHEN a test fails so, at the lowest row or side at which it does, and all earlier ones hold.
use mathlib.Core.Path.{◌≡◌, ◌∙◌}
use mathlib.Core.Logic.{⊎_elim}
use Prim.Native.Nat.{ℕ}
use Rattle.std.specs.Prelude.{Err}
use Rattle.refusal.proofs.AnswerLaws.{err-is, err-refuses, answered-refused}
use Rattle.refusal.specs.Order.{refusal}
use Rattle.tile.specs.Columns.{Tile}
use Rattle.tile.specs.Check.{verdict, verdict_of}
use Rattle.facts.specs.Facts.{RefusedWith}
use Rattle.facts.proofs.InOrder.{judged, none_refused, one_refusal}

module _ (t : Tile) (space n p : ℕ) where
  pub refused : verdict_of t space ≡ Err (refusal n p) → RefusedWith t space n p
  refused e =
      let q = err-is (verdict t space) (refusal n p) e in
      ⊎_elim
      (λ h. absurd (err-refuses (verdict t space) (refusal n p) e h.0))
      (λ h. rw q at h.1)
      (judged t space)

  pub words_refused : RefusedWith t space n p → verdict_of t space ≡ Err (refusal n p)
  words_refused w =
      ⊎_elim (λ h. absurd (none_refused t space h.1 n p w))
      (λ h.
      let z = one_refusal t space (verdict t space).number (verdict t space).place n p h.1 w in
      answered-refused (verdict t space) h.0 ∙ (λ i. Err (refusal (z.0 i) (z.1 i))))
      (judged t space)
