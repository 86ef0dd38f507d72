-- What the opening of a table answers.
use mathlib.Core.Path.{◌≡◌, refl}
use Prim.Native.Nat.{ℕ}
use borrow.Author.Tests.{eq-eqb, ne_eqb}
use Rattle.std.proofs.Common.{Ok, Err}
use Rattle.refusal.specs.declared.Refusal.{Refusal}
use Rattle.header.proofs.JudgeLaws.{given as passed}
use Rattle.header.proofs.RefusedExactly.{refused-number}
use Rattle.opening.specs.declared.Opened.{Opened}
use Rattle.opening.specs.Opening.{table_refusal, opened, opened_of}
use Rattle.load.specs.declared.TableName.{TableName}
use Rattle.load.specs.Sources.{Files, file_of, index_of, given}
use Rattle.load.specs.Load.{finding, unless_found}
use Rattle.load.specs.Serving.Stages.{opened_as}

-- an opening that gives a table, or a refusal
module _ (f : Files) (most : ℕ) (n : TableName) where
  pub accepted_opens : (o : Opened) → opened_of (file_of f n) (index_of f n) most ≡ Ok o → Ok o ≡ opened_as f most n
  unfolding opened_as unless_found opened_of
  accepted_opens o e =
      let w = passed (table_refusal (file_of f n) (index_of f n) most) (opened (file_of f n) (index_of f n)) o e in
      rw (eq-eqb (table_refusal (file_of f n) (index_of f n) most).number 0 w.0, w.1) refl

  pub refused_opens : (q : Refusal) → opened_of (file_of f n) (index_of f n) most ≡ Err q → Err (finding n q) ≡ opened_as f most n
  unfolding opened_as unless_found opened_of
  refused_opens q e =
      let w = (refused-number (table_refusal (file_of f n) (index_of f n) most) q (opened (file_of f n) (index_of f n))).0 e in
      rw (w.0, ne_eqb q.number 0 w.1) refl
