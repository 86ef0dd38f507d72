-- THE COLUMN OF A NAME, "letters of either case", in an accepted header: the one column that has it, or 0 where none does; 0 too where
-- the header is refused.
use mathlib.Core.Path.{◌≡◌}
use mathlib.Core.Logic.{◌⊎◌, inl, inr, ⊎_elim}
use mathlib.Core.Bool.{true}
use mathlib.Core.List.{List}
use Prim.Native.Nat.{ℕ}
use lib.ListN.{length}
use Rattle.laws.specs.Lowest.{In}
use Rattle.grammar.specs.Words.{Reading}
use Rattle.header.specs.Names.{same_text}
use Rattle.header.specs.Judge.{head_of}
use Rattle.header.specs.Steps.{column_of}
use Rattle.header.specs.Words.{column_at, AcceptedHeader}
use Rattle.header.specs.Refusals.{RefusedWith}
use Rattle.header.proofs.ColumnsJudged.{column_named_lem, one_named}
use Rattle.header.proofs.RefusedExactly.{refused_test}
use Rattle.header.proofs.StepsInOrder.{accepted_test, head_reads, accepted_count}

-- k has the name
abbrev pub Named : Reading → List ℕ → ℕ → Type 0
Named h name k = In (length h.columns) k × (same_text (column_at h k).name name ≡ true)

module _ (file : List ℕ) (h : Reading) (a : AcceptedHeader file h) (name : List ℕ) where
  -- the column found has the name; where 0 is found none has
  pub column_of-name : ((column_of file name ≡ 0) × ((k : ℕ) → Named h name k → ⊥)) ⊎ Named h name (column_of file name)
  unfolding column_of
  column_of-name =
      rw (accepted_test file h a, accepted_count file h a)
      (⊎_elim (λ w. inl (w.0, λ k i. w.1 k i.0 i.1)) inr (column_named_lem (head_of file) h (head_reads file h a) name))

  -- and no other has it
  pub column_of-name_only : (k : ℕ) → Named h name k → column_of file name ≡ k
  column_of-name_only k i =
      ⊎_elim (λ w. absurd (w.1 k i))
      (λ w.
      one_named (head_of file) h (head_reads file h a) (λ j b i p l. a.rules.names_differ i j b p l) name
      (column_of file name) k w.0 i.0 w.1 i.1)
      column_of-name

pub refused_no_column : (file name : List ℕ) (n p : ℕ) → RefusedWith file n p → column_of file name ≡ 0
unfolding column_of
refused_no_column file name n p w = rw (refused_test file n p w)
