-- One more column laid out.
use mathlib.Core.Path.{◌≡◌, ap, ◌∙◌}
use mathlib.Core.Bool.{Bool, true, cond}
use mathlib.Core.List.{List, ◌++◌}
use Prim.Native.Nat.{ℕ, suc, ◌+◌, ◌-◌, ◌<◌}
use native.Mathlib.Numerals.{add-one}
use lib.ListN.{set, replicate}
use Rattle.laws.proofs.BufferLaws.{one_to_next}
use Rattle.limits.specs.Limits.{most_columns}
use Rattle.header.specs.declared.Definition.{Definition}
use Rattle.header.specs.declared.ColumnLayout.{ColumnLayout}
use Rattle.header.specs.Places.{definition, place_after}
use Rattle.header.specs.Layouts.{varies, field_size, some_varies, bytes_of_all, column_layout, blank_column, fixed_bytes, laid_out}
use Rattle.header.specs.Serving.Stages.{laid_after}
use Rattle.header.proofs.PlaceLaws.{is_column}

-- `at` is the place after k definitions, d the definition read there, l its layout after the fixed bytes of the k columns
module _ (s : List ℕ) (k at : ℕ) (d : Definition) (e : at ≡ place_after s k) (q : d ≡ definition s at) where
  pub varies_next : (earlier b : Bool) → earlier ≡ some_varies s k → b ≡ cond earlier true (varies d) → b ≡ some_varies s (k + 1)
  varies_next earlier b h t = rw (add-one k, ← h, ← is_column s k at d e q) t

  module _ (bytes : ℕ) (l : ColumnLayout) (h : bytes ≡ bytes_of_all s k) (t : l ≡ laid_after d bytes) where
    is_layout : l ≡ column_layout s (suc k)
    unfolding laid_after column_layout
    is_layout = t ∙ ap (λ (x : ℕ). laid_after d x) h ∙ ap (λ (x : Definition). laid_after x (bytes_of_all s k)) (is_column s k at d e q)

    pub bytes_next : (size : ℕ) → size ≡ fixed_bytes l → bytes + size ≡ bytes_of_all s (k + 1)
    unfolding laid_after field_size
    bytes_next size p = rw (add-one k, ← h, ← is_column s k at d e q, p, t)

    pub cols_next : (cols : List ColumnLayout) → k < most_columns → cols ≡ laid_out s k ++ replicate (most_columns - k) blank_column
        → set cols k l ≡ laid_out s (k + 1) ++ replicate (most_columns - (k + 1)) blank_column
    cols_next cols a c = one_to_next (column_layout s) cols most_columns k blank_column l a c is_layout
