-- What the tests before a row's fields say: that the row lies inside the file, that a column or row is there.
use mathlib.Core.Path.{◌≡◌, refl, sym, ◌∙◌}
use mathlib.Core.Logic.{by_cases}
use mathlib.Core.Bool.{Bool, true, false, true≢false}
use mathlib.Core.List.{List}
use Prim.Native.Nat.{ℕ, ◌≤◌, ◌<◌}
use native.Mathlib.Omega.{arith}
use native.Mathlib.Decide.{ℕ_discrete}
use lib.Dec.{eqb, ltb}
use lib.ListN.{length}
use borrow.Author.Tests.{eqb-false, ltb-false}
use Rattle.laws.proofs.LowestLaws.{bool_cases}
use Rattle.laws.proofs.TestLaws.{both_false, clash}
use Rattle.refusal.specs.declared.Refusal.{Refusal}
use Rattle.refusal.specs.Order.{answered, fine, first}
use Rattle.refusal.proofs.OrderLaws.{first-refuses}
use Rattle.header.specs.declared.Layout.{Layout}
use Rattle.opening.specs.declared.Table.{Table}
use Rattle.limits.specs.Limits.{most_columns, most_rows}
use Rattle.std.specs.Prelude.{Ok, Err}
use Rattle.table.specs.declared.Unreached.TheVariants.{Short, BadTriplet}
use Rattle.table.specs.Rows.{Reach, used_up, rows_of, columns_of, no_such_row, no_such, no_such_column, outside, place_judged}

-- a row that is not outside the file
pub inside : (s : List ℕ) (start end : ℕ) → outside s start end ≡ false → (start ≤ end) × (end ≤ length s)
inside s start end e =
    let b = both_false (ltb (length s) end) (ltb end start) e in
    (ltb-false end start b.1, ltb-false (length s) end b.0)

-- one of 1..n
pub such : (n k : ℕ) → no_such n k ≡ false → (0 < k) × (k ≤ n)
such n k e =
    let b = both_false (eqb k 0) (ltb n k) e in
    let z = eqb-false k 0 b.0 in
    (omega arith, ltb-false n k b.1)

-- a column that is there has a place in the layout
pub column_there : (l : Layout) (k : ℕ) → no_such_column l k ≡ false → (0 < k) × (k ≤ most_columns)
column_there l k e = let h = such (columns_of l) k e in (h.0, omega (arith, h.1))

-- row i is there
pub row_there : (t : Table) (i : ℕ) (b : Bool) → b ≡ no_such_row t i → b ≡ false → (no_such_row t i ≡ false) × (0 < i) × (i ≤ most_rows)
row_there t i b e f =
    let k = such (rows_of t) i (sym e ∙ f) in
    (sym e ∙ f, k.0, omega (arith, k.1))

-- fields can be looked for
pub place_fine : (s : List ℕ) (missing : Bool) (start end i : ℕ) (q : Refusal) → q ≡ place_judged s missing start end i → q.number ≡ 0
    → (outside s start end ≡ false) × (missing ≡ false)
place_fine s missing start end i q u z =
    let e : (place_judged s missing start end i).number ≡ 0 = rw (← u) z in
    bool_cases (outside s start end)
    (λ t. clash (ten (rw t at e)))
    (λ t. bool_cases missing (λ u. clash (nine (rw (t, u) at e))) (λ u. (t, u)))
  where
    ten : ◌≡◌ {A = ℕ} 10 0 → ◌≡◌ {A = ℕ} 0 1
    ten e = omega arith

    nine : ◌≡◌ {A = ℕ} 9 0 → ◌≡◌ {A = ℕ} 0 1
    nine e = omega arith

-- nor where there is no id column
pub missing_refused : (s : List ℕ) (start end i : ℕ) → (place_judged s true start end i).number ≡ 0 → ⊥
missing_refused s start end i e = true≢false (place_fine s true start end i _ refl e).1

-- two tests after one that passes are the same
pub first_same : (a b c : Refusal) → (a.number ≡ 0 → b ≡ c) → first a b ≡ first a c
first_same a b c h =
    by_cases (ℕ_discrete a.number 0)
    (λ z. rw (h z))
    (λ z. first-refuses a b z ∙ sym (first-refuses a c z))

-- a row that the walk does not come through, or that it does not use up, is refused whatever its id; and one that it uses up by its id
pub end_refused : (x : Reach) (end i : ℕ) (rest r : Refusal) → answered (used_up x end i fine) ≡ Err r → answered (used_up x end i rest) ≡ Err r
end_refused (Ok p) end i rest r e = bool_cases (eqb p end) (λ t. let w = rw t at e in clash (cc)) (λ t. rw t (rw t at e))
end_refused (Err Short) end i rest r e = e
end_refused (Err (BadTriplet q)) end i rest r e = e

pub end_passes : (x : Reach) (end i : ℕ) (rest : Refusal) → answered (used_up x end i fine) ≡ Ok tt → used_up x end i rest ≡ rest
end_passes (Ok p) end i rest e = bool_cases (eqb p end) (λ t. rw t) (λ t. let w = rw t at e in clash (cc))
end_passes (Err Short) end i rest e = clash (cc)
end_passes (Err (BadTriplet q)) end i rest e = clash (cc)
