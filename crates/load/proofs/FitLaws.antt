-- The tests between opening and rows.
use mathlib.Core.Path.{◌≡◌, refl, sym, ap, ◌∙◌}
use mathlib.Core.Bool.{Bool, false}
use mathlib.Core.List.{List, [], ◌∷◌}
use Prim.Native.Nat.{ℕ, zero, suc, ◌+◌, ◌≤◌, ◌<◌}
use native.Mathlib.Numerals.{add-one}
use native.Mathlib.Omega.{arith}
use borrow.Author.Tests.{ne_eqb}
use lib.Dec.{eqb}
use lib.ListN.{get_or}
use Rattle.std.proofs.Common.{Some, None, Ok, Err}
use Rattle.laws.specs.Lowest.{lowest, found}
use Rattle.refusal.specs.Order.{refusal}
use Rattle.header.specs.declared.Layout.{Layout}
use Rattle.limits.specs.Limits.{most_columns}
use Rattle.opening.specs.declared.Opened.{Opened}
use Rattle.table.specs.Rows.{no_such_column}
use Rattle.table.proofs.RowLaws.{column_there}
use Rattle.load.specs.declared.TableName.{TableName}
use Rattle.load.specs.declared.TableName.TheVariants.{Edg, Fac, Rng, Cnd}
use Rattle.load.specs.declared.OfTables.{OfTables}
use Rattle.load.specs.declared.Finding.{Finding}
use Rattle.load.specs.Sources.{Files, file_of, in_tables, name_at, table_at, fitting}
use Rattle.load.specs.Load.{finding, first_found, first_finding, found_at, column_wrong, column_finding, too_short, room_finding, unless_found, reported}
use Rattle.load.specs.Serving.Named.{column_by, columns_by, place_finding}

-- a column that the layout has is within the limit
pub in_layout : (l : Layout) (c : ℕ) (b : Bool) → b ≡ no_such_column l c → b ≡ false → (0 < c) × (c ≤ most_columns)
in_layout l c b e n = column_there l c (sym e ∙ n)

-- a column that is found
pub found_some : (c : ℕ) → 0 < c → Some c ≡ found c
found_some zero h = absurd (omega (arith, h))
found_some (suc c) h = refl

-- no column has the number 0
pub none_fits_zero : (l : Layout) (k x : ℕ) → x ≡ 0 → None ≡ found (fitting l k x)
unfolding fitting
none_fits_zero l k x e = rw e refl

some : (c : ℕ) → eqb (suc c) 0 ≡ false
some c = ne_eqb (suc c) 0 (λ e. omega (arith, e))

-- what a place gives of its column
pub placed_some : (k x c : ℕ) → found x ≡ Some c → Ok c ≡ unless_found (place_finding k x) x
unfolding unless_found
placed_some k zero c e = absurd cc
placed_some k (suc x) c e = let q : suc x ≡ c = cc in rw (some x) (ap Ok (sym q))

pub placed_none : (k x : ℕ) → found x ≡ None → Err (column_wrong k) ≡ unless_found (place_finding k x) x
unfolding unless_found
placed_none k zero e = refl
placed_none k (suc x) e = absurd cc

-- the lowest place without its column is the first that finds something
first_placed : (a b c d e f g h i j : ℕ) → column_finding (a ∷ b ∷ c ∷ d ∷ e ∷ f ∷ g ∷ h ∷ i ∷ j ∷ []) ≡ first_finding
    (place_finding 1 a ∷ place_finding 2 b ∷ place_finding 3 c ∷ place_finding 4 d ∷ place_finding 5 e ∷ place_finding 6 f
    ∷ place_finding 7 g ∷ place_finding 8 h ∷ place_finding 9 i ∷ place_finding 10 j ∷ [])
unfolding column_finding first_found
first_placed zero b c d e f g h i j = refl
first_placed (suc a) zero c d e f g h i j = rw (some a) refl
first_placed (suc a) (suc b) zero d e f g h i j = rw (some a, some b) refl
first_placed (suc a) (suc b) (suc c) zero e f g h i j = rw (some a, some b, some c) refl
first_placed (suc a) (suc b) (suc c) (suc d) zero f g h i j = rw (some a, some b, some c, some d) refl
first_placed (suc a) (suc b) (suc c) (suc d) (suc e) zero g h i j = rw (some a, some b, some c, some d, some e) refl
first_placed (suc a) (suc b) (suc c) (suc d) (suc e) (suc f) zero h i j = rw (some a, some b, some c, some d, some e, some f) refl
first_placed (suc a) (suc b) (suc c) (suc d) (suc e) (suc f) (suc g) zero i j = rw (some a, some b, some c, some d, some e, some f, some g) refl
first_placed (suc a) (suc b) (suc c) (suc d) (suc e) (suc f) (suc g) (suc h) zero j = rw (some a, some b, some c, some d, some e, some f, some g, some h) refl
first_placed (suc a) (suc b) (suc c) (suc d) (suc e) (suc f) (suc g) (suc h) (suc i) zero = rw (some a, some b, some c, some d, some e, some f, some g, some h, some i) refl
first_placed (suc a) (suc b) (suc c) (suc d) (suc e) (suc f) (suc g) (suc h) (suc i) (suc j) = rw (some a, some b, some c, some d, some e, some f, some g, some h, some i, some j) refl

module _ (f : Files) (o : OfTables Opened) where
  -- the column of place k of table n
  abbrev at : TableName → ℕ → Finding
  at n k = place_finding k (column_by (file_of f n) (in_tables o n) k (name_at k))

  pub columns_first : {A : Type 0} (y : A) → unless_found (column_finding (columns_by f o)) y ≡ unless_found (first_finding
      (at Edg 1 ∷ at Edg 2 ∷ at Edg 3 ∷ at Edg 4 ∷ at Edg 5 ∷ at Edg 6 ∷ at Fac 7 ∷ at Rng 8 ∷ at Rng 9 ∷ at Cnd 10 ∷ [])) y
  unfolding columns_by
  columns_first y = ap (λ (q : Finding). unless_found q y) (first_placed _ _ _ _ _ _ _ _ _ _)

-- 14 at the lowest place that is too short
module _ (lengths rows : List ℕ) where
  pub room_told : (i : ℕ) → lowest (too_short lengths rows) 10 ≡ i + 1
      → Err (finding (table_at (i + 1)) (refusal 14 (get_or rows i 0))) ≡ reported (room_finding lengths rows)
  unfolding room_finding unless_found
  room_told i e = rw (e, add-one i) refl

  pub room_enough : lowest (too_short lengths rows) 10 ≡ 0 → Ok tt ≡ reported (room_finding lengths rows)
  unfolding room_finding unless_found
  room_enough e = rw e refl

-- what is found at the lowest place that fails
pub found_there : (g : ℕ → Finding) (k : ℕ) → (k ≡ 0 → ⊥) → found_at g k ≡ g k
found_there g zero n = absurd (n refl)
found_there g (suc k) n = refl
