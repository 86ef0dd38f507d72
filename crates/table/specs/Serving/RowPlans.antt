-- A row judged by plain numbers, which are taken from the layout once for all rows. That it is the same judgement, and that the places are
-- those of its columns, is proved in PlanLaws.
use Rattle.std.specs.Prelude.{cond, List, ℕ, pred, min, ◌+◌, eqb, get_or, Option, Some, None, true, false}
use Rattle.refusal.specs.declared.Refusal.{Refusal}
use Rattle.refusal.specs.Order.{first}
use Rattle.number.specs.declared.Order.{Order}
use Rattle.table.specs.declared.rows.Rows.{Rows}
use Rattle.table.specs.Rows.{no_such, place_of, id_judged, used_up, place_judged}
use Rattle.table.specs.Plans.{plan_reach, places_left}

-- ---- a row of one width

-- row i from start to end, whose id starts `offset` bytes on, if there is one
abbrev pub fixed_row : Order → List ℕ → Option ℕ → ℕ → ℕ → ℕ → Refusal
fixed_row o s None start end i = place_judged s true start end i
fixed_row o s (Some offset) start end i = first (place_judged s false start end i) (id_judged o s (min (start + offset) end) i)

-- ---- a row that must be walked

-- its fields
unfoldable pub planned_fields : Order → List ℕ → List ℕ → ℕ → ℕ → ℕ → ℕ → ℕ → Refusal
planned_fields o s plan n id start end i =
    used_up (plan_reach o s plan start end n) end i (id_judged o s (place_of (plan_reach o s plan start end (pred id))) i)

-- row i from start to end, whose n columns have these codes, and the places that its walk leaves
unfoldable pub planned_row : Order → List ℕ → List ℕ → ℕ → ℕ → ℕ → ℕ → ℕ → Refusal
planned_row o s plan n id start end i = first (place_judged s (no_such n id) start end i) (planned_fields o s plan n id start end i)

unfoldable pub planned_places : Order → List ℕ → List ℕ → ℕ → ℕ → ℕ → ℕ → ℕ → List ℕ → List ℕ
planned_places o s plan n id start end i old =
    cond (eqb (place_judged s (no_such n id) start end i).number 0) (places_left (plan_reach o s plan start end) n old) old

-- ---- a row of either kind: its judgement and the places that it leaves; and where a column starts by them, or by its offset

unfoldable pub judged_by : Rows → List ℕ → ℕ → ℕ → ℕ → Refusal
judged_by r s start end i =
    cond (eqb r.width 0) (planned_row r.order s r.plan r.columns r.id start end i) (fixed_row r.order s r.offset start end i)

unfoldable pub places_by : Rows → List ℕ → ℕ → ℕ → ℕ → List ℕ → List ℕ
places_by r s start end i old = cond (eqb r.width 0) (planned_places r.order s r.plan r.columns r.id start end i old) old

unfoldable pub place_by : List ℕ → ℕ → ℕ → ℕ → ℕ → ℕ → ℕ
place_by places k width offset start end = cond (eqb width 0) (get_or places (pred k) 0) (min (start + offset) end)
