use Rattle.std.proofs.Common.{eq-eqb, ne_eqb}
use Rattle.load.specs.Serving.CellPlans.{origin_of, places_for}
use Rattle.load.proofs.cells.walk_row.Goals as goal

pub returns-then-rows-eq0 : goal.returns-then-rows-eq0
unfolding origin_of places_for
returns-then-rows-eq0 c =
    let t = eq-eqb _ _ c.if-rows-eq0.true in record {
      value = rw t;
      places_after = rw t c.walk.ensures.places_after;
    }

pub returns : goal.returns
unfolding origin_of places_for
returns c =
    let t = ne_eqb _ _ c.if-rows-eq0.false in record {
      value = rw t;
      places_after = rw t;
    }
