-- THE THREE DEMANDS. Each is a record of statements over the definitions that the public operations' contracts are equations with; what a
-- word means stands in the `specs/` of the crate that it is taken from. `proofs/TheDemands.antt` proves `the_demands : Demands`.
use Rattle.demands.specs.Demand1.{Demand1}
use Rattle.demands.specs.Demand2.{Demand2}
use Rattle.demands.specs.Demand3.{Demand3}

pub record Demands : Type 0 where
  -- any bytes: an answer, or the refusal that the table names
  pub any_bytes : Demand1
  -- headers, rows, indexes, triplet ids and tiles mean what the papers say
  pub meanings : Demand2
  -- in an accepted tile every walk comes back, and the steps add up
  pub walks : Demand3
