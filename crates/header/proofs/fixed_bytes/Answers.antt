use Prim.Native.Nat.{◌≤◌, ◌*◌}
use native.Mathlib.Omega.{arith}
use Rattle.field.specs.Fields.{most_count}
use Rattle.header.specs.Serving.Stages.{sound_size}
use Rattle.header.proofs.CountLaws.{size_room}
use Rattle.header.proofs.fixed_bytes.Goals as goal
use Rattle.header.proofs.fixed_bytes.Goals.{After-width}

-- a count of sixteen bits of elements
size_fits : (c : After-width) → c.args.column.count * c.width.result ≤ sound_size
size_fits c =
    let few : c.args.column.count ≤ most_count = omega arith in
    size_room c.args.column.count c.width.result few c.width.ensures.upper_bound

pub overflow_mul-result : goal.overflow_mul-result
overflow_mul-result c = omega (arith, size_fits c)

pub returns : goal.returns
returns c = record {
  value = simp (← c.width.ensures.value);
  upper_bound = size_fits c;
}
