-- `find_bounds`: no coordinate, a first that is not finite, or the first and the further ones.
use mathlib.Core.Path.{◌≡◌, sym, ap, ap₂, ◌∙◌}
use Prim.Native.Nat.{ℕ, ◌*◌, ◌≤◌, ◌<◌}
use native.Mathlib.Omega.{arith}
use native.Mathlib.Nat.{mul-le-mul_right}
use lib.Ieee.{Format, binary32, binary64}
use Rattle.std.specs.Prelude.{Err}
use Rattle.bounds.specs.Bounds.{part_bytes, part_count, Coordinates, strided, bounds_of}
use Rattle.bounds.proofs.ReadLaws.{bounds_none, count_some, reached_first, bounds_stop_first}
use Rattle.bounds.proofs.find_bounds.Given.{Over}
use Rattle.bounds.proofs.find_bounds.Goals as goal
use Rattle.bounds.proofs.find_bounds.Goals.{After-BYTES}

-- the coordinates, with the stride as the code has it, and that it is theirs
abbrev whole : (g : Over) → After-BYTES g → Coordinates
whole g c = strided g.F.Coordinate.format (c.count.result * c.BYTES.result) c.args.order c.args.bytes.now

module _ (g : Over) (c : After-BYTES g) where
  wide : c.BYTES.result ≡ part_bytes g.F.Coordinate.format
  wide = c.BYTES.ensures ∙ g.met.F.Coordinate.wide

  same : bounds_of (whole g c) ≡ bounds_of (strided g.F.Coordinate.format (part_count c.args.parts * part_bytes g.F.Coordinate.format) c.args.order c.args.bytes.now)
  same =
      ap (λ (n : ℕ). bounds_of (strided g.F.Coordinate.format n c.args.order c.args.bytes.now)) (ap₂ (λ (n m : ℕ). n * m) c.count.ensures.0 wide)

  some : (f : Format) → 0 < part_bytes f
  some binary32 = omega arith
  some binary64 = omega arith

  two : 2 * part_bytes g.F.Coordinate.format ≤ c.count.result * c.BYTES.result
  two = rw wide (mul-le-mul_right (part_bytes g.F.Coordinate.format) c.count.ensures.1)

  stride_pos : 0 < c.count.result * c.BYTES.result
  stride_pos = omega (arith, two, some g.F.Coordinate.format)

pub returns-then-bytes-stride : goal.returns-then-bytes-stride
returns-then-bytes-stride g c =
    let k = (goal.at.returns-then-bytes-stride g c).After-BYTES in
    ap Err c.at.ensures ∙ bounds_none (whole g k) c.if-bytes-stride.true ∙ same g k

pub returns-in_default : goal.returns-in_default
returns-in_default g c =
    let k = (goal.at.returns-in_default g c).After-BYTES in
    ap Err c.at-in_default.ensures
    ∙ bounds_stop_first (whole g k) (sym c.in_default.ensures) (count_some (whole g k) (stride_pos g k) c.if-bytes-stride.false)
    ∙ same g k

pub further-requires : goal.further-requires
further-requires g c =
    let k = (goal.at.further-requires g c).After-BYTES in (
      two g k,
      count_some (whole g k) (stride_pos g k) c.if-bytes-stride.false,
      rw c.around.ensures (reached_first (whole g k) _ _ (sym c.in-Some.ensures)),
    )

pub returns : goal.returns
returns g c = c.further.ensures ∙ same g (goal.at.returns g c).After-BYTES
