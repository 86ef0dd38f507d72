-- `tile::paths::write_sides` meets its contract. The loop's invariant: the sides of the moves made are written, the rest of the output is as it was.
use Rattle.std.proofs.Common.{ℕ, arith}
use Rattle.laws.proofs.BufferLaws.{front_next}
use Rattle.laws.proofs.OrbitLaws.{iterate_next}
use Rattle.laws.specs.Orbit.{iterate}
use Rattle.side.proofs.SideLaws.{after-at_most}
use Rattle.side.specs.Successor.{after}
use Rattle.tile.proofs.SizeLaws.{sides_within}
use Rattle.tile.proofs.SuccessorLaws.{or_none}
use Rattle.tile.proofs.paths.write_sides.Goals as goal

pub overflow_cast-out : goal.overflow_cast-out
overflow_cast-out c = omega (arith, c.loop-j.invariant.1, sides_within _ _ c.tile.view_is c.tile.invariant)

pub loop-j-preserved : goal.loop-j-preserved
loop-j-preserved c =
    let t = c.args.tile.now.edg in
    let u = or_none t c.loop-j.s _ _ c.next_side.ensures c.unwrap_or-s.ensures in (
      iterate_next (after t) c.loop-j.j c.args.start c.loop-j.s c.unwrap_or-s.result c.loop-j.invariant.0 u,
      rw u (after-at_most t c.loop-j.s),
      front_next (λ (i : ℕ). iterate (after t) i c.args.start) c.loop-j.j c.loop-j.s c.loop-j.out c.args.out.now
          c.loop-j.invariant.2 c.loop-j.invariant.0 (omega (arith, c.requires.k_in_bounds)),
    )
