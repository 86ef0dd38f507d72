-- `point_at`: a coordinate is fit where both its parts are.
use mathlib.Core.Path.{◌≡◌, ap, ◌∙◌}
use Prim.Native.Nat.{ℕ, ◌+◌}
use Rattle.bounds.specs.Bounds.{part_bytes, fit_at, point_by}
use Rattle.bounds.proofs.ReadLaws.{point_fit, point_unfit_x, point_unfit_y}
use Rattle.bounds.proofs.point_at.Goals as goal

pub returns-in_err-x : goal.returns-in_err-x
returns-in_err-x g c =
    ap (point_by g.F.Coordinate.value) c.from_residual.ensures
    ∙ point_unfit_x g.F.Coordinate.format c.args.order c.args.bytes.now c.args.place c.in_err-x.ensures

pub returns-in_err-y : goal.returns-in_err-y
returns-in_err-y g c =
    let w : c.BYTES.result ≡ part_bytes g.F.Coordinate.format = c.BYTES.ensures ∙ g.met.F.Coordinate.wide in
    ap (point_by g.F.Coordinate.value) c.from_residual-in_err-y.ensures
    ∙ point_unfit_y g.F.Coordinate.format c.args.order c.args.bytes.now c.args.place
    (c.in_err-y.ensures ∙ ap (λ (n : ℕ). fit_at g.F.Coordinate.format c.args.order c.args.bytes.now (c.args.place + n)) w)

pub returns : goal.returns
returns g c =
    let w : c.BYTES.result ≡ part_bytes g.F.Coordinate.format = c.BYTES.ensures ∙ g.met.F.Coordinate.wide in
    point_fit g.F.Coordinate.format c.args.order c.args.bytes.now c.args.place _ _ c.in_ok-x.ensures
    (c.in_ok-y.ensures ∙ ap (λ (n : ℕ). fit_at g.F.Coordinate.format c.args.order c.args.bytes.now (c.args.place + n)) w)
