-- `tile::paths::count_moves` meets its contract. The loop's invariant: what is left to do gives the whole count.
use Rattle.std.proofs.Common.{sym, ap, ◌∙◌, ℕ, Err, arith}
use Rattle.tile.specs.Columns.{sides}
use Rattle.tile.specs.Walk.{moves, moves_from}
use Rattle.tile.specs.Serving.Stages.{in_full}
use Rattle.tile.proofs.WalkLaws.{cannot_move, back_home, moves_on, stays_open}
use Rattle.tile.proofs.paths.count_moves.Goals as goal

pub loop-k-init : goal.loop-k-init
unfolding moves
loop-k-init c = ap (λ (m : ℕ). moves_from c.args.tile.now.edg c.args.start m c.args.start 0) (omega arith)

pub returns-in-Err : goal.returns-in-Err
returns-in-Err c =
    ap (in_full c.args.r) (cannot_move _ c.args.start (sides c.args.tile.now) c.loop-k.s c.loop-k.k _ c.loop-k.invariant _ _ (omega arith)
    (sym c.next_side.ensures ∙ c.in-Err.is) c.stuck_at.ensures)

pub returns-then-s-start : goal.returns-then-s-start
returns-then-s-start c =
    ap (in_full c.args.r) (back_home _ c.args.start (sides c.args.tile.now) c.loop-k.s c.loop-k.k _ c.loop-k.invariant c.in-Ok.u (omega arith)
    (sym c.next_side.ensures ∙ c.in-Ok.is) c.if-s-start.true)

pub loop-k-preserved : goal.loop-k-preserved
loop-k-preserved c =
    moves_on _ c.args.start (sides c.args.tile.now) c.loop-k.s c.loop-k.k _ c.loop-k.invariant c.in-Ok.u (omega arith)
    (sym c.next_side.ensures ∙ c.in-Ok.is) c.if-s-start.false

pub returns : goal.returns
returns c =
    ap Err c.at.ensures
    ∙ ap (in_full c.args.r) (stays_open _ c.args.start (sides c.args.tile.now) c.loop-k.s c.loop-k.k _ c.loop-k.invariant (omega arith))
