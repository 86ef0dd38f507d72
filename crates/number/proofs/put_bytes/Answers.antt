use mathlib.Core.Path.{sym, ◌∙◌}
use native.Mathlib.Omega.{arith}
use Rattle.number.specs.Bytes.{bytes_of}
use Rattle.number.proofs.NumberLaws.{written_outside, written_as}
use Rattle.number.proofs.put_bytes.Goals as goal
use Rattle.number.proofs.put_bytes.Goals.{in-Least, in-Most}

pub returns-then-saturating_sub : goal.returns-then-saturating_sub
returns-then-saturating_sub g c v least most =
    sym (written_outside c.args.order c.args.s.now c.args.at g.row.N v (omega (arith, c.saturating_sub.ensures, c.if-saturating_sub.true)))

pub returns : goal.returns
unfolding bytes_of
returns g c v least most =
    written_as c.args.order c.args.s.now c.args.at g.row.N v
    (c.copy_from_slice.ensures.after ∙ elim c.match-order.branch [
      | in-Least w ↦ w.bytes-is ∙ rw w.in-Least.is least
      | in-Most w ↦ w.bytes-is ∙ rw w.in-Most.is most
    ])
    (omega (arith, c.saturating_sub.ensures, c.if-saturating_sub.false, c.requires))
