use Rattle.std.proofs.Common.{refl, sym, ap, ◌∙◌, eq-eqb, ne_eqb}
use Rattle.refusal.specs.Order.{answered}
use Rattle.opening.proofs.OpeningLaws.{open_head, open_rows, open_rest}
use Rattle.opening.proofs.judge_opening.Goals as goal

pub returns-then-lacks_head : goal.returns-then-lacks_head
returns-then-lacks_head c =
    rw (c.at.ensures, ← open_head c.args.layout.now c.args.index.now c.args.size c.args.most (sym c.lacks_head.ensures ∙ c.if-lacks_head.true)) refl

pub returns-then-min-count_rows : goal.returns-then-min-count_rows
returns-then-min-count_rows c =
    rw (
      c.at-then-min-count_rows.ensures,
      ← open_rows c.args.layout.now c.args.index.now c.args.size c.args.most (sym c.lacks_head.ensures ∙ c.if-lacks_head.false) c.count_rows.result
          c.count_rows.ensures (rw c.min.ensures at c.if-min-count_rows.true),
    ) refl

pub returns-then-layout-eq0 : goal.returns-then-layout-eq0
returns-then-layout-eq0 c =
    c.judge_index.ensures ∙ ap answered (open_rest c.args.layout.now c.args.index.now c.args.size c.args.most (sym c.lacks_head.ensures ∙ c.if-lacks_head.false)
    c.count_rows.result c.count_rows.ensures (rw c.min.ensures at c.if-min-count_rows.false) _ (rw (eq-eqb c.args.layout.now.width 0 c.if-layout-eq0.true) refl))

pub returns-else-layout-eq0 : goal.returns-else-layout-eq0
returns-else-layout-eq0 c =
    c.judge_fixed.ensures ∙ ap answered (open_rest c.args.layout.now c.args.index.now c.args.size c.args.most (sym c.lacks_head.ensures ∙ c.if-lacks_head.false)
    c.count_rows.result c.count_rows.ensures (rw c.min.ensures at c.if-min-count_rows.false) _ (rw (ne_eqb c.args.layout.now.width 0 c.if-layout-eq0.false) refl))
