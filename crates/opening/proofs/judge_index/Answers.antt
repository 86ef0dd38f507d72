use Rattle.std.proofs.Common.{rules, ◌≡◌, refl, sym, ◌∙◌, Err}
use Rattle.laws.specs.Lowest.{lowest}
use Rattle.opening.specs.Opening.{end_at, entry_wrong}
use Rattle.opening.proofs.OpeningLaws.{index_head, entries_there, entry_refused, entries_pass, index_last, index-fine}
use Rattle.opening.proofs.judge_index.Goals as goal

pub returns-then-head_wrong : goal.returns-then-head_wrong
returns-then-head_wrong c =
    rw (c.at.ensures, ← index_head c.args.layout.now c.args.index.now c.args.size (sym c.head_wrong.ensures ∙ c.if-head_wrong.true)) refl

pub returns-in_err-at_lowest : goal.returns-in_err-at_lowest
returns-in_err-at_lowest c =
    let x = c.in_err-at_lowest.field-0.0 in
    let r : c.from_residual.result ≡ Err x = search rules in
    r ∙ entry_refused c.args.layout.now c.args.index.now c.args.size (sym c.head_wrong.ensures ∙ c.if-head_wrong.false) c.read-n.result
    (lowest (entry_wrong c.args.layout.now c.args.index.now) c.read-n.result) c.read-n.ensures refl _ c.wrong_entry.ensures x
    (sym c.at_lowest.ensures ∙ c.in_err-at_lowest.was)

pub returns-then-entry_end-size : goal.returns-then-entry_end-size
unfolding end_at
returns-then-entry_end-size c =
    rw (
      c.at-then-entry_end-size.ensures,
      ← index_last c.args.layout.now c.args.index.now c.args.size
          (sym c.head_wrong.ensures ∙ c.if-head_wrong.false) c.read-n.result (lowest (entry_wrong c.args.layout.now c.args.index.now) c.read-n.result) c.read-n.ensures refl
          (entries_pass (lowest (entry_wrong c.args.layout.now c.args.index.now) c.read-n.result) _ c.wrong_entry.ensures (sym c.at_lowest.ensures ∙ c.in_ok-at_lowest.was))
          (λ e. c.if-entry_end-size.true (c.entry_end.ensures ∙ e)),
    ) refl

pub returns : goal.returns
unfolding end_at
returns c =
    rw (← index-fine c.args.layout.now c.args.index.now c.args.size
    (sym c.head_wrong.ensures ∙ c.if-head_wrong.false) c.read-n.result (lowest (entry_wrong c.args.layout.now c.args.index.now) c.read-n.result) c.read-n.ensures refl
    (entries_pass (lowest (entry_wrong c.args.layout.now c.args.index.now) c.read-n.result) _ c.wrong_entry.ensures (sym c.at_lowest.ensures ∙ c.in_ok-at_lowest.was))
    (sym c.entry_end.ensures ∙ c.if-entry_end-size.false)) refl

pub wrong_entry-requires : goal.wrong_entry-requires
wrong_entry-requires c =
    rw c.read-n.ensures (entries_there c.args.layout.now c.args.index.now (sym c.head_wrong.ensures ∙ c.if-head_wrong.false))
