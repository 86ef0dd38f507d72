use Rattle.header.proofs.GatherLaws.{unsound_next}
use Rattle.header.proofs.JudgeLaws.{columns-wrong, columns_many}
use Rattle.header.proofs.PlaceLaws.{at_next}
use Rattle.header.specs.Serving.Stages.{unsound}
use Rattle.limits.specs.Limits.{most_columns}
use Rattle.laws.proofs.LowestLaws.{lowest-zero, none_next, lowest_next, lowest_nothing}
use Rattle.refusal.specs.declared.Refusal.{Refusal}
use native.Mathlib.Omega.{arith}
use Prim.Native.Nat.{◌+◌}
use mathlib.Core.Path.{◌≡◌, sym, ap, ◌∙◌}
use Rattle.header.proofs.judge.judge_past.Goals as goal

pub loop-k-init : goal.loop-k-init
loop-k-init c =
    (c.requires.after_value.0, lowest-zero (unsound c.args.head.now) most_columns c.requires.after_value.1)

pub loop-k-preserved : goal.loop-k-preserved
loop-k-preserved c = (
  at_next c.args.head.now c.loop-k.k c.loop-k.at c.definition_at-d.result c.loop-k.invariant.0
      c.definition_at-d.ensures,
  none_next (unsound c.args.head.now) c.loop-k.k c.loop-k.invariant.1 (unsound_next c.args.head.now
      c.loop-k.k c.loop-k.at c.definition_at-d.result c.loop-k.invariant.0
      c.definition_at-d.ensures _ (sym c.if-not-is_sound.false ∙ c.is_sound.ensures)),
)

pub returns-then-not-is_sound : goal.returns-then-not-is_sound
returns-then-not-is_sound c = record {
  value = c.at.ensures ∙ columns-wrong c.args.head.now c.args.n (c.loop-k.k + 1) (sym (lowest_next (unsound
      c.args.head.now) c.args.n c.loop-k.k (omega arith) c.loop-k.invariant.1
      (unsound_next c.args.head.now c.loop-k.k c.loop-k.at c.definition_at-d.result
      c.loop-k.invariant.0 c.definition_at-d.ensures _
      (sym c.if-not-is_sound.true ∙ c.is_sound.ensures)))) (λ z. omega (arith, z));
  number_nonzero = omega (arith, ap (λ (r : Refusal). r.number) c.at.ensures);
}

pub returns : goal.returns
returns c =
    let q : c.loop-k.k ≡ c.args.n = omega arith in record {
      value = c.at-2.ensures ∙ columns_many c.args.head.now c.args.n (lowest_nothing (unsound c.args.head.now)
          c.args.n (rw q at c.loop-k.invariant.1)) c.requires.head_len_bound.1;
      number_nonzero = omega (arith, ap (λ (r : Refusal). r.number) c.at-2.ensures);
    }
