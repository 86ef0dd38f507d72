use Rattle.header.proofs.GatherLaws.{unsound_next, spans_next, keys_next, gathered_wrong, gathered_all}
use Rattle.header.proofs.LayoutLaws.{varies_next, bytes_next, cols_next}
use Rattle.header.proofs.PlaceLaws.{name_near, at_first, at_next}
use Rattle.header.specs.Serving.Stages.{unsound}
use Rattle.header.specs.declared.ColumnLayout.{ColumnLayout}
use Rattle.limits.specs.Limits.{most_columns}
use Rattle.laws.proofs.LowestLaws.{none_start, none_next}
use lib.ListN.{replicate}
use native.Mathlib.Omega.{arith}
use Prim.Native.Nat.{◌<◌}
use mathlib.Core.Path.{refl, sym, ap, ◌∙◌}
use Rattle.header.proofs.layouts.gather.Goals as goal
use Rattle.header.proofs.layouts.gather.Goals.{After-definition_at-d, then-varying, else-varying}

pub loop-k-init : goal.loop-k-init
loop-k-init c = (
  at_first c.args.head.now _ c.first_definition-first.ensures,
  refl,
  omega arith,
  refl,
  ap (λ (x : ColumnLayout). replicate most_columns x) c.blank_column-blank.ensures,
  refl,
  refl,
  c.first_definition-first.ensures,
  none_start (unsound c.args.head.now),
)

-- a name that lies within the text has places that fit two bytes
places_fit : (c : After-definition_at-d) → (c.definition_at-d.result.name.start < 65536) × (c.definition_at-d.result.name.end < 65536)
places_fit c =
    let near = name_near c.args.head.now c.loop-k.k c.loop-k.at c.definition_at-d.result c.loop-k.invariant.0 c.definition_at-d.ensures in
    (omega (arith, c.requires, near), omega (arith, c.requires, near))

pub lay_column-column-requires : goal.lay_column-column-requires
lay_column-column-requires c = sym c.is_sound.ensures ∙ c.if-not-is_sound.false

pub overflow_cast-names : goal.overflow_cast-names
overflow_cast-names c = omega (arith, places_fit (goal.at.overflow_cast-names c).After-definition_at-d)

pub overflow_cast-names-in-loop-k : goal.overflow_cast-names-in-loop-k
overflow_cast-names-in-loop-k c = omega (arith, places_fit (goal.at.overflow_cast-names-in-loop-k c).After-definition_at-d)

pub overflow_add-bytes : goal.overflow_add-bytes
overflow_add-bytes c =
    omega (arith, c.requires, c.fixed_bytes.ensures.upper_bound)

pub loop-k-preserved : goal.loop-k-preserved
loop-k-preserved c = (
  at_next c.args.head.now c.loop-k.k c.loop-k.at c.definition_at-d.result c.loop-k.invariant.0 c.definition_at-d.ensures,
  bytes_next c.args.head.now c.loop-k.k c.loop-k.at c.definition_at-d.result c.loop-k.invariant.0
      c.definition_at-d.ensures c.loop-k.bytes c.lay_column-column.result c.loop-k.invariant.1
      c.lay_column-column.ensures _ c.fixed_bytes.ensures.value,
  omega (arith, c.fixed_bytes.ensures.upper_bound),
  varies_next c.args.head.now c.loop-k.k c.loop-k.at c.definition_at-d.result c.loop-k.invariant.0
      c.definition_at-d.ensures c.loop-k.varying _ c.loop-k.invariant.3 (elim c.if-varying.branch [
        | then-varying w ↦ w.varying-is ∙ w.if-varying.true ∙ rw w.if-varying.true refl
        | else-varying w ↦ w.varying-is ∙ w.is_varying-varying.ensures ∙ rw w.if-varying.false refl
      ]),
  cols_next c.args.head.now c.loop-k.k c.loop-k.at c.definition_at-d.result c.loop-k.invariant.0
      c.definition_at-d.ensures c.loop-k.bytes c.lay_column-column.result c.loop-k.invariant.1
      c.lay_column-column.ensures c.loop-k.cols (omega (arith, c.requires)) c.loop-k.invariant.4,
  spans_next c.args.head.now c.loop-k.k c.loop-k.at c.definition_at-d.result c.loop-k.invariant.0
      c.definition_at-d.ensures (omega (arith, c.requires)) c.loop-k.names.spans c.loop-k.invariant.5,
  keys_next c.args.head.now c.loop-k.k c.loop-k.at c.definition_at-d.result c.loop-k.invariant.0
      c.definition_at-d.ensures (omega (arith, c.requires)) c.loop-k.keys c.loop-k.invariant.6,
  c.loop-k.invariant.7,
  none_next (unsound c.args.head.now) c.loop-k.k c.loop-k.invariant.8 (unsound_next c.args.head.now
      c.loop-k.k c.loop-k.at c.definition_at-d.result c.loop-k.invariant.0
      c.definition_at-d.ensures _ (sym c.if-not-is_sound.false ∙ c.is_sound.ensures)),
)

pub returns-then-not-is_sound : goal.returns-then-not-is_sound
returns-then-not-is_sound c =
    gathered_wrong c.args.head.now c.args.n c.loop-k.k (omega arith) c.loop-k.invariant.8
    (unsound_next c.args.head.now c.loop-k.k c.loop-k.at c.definition_at-d.result c.loop-k.invariant.0
    c.definition_at-d.ensures _ (sym c.if-not-is_sound.true ∙ c.is_sound.ensures)) c.at.result c.at.ensures

pub returns-then-varying-2 : goal.returns-then-varying-2
returns-then-varying-2 c =
    gathered_all c.args.head.now c.loop-k.k c.loop-k.names.spans c.loop-k.keys c.loop-k.cols c.loop-k.bytes _ _ c.loop-k.at c.loop-k.varying
    c.loop-k.invariant.5 c.loop-k.invariant.6 c.loop-k.invariant.4 c.loop-k.invariant.1 c.loop-k.invariant.3
    (rw c.if-varying-2.true) c.loop-k.invariant.7 c.loop-k.invariant.0 c.args.n (omega arith) c.loop-k.invariant.8

pub returns-else-varying-2 : goal.returns-else-varying-2
returns-else-varying-2 c =
    gathered_all c.args.head.now c.loop-k.k c.loop-k.names.spans c.loop-k.keys c.loop-k.cols c.loop-k.bytes _ _ c.loop-k.at c.loop-k.varying
    c.loop-k.invariant.5 c.loop-k.invariant.6 c.loop-k.invariant.4 c.loop-k.invariant.1 c.loop-k.invariant.3
    (rw c.if-varying-2.false) c.loop-k.invariant.7 c.loop-k.invariant.0 c.args.n (omega arith) c.loop-k.invariant.8
