-- Each test answers with the laws of what was gathered. Past the limit's test what is kept is of all columns, each sound (`few`); past the
-- names' test no two names are the same, and what is found of `id` is its column (`within`).
use Rattle.std.proofs.Common.{◌≡◌, ◌≤◌, ◌<◌, length, arith, ◌∙◌}
use native.Mathlib.Nat.{min-le_right}
use Rattle.laws.specs.Lowest.{lowest}
use Rattle.limits.specs.Limits.{most_columns}
use Rattle.refusal.specs.Order.{first_of, unless}
use Rattle.header.specs.Names.{names_of}
use Rattle.header.specs.Serving.Stages.{unsound, kept_of, name_tests, column_tests, accepted_of}
use Rattle.std.proofs.lemmas.Result.{err_from_is_err_and}
use Rattle.laws.proofs.FoundLaws.{not_some}
use Rattle.header.proofs.GatherLaws.{kept_names}
use Rattle.header.proofs.JudgeLaws.{gives_refusal, found_wrong, found_many, found_few, few_judged, kept_doubled, kept_missing, id_within, kept_wrong, kept_fine}
use Rattle.header.proofs.judge.judge_columns.Goals as goal
use Rattle.header.proofs.judge.judge_columns.Goals.{Else-n-gt-MOST_COLUMNS, In-Some}

pub gather-requires : goal.gather-requires
gather-requires c = (c.requires, rw c.columns_within.ensures (min-le_right c.args.n most_columns))

pub returns-in_err-kept : goal.returns-in_err-kept
returns-in_err-kept c =
    let p = err_from_is_err_and c.from_residual.result c.from_residual.ensures.1 in
    rw (p.1, p.2) (found_wrong c.args.head.now c.args.n c.columns_within.result c.columns_within.ensures c.gather.result c.gather.ensures _ c.in_err-kept.field-0.0 c.in_err-kept.was)

pub judge_past-requires : goal.judge_past-requires
judge_past-requires c = record {
  head_len_bound = (c.requires, c.if-n-gt-MOST_COLUMNS.true);
  after_value = found_many c.args.head.now c.args.n c.columns_within.result c.columns_within.ensures c.gather.result c.gather.ensures
      c.in_ok-kept.kept c.in_ok-kept.was c.if-n-gt-MOST_COLUMNS.true;
}

pub returns-then-n-gt-MOST_COLUMNS : goal.returns-then-n-gt-MOST_COLUMNS
returns-then-n-gt-MOST_COLUMNS c =
    gives_refusal c.judge_past.result _ _ c.judge_past.ensures.value (λ z. omega (arith, z, c.judge_past.ensures.number_nonzero))

few : (c : Else-n-gt-MOST_COLUMNS) → (c.in_ok-kept.kept ≡ kept_of c.args.head.now c.args.n) × (lowest (unsound c.args.head.now) c.args.n ≡ 0)
few c =
    found_few c.args.head.now c.args.n c.columns_within.result c.columns_within.ensures c.gather.result c.gather.ensures
    c.in_ok-kept.kept c.in_ok-kept.was c.if-n-gt-MOST_COLUMNS.false

names_kept : (c : Else-n-gt-MOST_COLUMNS) → c.in_ok-kept.kept.names ≡ names_of c.args.head.now c.args.n
names_kept c = kept_names c.args.head.now c.args.n c.in_ok-kept.kept (few c).0

-- so that the tests of the names are those that are left of the columns'
joined : (c : Else-n-gt-MOST_COLUMNS)
    → unless (first_of (name_tests c.args.head.now c.args.n)) (accepted_of c.args.order (length c.args.head.now) c.args.head.now c.args.n)
    ≡ unless (first_of (column_tests c.args.head.now c.args.n)) (accepted_of c.args.order (length c.args.head.now) c.args.head.now c.args.n)
joined c =
    few_judged c.args.head.now c.args.n c.columns_within.result c.columns_within.ensures c.gather.result c.gather.ensures
    c.in_ok-kept.kept c.in_ok-kept.was c.if-n-gt-MOST_COLUMNS.false (accepted_of c.args.order (length c.args.head.now) c.args.head.now c.args.n)

pub doubled-requires : goal.doubled-requires
doubled-requires c = (c.if-n-gt-MOST_COLUMNS.false, names_kept (goal.at.doubled-requires c).Else-n-gt-MOST_COLUMNS)

pub returns-in_err-at_lowest : goal.returns-in_err-at_lowest
returns-in_err-at_lowest c =
    let past = (goal.at.returns-in_err-at_lowest c).Else-n-gt-MOST_COLUMNS in
    let p = err_from_is_err_and c.from_residual-in_err-at_lowest.result c.from_residual-in_err-at_lowest.ensures.1 in
    rw (p.1, p.2) (kept_doubled c.args.head.now c.args.n c.in_ok-kept.kept (few past).0 (few past).1 c.at_lowest.result (rw (← c.doubled.ensures) c.at_lowest.ensures)
    _ c.in_err-at_lowest.field-0.0 c.in_err-at_lowest.was ∙ joined past)

pub returns-in_default : goal.returns-in_default
returns-in_default c =
    let past = (goal.at.returns-in_default c).Else-n-gt-MOST_COLUMNS in
    kept_missing c.args.head.now c.args.n c.in_ok-kept.kept (few past).0 (few past).1 c.at_lowest.result (rw (← c.doubled.ensures) c.at_lowest.ensures)
    c.in_ok-at_lowest.was c.column.result c.column.ensures _ c.at.result (not_some c.column.result c.in_default.not-Some) c.at.ensures ∙ joined past

within : (c : In-Some) → (0 < c.in-Some.id) × (c.in-Some.id ≤ c.args.n)
within c =
    let all = found_few c.args.head.now c.args.n c.columns_within.result c.columns_within.ensures c.gather.result c.gather.ensures
    c.in_ok-kept.kept c.in_ok-kept.was c.if-n-gt-MOST_COLUMNS.false in
    id_within c.args.head.now c.args.n c.in_ok-kept.kept all.0 all.1 c.at_lowest.result (rw (← c.doubled.ensures) c.at_lowest.ensures)
    c.in_ok-at_lowest.was c.column.result c.column.ensures c.in-Some.id c.in-Some.is

-- its place is one of those that are kept
pub offset_bounds-kept-id : goal.offset_bounds-kept-id
offset_bounds-kept-id c = omega (arith, within (goal.at.offset_bounds-kept-id c).In-Some, c.if-n-gt-MOST_COLUMNS.false)

pub bounds-kept-id : goal.bounds-kept-id
bounds-kept-id c = omega (arith, within (goal.at.bounds-kept-id c).In-Some, c.if-n-gt-MOST_COLUMNS.false)

pub id_wrong-requires : goal.id_wrong-requires
id_wrong-requires c = (c.if-n-gt-MOST_COLUMNS.false, (within (goal.at.id_wrong-requires c).In-Some).0, (within (goal.at.id_wrong-requires c).In-Some).1)

pub returns-then-id_wrong : goal.returns-then-id_wrong
returns-then-id_wrong c =
    let past = (goal.at.returns-then-id_wrong c).Else-n-gt-MOST_COLUMNS in
    kept_wrong c.args.head.now c.args.n c.in_ok-kept.kept (few past).0 (few past).1 c.at_lowest.result (rw (← c.doubled.ensures) c.at_lowest.ensures)
    c.in_ok-at_lowest.was c.column.result c.column.ensures c.in-Some.id c.in-Some.is c.id_wrong.result c.id_wrong.ensures
    _ c.at-then-id_wrong.result c.if-id_wrong.true c.at-then-id_wrong.ensures ∙ joined past

pub returns : goal.returns
returns c =
    let past = (goal.at.returns c).Else-n-gt-MOST_COLUMNS in
    kept_fine c.args.head.now c.args.n c.in_ok-kept.kept (few past).0 (few past).1 c.at_lowest.result (rw (← c.doubled.ensures) c.at_lowest.ensures)
    c.in_ok-at_lowest.was c.column.result c.column.ensures c.in-Some.id c.in-Some.is c.id_wrong.result c.id_wrong.ensures
    c.args.order c.if-id_wrong.false ∙ joined past
