use Rattle.std.proofs.Common.{arith, ◌∙◌}
use Rattle.std.proofs.lemmas.Result.{err_from_is_err_and}
use Rattle.header.proofs.HeaderLaws.{accepted_step, accepted_names, accepted_after, accepted_long, refused_step}
use Rattle.header.proofs.JudgeLaws.{sound_passed, refused_by}
use Rattle.header.proofs.column_step.Goals as goal

pub returns-in_err-judged : goal.returns-in_err-judged
returns-in_err-judged c =
    let p = err_from_is_err_and c.from_residual.result c.from_residual.ensures.1 in
    rw (p.1, p.2) (refused_step c.args.file.now c.in_err-judged.field-0.0
    (refused_by c.args.file.now c.judge_file.result c.judge_file.ensures c.in_err-judged.field-0.0 c.in_err-judged.was) c.args.place)

pub slice_bounds-step_in-end : goal.slice_bounds-step_in-end
slice_bounds-step_in-end c =
    let p = sound_passed c.args.file.now c.judge_file.result c.judge_file.ensures c.in_ok-judged.judged c.in_ok-judged.was in
    omega (arith, p.fits)

pub step_in-requires : goal.step_in-requires
step_in-requires c =
    let f = c.in_ok-judged.judged in
    let p = sound_passed c.args.file.now c.judge_file.result c.judge_file.ensures f c.in_ok-judged.was in (
      accepted_long c.args.file.now f p,
      p.few,
      accepted_names c.args.file.now f p,
      accepted_after c.args.file.now f p,
    )

pub returns : goal.returns
returns c =
    let f = c.in_ok-judged.judged in
    c.step_in.ensures ∙ accepted_step c.args.file.now f (sound_passed c.args.file.now c.judge_file.result c.judge_file.ensures f c.in_ok-judged.was) c.args.place
