use mathlib.Core.Path.{◌≡◌, sym, ap, ◌∙◌}
use native.Mathlib.Omega.{arith}
use native.Mathlib.Numerals.{add-one}
use lib.ListN.{length, get_or}
use Rattle.std.specs.Prelude.{Some, None, Err}
use Rattle.laws.proofs.MachineLaws.{run_next, run-stop, run_end}
use Rattle.refusal.specs.declared.Refusal.{Refusal}
use Rattle.wave.specs.Height.{machine, kind_of, step_of, next_of, answer, height_of}
use Rattle.wave.proofs.Bytes.{one_digit}
use Rattle.wave.proofs.RoomLaws.{roomy_step}
use Rattle.wave.proofs.thousandths.Goals as goal

pub returns-in_default : goal.returns-in_default
unfolding height_of
returns-in_default c =
    let text = c.args.text.now in
    let i = c.loop-i.i in
    let e : step_of c.loop-i.st (kind_of (get_or text i 0)) ≡ None = cc in
    ap (λ (r : Refusal). Err r) c.at.ensures
    ∙ ap (answer (length text)) (sym (run-stop machine text c.loop-i.st i (omega arith) (ap next_of e)) ∙ c.loop-i.invariant.rest)

pub loop-i-preserved : goal.loop-i-preserved
loop-i-preserved c =
    let text = c.args.text.now in
    let i = c.loop-i.i in
    let b = get_or text i 0 in
    let e : step_of c.loop-i.st (kind_of b) ≡ Some c.in-Some.next = cc in
    record {
      roomy = rw e at (roomy_step c.loop-i.st (kind_of b) c.loop-i.invariant.roomy (one_digit b));
      rest = rw add-one (sym (run_next machine text c.loop-i.st i c.in-Some.next (omega arith) (ap next_of e)) ∙ c.loop-i.invariant.rest);
    }

pub returns : goal.returns
unfolding height_of
returns c =
    c.finish.ensures
    ∙ ap (answer (length c.args.text.now)) (sym (run_end machine c.args.text.now c.loop-i.st c.loop-i.i (omega arith)) ∙ c.loop-i.invariant.rest)
