use borrow.Author.Rules.{rules}
use mathlib.Core.Path.{◌≡◌, refl, sym, ap, ◌∙◌}
use native.Mathlib.Omega.{arith}
use native.Mathlib.Numerals.{add-one}
use Prim.Native.Nat.{ℕ}
use lib.ListN.{length, get_or}
use Rattle.std.specs.Prelude.{Option, Some, None, Ok, Err}
use Rattle.std.specs.Option.{ok_or}
use Rattle.laws.proofs.MachineLaws.{run_next, run-stop, run_end}
use Rattle.laws.proofs.TestLaws.{clash}
use Rattle.grammar.specs.Scan.{machine, move, next_of, answer, scan_of}
use Rattle.grammar.specs.declared.Spot.{Spot}
use Rattle.grammar.proofs.ScanBounds.{bound_move}
use Rattle.grammar.proofs.scan_bytes.Goals as goal

-- where `ok_or` gives a spot there was one, and where it gives a place there was none
was_some : (o : Option Spot) (i : ℕ) (s : Spot) → ok_or o i ≡ Ok s → o ≡ Some s
was_some None i s e = grind arith
was_some (Some t) i s e = cc

was_none : (o : Option Spot) (i j : ℕ) → ok_or o i ≡ Err j → o ≡ None
was_none None i j e = refl
was_none (Some t) i j e = clash (cc)

pub returns-in_err-at : goal.returns-in_err-at
unfolding scan_of
returns-in_err-at c =
    let b = get_or c.args.text.now c.loop-i.i 0 in
    let e : move c.loop-i.at b ≡ None = sym c.step.ensures ∙ was_none c.step.result c.loop-i.i _ (sym c.ok_or.ensures.value ∙ c.in_err-at.was) in
    let k : c.from_residual.result ≡ Err c.loop-i.i = search rules in
    k ∙ ap (answer (length c.args.text.now)) (sym (run-stop machine c.args.text.now c.loop-i.at c.loop-i.i (search rules) (ap next_of e)) ∙ c.loop-i.invariant.1)

pub loop-i-preserved : goal.loop-i-preserved
loop-i-preserved c =
    let b = get_or c.args.text.now c.loop-i.i 0 in
    let e : move c.loop-i.at b ≡ Some c.in_ok-at.at = sym c.step.ensures ∙ was_some c.step.result c.loop-i.i _ (sym c.ok_or.ensures.value ∙ c.in_ok-at.was) in (
      rw e at (bound_move c.loop-i.i c.loop-i.at b c.loop-i.invariant.0),
      rw add-one (sym (run_next machine c.args.text.now c.loop-i.at c.loop-i.i c.in_ok-at.at (search rules) (ap next_of e)) ∙ c.loop-i.invariant.1),
    )

pub returns : goal.returns
unfolding scan_of
returns c =
    let e : c.loop-i.i ≡ length c.args.text.now = omega arith in
    rw (← c.loop-i.invariant.1, run_end machine c.args.text.now c.loop-i.at c.loop-i.i (omega (arith, e)), ← c.rule_of-rule.ensures) c.finish_at.ensures
