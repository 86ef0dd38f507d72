-- `report::put_text` meets its contract: what is left to store gives the whole: byte i goes to place `at + i`.
use Rattle.laws.proofs.PieceLaws.{sets_next, sets_end}
use lib.Seq.{sets}
use lib.ListN.{length-set}
use native.Mathlib.Omega.{arith}
use mathlib.Core.Path.{◌≡◌, refl, sym, ap, ◌∙◌}
use Prim.Native.Nat.{ℕ, ◌+◌, ◌-◌}
use borrow.Author.Rules.{rules}
use Rattle.report.proofs.put_text.Goals as goal

pub loop-i-init : goal.loop-i-init
loop-i-init c = (
  search rules,
  refl,
  let q : c.args.at + 0 ≡ c.args.at = omega arith in ap
      (λ (k : ℕ). sets c.args.out.now k c.args.text.now) q,
)

pub loop-i-preserved : goal.loop-i-preserved
loop-i-preserved c = (
  search rules,
  simp length-set c.loop-i.invariant.1,
  sym (sets_next c.args.text.now
      c.loop-i.out c.args.at c.loop-i.i (omega arith)) ∙ c.loop-i.invariant.2,
)

pub returns : goal.returns
returns c = record {
  value = omega arith;
  out_after = sym (sets_end c.args.text.now c.loop-i.out (c.args.at +
      c.loop-i.i) c.loop-i.i (omega arith)) ∙ c.loop-i.invariant.2;
}
