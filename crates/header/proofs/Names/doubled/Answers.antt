-- Of the columns so far the numbers are seen and their slots marked. Where the slot of a later name is not marked the search among the
-- earlier ones is over before it begins; else a pair of two numbers is no pair of one name, and one of the same number is compared.
use Rattle.std.proofs.Common.{◌≡◌, suc, false, refl, ap, arith, ◌∙◌}
use lib.ListN.{length-set, length-replicate}
use Rattle.laws.proofs.BufferLaws.{one_to_next}
use Rattle.laws.proofs.LowestLaws.{none_start, none_next}
use Rattle.limits.specs.Limits.{most_columns}
use Rattle.header.specs.Names.{named_before}
use Rattle.header.specs.Serving.Numbers.{number_of, slots}
use Rattle.laws.proofs.FoundLaws.{found_next, found_nothing}
use Rattle.header.proofs.NameLaws.{names_as, name-at, pair_said, no_earlier, an_earlier}
use Rattle.header.proofs.NumberLaws.{number_at, other_seen, first_none, marked_next}
use Rattle.header.proofs.Names.doubled.Goals as goal
use Rattle.header.proofs.Names.doubled.Goals.{
  After-number_of-number,
  then-marked-slot,
  else-marked-slot,
  else-seen-earlier-via-then-seen-earlier+else-same_text,
  else-seen-earlier-via-else-seen-earlier,
}

-- the number of the later name
number_is : (c : After-number_of-number) → c.number_of-number.result ≡ number_at c.args.head.now (suc c.search.later)
number_is c =
    c.number_of-number.ensures
    ∙ ap number_of (c.part-name.ensures ∙ name-at c.args.head.now c.args.n c.args.self.now c.requires.1 c.search.later (omega arith))

pub search-init : goal.search-init
search-init c = (
  refl,
  none_start (named_before c.args.head.now),
  refl,
  length-replicate slots false,
  λ k i. absurd (omega (arith, i.0, i.1)),
)

pub loop-earlier-init : goal.loop-earlier-init
loop-earlier-init c =
    let first = first_none c.args.head.now c.search.later c.number_of-number.result (number_is (goal.at.loop-earlier-init c).After-number_of-number)
    c.slot_of-slot.result c.slot_of-slot.ensures.value c.search.marked c.search.invariant.4 c.if-marked-slot.first
    (elim c.if-marked-slot.branch [
      | then-marked-slot w ↦ w.first-is ∙ rw w.if-marked-slot.true refl
      | else-marked-slot w ↦ w.first-is ∙ rw w.if-marked-slot.false refl
    ]) in
    (c.search.invariant.0, first.0, first.1)

pub loop-earlier-preserved : goal.loop-earlier-preserved
loop-earlier-preserved c = (
  c.loop-earlier.invariant.0,
  omega arith,
  none_next (names_as c.args.head.now c.search.later) c.loop-earlier.earlier c.loop-earlier.invariant.2
      (elim c.else-seen-earlier.branch [
        | else-seen-earlier-via-then-seen-earlier+else-same_text w ↦ pair_said c.args.head.now c.args.n c.args.self.now
            c.requires.1 c.loop-earlier.earlier c.search.later w.part.result.now c.part-name.result.now w.same_text.result
            (omega arith) (omega arith) w.part.ensures c.part-name.ensures w.same_text.ensures
            ∙ w.if-same_text.false
        | else-seen-earlier-via-else-seen-earlier w ↦ other_seen c.args.head.now c.search.later c.number_of-number.result
            (number_is (goal.at.loop-earlier-preserved c).After-number_of-number) c.search.seen _
            c.search.invariant.2 c.loop-earlier.earlier (omega arith) w.if-seen-earlier.false
      ]),
)

pub search-preserved : goal.search-preserved
search-preserved c =
    let number = number_is (goal.at.search-preserved c).After-number_of-number in (
      c.loop-earlier.invariant.0,
      none_next (named_before c.args.head.now) c.search.later c.search.invariant.1
          (no_earlier c.args.head.now c.loop-earlier.earlier c.search.later c.loop-earlier.invariant.2 (omega arith)),
      one_to_next (number_at c.args.head.now) c.search.seen most_columns c.search.later 0 c.number_of-number.result (omega arith)
          c.search.invariant.2 number,
      length-set c.search.marked c.slot_of-slot.result _ ∙ c.search.invariant.3,
      marked_next c.args.head.now c.search.later c.number_of-number.result number c.slot_of-slot.result c.slot_of-slot.ensures.value
          c.search.marked c.search.invariant.4 c.search.invariant.3,
    )

pub returns-after-search : goal.returns-after-search
returns-after-search c =
    let q : c.search.later ≡ c.args.n = omega arith in
    c.search.invariant.0 ∙ found_nothing (named_before c.args.head.now) c.args.n (rw q at c.search.invariant.1)

pub returns-then-same_text : goal.returns-then-same_text
returns-then-same_text c =
    found_next (named_before c.args.head.now) c.args.n c.search.later (omega arith) c.search.invariant.1
    (an_earlier c.args.head.now c.loop-earlier.earlier c.search.later c.loop-earlier.invariant.2 (omega arith)
    (pair_said c.args.head.now c.args.n c.args.self.now c.requires.1 c.loop-earlier.earlier c.search.later c.part.result.now
    c.part-name.result.now c.same_text.result (omega arith) (omega arith) c.part.ensures c.part-name.ensures
    c.same_text.ensures ∙ c.if-same_text.true))
