use Rattle.std.proofs.Common.{◌≡◌, arith, ◌∙◌}
use Rattle.laws.proofs.LowestLaws.{none_start, none_next}
use Rattle.header.specs.Names.{is_among}
use Rattle.laws.proofs.FoundLaws.{found_next, found_nothing}
use Rattle.header.proofs.NameLaws.{among_said}
use Rattle.header.proofs.Names.column.Goals as goal

pub loop-k-init : goal.loop-k-init
loop-k-init c = none_start (is_among c.args.file.now c.args.self.now c.args.name.now)

pub returns-then-same_text : goal.returns-then-same_text
returns-then-same_text c =
    found_next (is_among c.args.file.now c.args.self.now c.args.name.now) c.args.n c.loop-k.k (omega arith) c.loop-k.invariant
    (among_said c.args.file.now c.args.self.now c.args.name.now c.loop-k.k c.part.result.now c.part.ensures
    c.same_text.result c.same_text.ensures ∙ c.if-same_text.true)

pub loop-k-preserved : goal.loop-k-preserved
loop-k-preserved c =
    none_next (is_among c.args.file.now c.args.self.now c.args.name.now) c.loop-k.k c.loop-k.invariant
    (among_said c.args.file.now c.args.self.now c.args.name.now c.loop-k.k c.part.result.now c.part.ensures
    c.same_text.result c.same_text.ensures ∙ c.if-same_text.false)

pub returns : goal.returns
returns c =
    let q : c.loop-k.k ≡ c.args.n = omega arith in
    found_nothing (is_among c.args.file.now c.args.self.now c.args.name.now) c.args.n (rw q at c.loop-k.invariant)
