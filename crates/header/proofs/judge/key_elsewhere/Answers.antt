use Rattle.std.proofs.Common.{◌≡◌, arith, sym, lt-ltb, eq-eqb, ne_eqb, suc, ◌+◌, true, false, get_or}
use Rattle.laws.proofs.LowestLaws.{none_start, none_next, lowest_found, lowest_nothing}
use Rattle.header.specs.Serving.Stages.{other_key_in}
use Rattle.header.proofs.GatherLaws.{key_tested}
use Rattle.header.proofs.judge.key_elsewhere.Goals as goal
use Rattle.header.proofs.judge.key_elsewhere.Goals.{else-keys-k-eq80-via-then-keys-k-eq80+else-k-id, else-keys-k-eq80-via-else-keys-k-eq80}

pub loop-k-init : goal.loop-k-init
loop-k-init c = none_start (other_key_in c.args.keys.now c.args.id)

pub returns-then-k-id : goal.returns-then-k-id
returns-then-k-id c =
    rw (lowest_found (other_key_in c.args.keys.now c.args.id) c.args.n c.loop-k.k (omega arith) c.loop-k.invariant
    (key_tested c.args.keys.now c.args.id c.loop-k.k true (rw (c.if-keys-k-eq80.true, ne_eqb (c.loop-k.k + 1) c.args.id c.if-k-id.true))))
    (sym (lt-ltb 0 (suc c.loop-k.k) (omega arith)))

pub loop-k-preserved : goal.loop-k-preserved
loop-k-preserved c =
    none_next (other_key_in c.args.keys.now c.args.id) c.loop-k.k c.loop-k.invariant
    (key_tested c.args.keys.now c.args.id c.loop-k.k false (elim c.else-keys-k-eq80.branch [
      | else-keys-k-eq80-via-then-keys-k-eq80+else-k-id w ↦ rw (w.if-keys-k-eq80.true, eq-eqb (c.loop-k.k + 1) c.args.id w.if-k-id.false)
      | else-keys-k-eq80-via-else-keys-k-eq80 w ↦ rw (ne_eqb (get_or c.args.keys.now c.loop-k.k 0) 80 w.if-keys-k-eq80.false)
    ]))

pub returns : goal.returns
returns c =
    let q : c.loop-k.k ≡ c.args.n = omega arith in
    rw (lowest_nothing (other_key_in c.args.keys.now c.args.id) c.args.n (rw q at c.loop-k.invariant))
