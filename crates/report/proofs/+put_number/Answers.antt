-- A number below ten is one digit; any other is what its tenth wrote, with the last digit behind it.
use native.Mathlib.Omega.{arith}
use lib.ListN.{length}
use Rattle.report.proofs.NumberWritten.{one_digit, last_digit, last_inside}
use Rattle.report.proofs.+put_number.Goals as goal

pub returns-then-n-lt10 : goal.returns-then-n-lt10
returns-then-n-lt10 t c =
    let all = one_digit c.args.out.now c.put_byte.new.out c.args.at c.args.n c.digit_of.result c.put_byte.result c.if-n-lt10.true
    c.digit_of.ensures c.put_byte.ensures.value c.put_byte.ensures.out_after in
    record { value = all.0; out_after = all.1 }

pub put_byte-requires-2 : goal.put_byte-requires-2
put_byte-requires-2 t c =
    last_inside c.args.at c.args.n c.put_number-next.result (length c.put_number-next.new.out) c.if-n-lt10.false
    (omega (arith, c.ranges.n)) c.put_number-next.ensures.value.0 (omega (arith, c.requires, c.put_number-next.auto.out))

pub returns : goal.returns
returns t c =
    let p = c.put_number-next in
    let all = last_digit c.args.out.now p.new.out c.put_byte-2.new.out c.args.at c.args.n p.result c.digit_of-2.result c.put_byte-2.result
    c.if-n-lt10.false (omega (arith, c.ranges.n)) p.ensures.value.0 p.ensures.out_after c.digit_of-2.ensures
    c.put_byte-2.ensures.value c.put_byte-2.ensures.out_after in
    record { value = all.0; out_after = all.1 }
