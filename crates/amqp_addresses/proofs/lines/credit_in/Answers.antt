-- amqp_addresses/proofs/lines/credit_in/Answers.antt
use Rattle.std.proofs.Common.{arith, ◌+◌}
use Rattle.amqp_addresses.proofs.Credits.{digit_more, all_more, too_much}
use Rattle.amqp_addresses.proofs.lines.credit_in.Goals as goal

pub returns-then-credit-from : goal.returns-then-credit-from
returns-then-credit-from c =
    let more = digit_more c.args.digits.now c.loop-digit.digit-index c.loop-digit-test.true c.if-not-is_ascii_digit.ensures.bound in
    too_much c.args.digits.now (c.loop-digit.digit-index + 1)
    (omega (arith, more, c.loop-digit.invariant.credit, c.from.ensures, c.from-in-loop-digit.ensures, c.if-credit-from.true))

pub loop-digit-preserved : goal.loop-digit-preserved
loop-digit-preserved c =
    let more = digit_more c.args.digits.now c.loop-digit.digit-index c.loop-digit-test.true c.if-not-is_ascii_digit.ensures.bound in
    record {
      digits = all_more c.args.digits.now c.loop-digit.digit-index c.loop-digit-test.true c.loop-digit.invariant.digits (cc (c.if-not-is_ascii_digit.ensures.value, c.if-not-is_ascii_digit.false));
      credit = omega (arith, more, c.loop-digit.invariant.credit, c.from.ensures);
      small = omega (arith, c.from-in-loop-digit.ensures, c.if-credit-from.false);
    }
