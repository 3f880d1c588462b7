use Rattle.std.proofs.Common.{arith}
use Rattle.amqp_script.proofs.HexTexts.{digit_for-small, digit_for-letter}
use Rattle.amqp_script.proofs.digits.digit_of.Goals.{then-number-gt9, else-number-gt9}
use Rattle.amqp_script.proofs.digits.digit_of.Goals as goal

pub returns : goal.returns
returns c = λ small. elim c.if-number-gt9.branch [
  | then-number-gt9 w ↦ rw w.behind-is (digit_for-letter c.args.number (omega (arith, w.if-number-gt9.true)) small)
  | else-number-gt9 w ↦ rw w.behind-is (digit_for-small c.args.number (omega (arith, w.if-number-gt9.false)))
]
