use Rattle.std.proofs.Common.{arith}
use Rattle.amqp_script.proofs.HexTexts.{value_in-digit}
use Rattle.amqp_script.proofs.digits.value_of.Goals as goal

pub returns : goal.returns
returns c = λ v is. value_in-digit c.args.digit v (omega (arith, c.ranges.digit)) is
