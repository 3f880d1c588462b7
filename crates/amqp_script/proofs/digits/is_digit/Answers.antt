use Rattle.std.proofs.Common.{arith, ◌+◌, ◌%◌, nat_lt, bit_or, ◌||◌, refl}
use Rattle.std.proofs.lemmas.Bool.{agree_below_at}
use Rattle.hex.specs.Hex.{is_hex_digit}
use Rattle.amqp_script.proofs.digits.is_digit.Goals as goal

pub returns : goal.returns
returns c = agree_below_at (λ b. nat_lt ((b + 208) % 256) 10 || nat_lt ((bit_or b 32 + 159) % 256) 6) is_hex_digit 256 c.args.byte refl (omega (arith, c.ranges.byte))
