use Rattle.std.proofs.Common.{sym}
use Rattle.std.proofs.lemmas.List.Folds.{list_all_more}
use Rattle.hex.specs.Hex.{is_hex_digit}
use Rattle.amqp_script.proofs.digits.are_digits.Goals as goal

pub loop-byte-preserved : goal.loop-byte-preserved
loop-byte-preserved c = rw (c.loop-byte.invariant, c.is_digit-all.ensures) (sym (list_all_more is_hex_digit c.args.text.now c.loop-byte.byte-index 0 c.loop-byte-test.true))
