use Rattle.std.proofs.Common.{◌≡◌, ◌*◌, ◌++◌, length, take, drop}
use Rattle.hex.specs.Hex.{encode_lower, lower_digits, encode_with}
use Rattle.amqp_script.proofs.digits.put_pairs.Given as goal

abbrev pub invariant-loop-index : goal.invariant-loop-index
invariant-loop-index l = record {
  len : length l.out ≡ 2 * length l.bytes;
  put : take (2 * l.index) l.out ++ encode_with lower_digits (drop l.index l.bytes) ≡ encode_lower l.bytes;
}
