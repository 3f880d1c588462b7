use Rattle.std.proofs.Common.{◌≡◌, ℕ, List, ◌*◌, ◌/◌, ◌-◌, Ok, length, take, drop}
use Rattle.std.specs.Simd.{first_chunks}
use Rattle.std.specs.Slice.Iter.{iter_rest}
use Rattle.hex.specs.Hex.{decode_of, decode_pairs}
use Rattle.hex.proofs.Pairs.{prepend}
use Rattle.amqp_script.proofs.digits.read_pairs.Given as goal

abbrev pub invariant-loop-index : goal.invariant-loop-index
invariant-loop-index l = record {
  end : l.index-iterator.a.end ≡ length l.text / 2;
  left : iter_rest l.index-iterator.b ≡ first_chunks 2 (length l.text / 2 - l.index-iterator.a.start) (drop (2 * l.index-iterator.a.start) l.text);
  read : (bytes : List ℕ) → decode_of l.text ≡ Ok bytes
      → decode_pairs 0 l.text ≡ prepend (take l.index-iterator.a.start l.out) (decode_pairs (2 * l.index-iterator.a.start) (drop (2 * l.index-iterator.a.start) l.text));
}
