use Rattle.std.proofs.Common.{ℕ, ◌<◌, arith, slice_index, ◌∙◌, ap}
use Rattle.std.proofs.lemmas.List.{length-set}
use Rattle.std.proofs.lemmas.Nat.{and_mask}
use Rattle.hex.specs.Hex.{lower_digits}
use Rattle.hex.proofs.Pairs.{encode_step, encode_done}
use Rattle.amqp_script.proofs.digits.put_pairs.Goals as goal

pub loop-index-preserved : goal.loop-index-preserved
loop-index-preserved c =
    let i = c.loop-index.index in
    let byte : ℕ = slice_index c.args.bytes.now i in
    let small : byte < 256 = omega (arith, c.type_inv.bytes i) in
    let mask = and_mask byte 4 in
    record {
      len = length-set _ _ _ ∙ length-set _ _ _ ∙ c.loop-index.invariant.len;
      put = encode_step lower_digits c.args.bytes.now c.loop-index.out i _ _ c.loop-index-test.true (omega (arith, c.loop-index-test.true, c.loop-index.invariant.len))
          (c.digit_of.ensures (omega (arith, small)))
          (c.digit_of-in-loop-index.ensures (omega (arith, mask)) ∙ ap (λ (k : ℕ). slice_index lower_digits k) mask)
          c.loop-index.invariant.put;
    }

pub returns : goal.returns
returns c = encode_done lower_digits c.args.bytes.now c.loop-index.out c.loop-index.index (omega (arith, c.loop-index-test.false)) (omega (arith, c.loop-index.invariant.len)) c.loop-index.invariant.put
