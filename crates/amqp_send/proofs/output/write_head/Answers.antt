use Rattle.std.proofs.Common.{◌≡◌, ℕ, ◌+◌, ◌^◌, ◌<◌, ◌≤◌, List, ◌++◌, length, take, drop, ap, ◌∙◌, arith}
use Rattle.byteorder.specs.Endian.{big_bytes}
use Rattle.amqp_perform.specs.Said.{said}
use Rattle.amqp_send.specs.Sendings.{frame}
use Rattle.amqp_send.proofs.Heads.{head_written}
use Rattle.amqp_send.proofs.output.write_head.Goals as goal

pub returns-in-Some-clause-written : goal.returns-in-Some-clause-written
returns-in-Some-clause-written c =
    let s = said c.args.performative.now in
    let p = c.args.payload.now in
    let out = c.write_frame.new.out in
    let front = c.copy_from_slice.new.self in
    let is : c.in-Some.head_len ≡ length (frame s) = c.in-Some.ensures.written.0 in
    let new : out ≡ frame s ++ drop c.in-Some.head_len c.args.out.now = c.in-Some.ensures.written.1 in
    let size : front ≡ big_bytes 4 (c.in-Some.head_len + length p) = c.copy_from_slice.ensures.after ∙ c.to_be_bytes.ensures in
    ap (λ (x : List ℕ). take c.in-Some.head_len (x ++ drop 4 out) ++ p) size
    ∙ ap (λ (x : List ℕ). take c.in-Some.head_len (big_bytes 4 (c.in-Some.head_len + length p) ++ drop 4 x) ++ p) new
    ∙ ap (λ (n : ℕ). take n (big_bytes 4 (n + length p) ++ drop 4 (frame s ++ drop c.in-Some.head_len c.args.out.now)) ++ p) is
    ∙ head_written s p (drop c.in-Some.head_len c.args.out.now)

pub returns-in_default-2-clause-len : goal.returns-in_default-2-clause-len
returns-in_default-2-clause-len c = λ le.
    let s = said c.args.performative.now in
    let sum = c.lengths_of_frames.ensures.lengths.payload 0 s c.args.payload.now in
    let fits : (length (frame s) ≤ length c.args.out.now) × (length (frame s) < 2 ^ 32) = (omega (arith, sum, le), omega (arith, sum, le)) in
    cc (c.in_default.ensures.fits.1 fits)
