use Rattle.std.proofs.Common.{◌≡◌, ◌≤◌, ℕ, List, true, ◌+◌, ◌++◌, length, drop, refl, sym, ap, ◌∙◌, append_assoc, arith}
use Rattle.byteorder.specs.Endian.{big_bytes}
use Rattle.amqp_send.specs.Sendings.{frame, later_said}
use Rattle.amqp_send.proofs.Heads.{later_is, later_written, later_waits, later_goes}
use Rattle.amqp_send.proofs.Filled.{filled}
use Rattle.circular_buffer.specs.Buffer.{Buffer, buffer}
use Rattle.std.proofs.lemmas.List.{length-append}
use Rattle.amqp_send.proofs.output.Output.put_continuation.Goals as goal

pub returns-then-size-len-clause-fits : goal.returns-then-size-len-clause-fits
returns-then-size-len-clause-fits g c = rw (← c.self.view_is) (sym (later_waits c.lengths_of_frames.ensures.lengths c.self.inside.pipe.items c.args.payload.now (omega (arith, c.len.ensures.len, c.if-size-len.true))))

pub returns-then-size-len-clause-new : goal.returns-then-size-len-clause-new
returns-then-size-len-clause-new g c = rw (← c.self.view_is, later_waits c.lengths_of_frames.ensures.lengths c.self.inside.pipe.items c.args.payload.now (omega (arith, c.len.ensures.len, c.if-size-len.true))) refl

pub returns-clause-fits : goal.returns-clause-fits
returns-clause-fits g c = rw (← c.self.view_is) (sym (later_goes c.lengths_of_frames.ensures.lengths c.self.inside.pipe.items c.args.payload.now (omega (arith, c.len.ensures.len, c.if-size-len.false))))

pub returns-clause-new : goal.returns-clause-new
returns-clause-new g c =
    let pipe = c.self.inside.pipe in
    let between = c.fill_from_slice.new.self in
    let head = c.continuation_head.result in
    let payload = c.args.payload.now in
    let fits : length pipe.items + (20 + length payload) ≤ 8192 = omega (arith, c.len.ensures.len, c.if-size-len.false) in
    let long : length head ≡ 20 = rw (c.continuation_head.ensures, later_is) refl in
    let first : between ≡ buffer (pipe.items ++ head) pipe.capacity = filled c.fill_from_slice.result pipe between head c.fill_from_slice.ensures.count c.fill_from_slice.ensures.items (omega (arith, fits, long, c.self.invariant.0)) in
    let came : length between.items ≡ length pipe.items + length head = ap (λ (b : Buffer ℕ). length b.items) first ∙ length-append pipe.items head in
    let size : between.capacity ≡ 8192 = ap (λ (b : Buffer ℕ). b.capacity) first ∙ c.self.invariant.0 in
    let second : c.fill_from_slice-2.new.self ≡ buffer (between.items ++ payload) between.capacity = filled c.fill_from_slice-2.result between c.fill_from_slice-2.new.self payload c.fill_from_slice-2.ensures.count c.fill_from_slice-2.ensures.items (omega (arith, fits, long, came, size)) in
    rw (← c.self.view_is, later_goes c.lengths_of_frames.ensures.lengths pipe.items payload fits)
    (ap (λ (b : Buffer ℕ). b.items) second
    ∙ ap (λ (b : Buffer ℕ). b.items ++ payload) first
    ∙ ap (λ (x : List ℕ). (pipe.items ++ x) ++ payload) c.continuation_head.ensures
    ∙ append_assoc pipe.items (big_bytes 4 (20 + length payload) ++ drop 4 (frame (later_said true))) payload
    ∙ ap (λ (x : List ℕ). pipe.items ++ x) (later_written payload))
