use Rattle.amqp_perform.proofs.ValueLaws.{large_frame, small_frame, absent_frame, no_frame}
use Rattle.amqp_perform.proofs.telling.frame_size_value.Goals as goal

pub returns-in_err-uint : goal.returns-in_err-uint
returns-in_err-uint c = rw c.from_residual.ensures (no_frame c.args.bytes.now _ _ c.of-fields.ensures.count c.of-fields.ensures.items c.in_err-uint.ensures)

pub returns-then-size-lt-LEAST_FRAME_SIZE : goal.returns-then-size-lt-LEAST_FRAME_SIZE
returns-then-size-lt-LEAST_FRAME_SIZE c =
    small_frame c.args.bytes.now _ _ c.in-Some.size _ _ c.of-fields.ensures.count c.of-fields.ensures.items (rw c.in-Some.is at c.in_ok-uint.ensures) c.if-size-lt-LEAST_FRAME_SIZE.true

pub returns-in-None : goal.returns-in-None
returns-in-None c =
    absent_frame c.args.bytes.now _ _ _ _ c.parts.result.1.now c.of-fields.ensures.count c.of-fields.ensures.items (rw c.in-None.is at c.in_ok-uint.ensures) c.parts.ensures.items

pub returns-else-size-lt-LEAST_FRAME_SIZE : goal.returns-else-size-lt-LEAST_FRAME_SIZE
returns-else-size-lt-LEAST_FRAME_SIZE c =
    large_frame c.args.bytes.now _ _ c.in-Some.size _ _ c.parts-in-Some.result.1.now c.of-fields.ensures.count c.of-fields.ensures.items (rw c.in-Some.is at c.in_ok-uint.ensures)
    c.if-size-lt-LEAST_FRAME_SIZE.false c.parts-in-Some.ensures.items
