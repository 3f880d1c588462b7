use Rattle.std.proofs.Common.{sym}
use Rattle.amqp_types.proofs.Reaches.{fixed_items}
use Rattle.amqp_types.proofs.quick_skip.elements_len.Goals as goal

pub returns-else-bytes-len-clause-read : goal.returns-else-bytes-len-clause-read
returns-else-bytes-len-clause-read c = λ inner w.
    let len = rw c.form_len.ensures at c.in_ok-len-in-Fixed.ensures.1 in
    rw (c.in-Fixed.is, len) (fixed_items inner w c.in-Fixed.kind c.in-Fixed.form c.args.count c.args.bytes.now (sym c.if-is_partial.ensures) (rw len at c.if-bytes-len.false))
