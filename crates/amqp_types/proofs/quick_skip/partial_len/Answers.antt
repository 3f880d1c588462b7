use Rattle.std.proofs.Common.{◌≡◌, ◌∷◌, rules, arith}
use Rattle.amqp_types.proofs.Reaches.{boolean_rest, char_rest}
use Rattle.amqp_types.proofs.quick_skip.partial_len.Goals as goal

pub returns-else-byte-gt1-clause-read : goal.returns-else-byte-gt1-clause-read
returns-else-byte-gt1-clause-read c = λ w.
    let parts : c.args.bytes.now ≡ c.in_ok-byte-in-Boolean-Full.byte.now ∷ c.in_ok-byte-in-Boolean-Full._rest.now = search rules in
    rw (c.in-Boolean-Full.is-0, c.in-Boolean-Full.is-1) (boolean_rest w c.args.bytes.now c.in_ok-byte-in-Boolean-Full.byte.now _ parts (omega (arith, c.if-byte-gt1.false)))

pub returns-in_ok-from_u32-in-Char-Full-clause-read : goal.returns-in_ok-from_u32-in-Char-Full-clause-read
returns-in_ok-from_u32-in-Char-Full-clause-read c = λ w.
    rw (c.in-Char-Full.is-0, c.in-Char-Full.is-1) (char_rest w c.args.bytes.now c.if-bytes-lt4.false (rw c.read_u32.ensures at c.in_ok-from_u32-in-Char-Full.ensures.value.0))
