use Rattle.std.proofs.Common.{◌≡◌, ◌∷◌, rules}
use Rattle.amqp_types.proofs.Counted.{plain_leaves}
use Rattle.amqp_types.proofs.Reaches.{plain_value}
use Rattle.amqp_types.proofs.quick_skip.plain_len.Goals as goal

pub returns-clause-read : goal.returns-clause-read
returns-clause-read c = λ inner w.
    let parts : c.args.bytes.now ≡ c.in_ok-code.code.now ∷ c.in_ok-code.rest.now = search rules in
    plain_value inner w c.in_ok-code.code.now c.args.bytes.now c.in_ok-code.rest.now c.in_ok-width.width parts c.in_ok-width.ensures c.if-rest-width.false

pub returns-clause-kept : goal.returns-clause-kept
returns-clause-kept c = λ inner w nodes.
    let parts : c.args.bytes.now ≡ c.in_ok-code.code.now ∷ c.in_ok-code.rest.now = search rules in
    plain_leaves inner w nodes c.in_ok-code.code.now c.args.bytes.now c.in_ok-code.rest.now c.in_ok-width.width parts c.in_ok-width.ensures c.if-rest-width.false
