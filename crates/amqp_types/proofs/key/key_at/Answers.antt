use Rattle.std.proofs.Common.{rules, ◌≡◌, ◌∷◌, false, Ok}
use Rattle.amqp_types.specs.Codes.{find_code}
use Rattle.amqp_types.specs.Keys.{tree_of_key}
use Rattle.amqp_types.specs.Reading.{allowed}
use Rattle.amqp_types.proofs.LentKeys.{coded_is}
use Rattle.amqp_types.proofs.key.key_at.Goals as goal

pub returns-clause-read : goal.returns-clause-read
returns-clause-read c = λ inner nodes.
    let parts : c.args.bytes.now ≡ c.in_ok-code.code.now ∷ c.in_ok-code.rest.now = search rules in
    let found : allowed 0 false (find_code c.in_ok-code.code.now) ≡ Ok c.in_ok-constructor.constructor = search rules in
    rw parts (coded_is inner c.args.w nodes c.in_ok-code.code.now c.in_ok-constructor.constructor c.in_ok-code.rest.now c.in_ok-key.behind.now (tree_of_key c.in_ok-key.key) found
    (c.in_ok-key.ensures.read inner nodes))
