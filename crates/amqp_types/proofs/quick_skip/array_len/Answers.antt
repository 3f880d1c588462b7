use Rattle.std.proofs.Common.{◌≡◌, ◌∷◌, Ok, rules}
use Rattle.amqp_types.specs.Reading.{level_by, inside, allowed}
use Rattle.amqp_types.specs.Codes.{find_code}
use Rattle.amqp_types.proofs.Reaches.{array_rest}
use Rattle.amqp_types.proofs.quick_skip.array_len.Goals as goal

pub returns-clause-read : goal.returns-clause-read
returns-clause-read c = λ w.
    let parts : c.in_ok-count.parts.now ≡ c.in_ok-code.code.now ∷ c.in_ok-code.items.now = search rules in
    let found : allowed 0 (level_by (inside c.args.depth)).holds (find_code c.in_ok-code.code.now) ≡ Ok c.in_ok-constructor.constructor = search rules in
    rw c.size_len.ensures (array_rest (level_by (inside c.args.depth)) w c.args.size c.args.bytes.now c.in_ok-count.count c.in_ok-count.parts.now c.in_ok-count.ensures c.in_ok-elements_len.field-0
    c.in_ok-code.code.now c.in_ok-constructor.constructor c.in_ok-code.items.now parts found c.if-branch-items.false (λ v. c.in_ok-elements_len.ensures.read (inside c.args.depth) v))
