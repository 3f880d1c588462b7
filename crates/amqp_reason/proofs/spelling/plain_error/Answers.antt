use Rattle.std.proofs.Common.{arith, length, ap, ◌+◌, ◌∙◌, ◌++◌, List, ℕ}
use Rattle.amqp_reason.proofs.Spelled.{symbol_text, head_short, plain_is}
use Rattle.amqp_reason.proofs.spelling.plain_error.Goals as goal

pub put_octets-requires-clause-room : goal.put_octets-requires-clause-room
put_octets-requires-clause-room c = omega (arith, ap length c.described-spelled.ensures, head_short 1 (2 + length c.args.condition.now), c.requires)

pub returns : goal.returns
returns c =
    c.put_octets.ensures ∙ ap (λ (x : List ℕ). x ++ symbol_text c.args.condition.now) c.described-spelled.ensures ∙ plain_is c.args.condition.now c.requires
