use Rattle.std.proofs.Common.{arith, drop}
use Rattle.amqp_types.specs.Values.{view}
use Rattle.amqp_types.proofs.Calls.{decode_found, decode_only}
use Rattle.amqp_types.proofs.Misreads.{decode_misread}
use Rattle.amqp_types.proofs.Places.{decode_placed}
use Rattle.amqp_types.proofs.decoder.decode.Goals as goal

pub returns-clause-found : goal.returns-clause-found
returns-clause-found c = decode_found view c.args.limits.depth c.args.limits.nodes c.args.bytes.now c.decode_front.result (λ i. omega (arith, c.type_inv.bytes i)) c.decode_front.ensures.within
    c.decode_front.ensures.exact

pub returns-clause-only : goal.returns-clause-only
returns-clause-only c = λ t text rest spelled lawful deep few parts. decode_only view c.args.limits.depth c.args.limits.nodes c.args.bytes.now c.decode_front.result t text rest
    c.decode_front.ensures.within c.decode_front.ensures.exact spelled lawful deep few parts

pub returns-clause-misread : goal.returns-clause-misread
returns-clause-misread c = decode_misread view c.args.limits.depth c.args.limits.nodes c.args.bytes.now c.decode_front.result (λ i. omega (arith, c.type_inv.bytes i)) c.decode_front.ensures.exact

pub returns-clause-placed : goal.returns-clause-placed
returns-clause-placed c = decode_placed (λ x. (view x.0, drop x.1 c.args.bytes.now)) c.args.limits.depth c.args.limits.nodes c.args.bytes.now c.decode_front.result c.decode_front.ensures.exact
