use Rattle.std.proofs.Common.{arith, drop}
use Rattle.amqp_types.proofs.Calls.{skip_found, skip_only}
use Rattle.amqp_types.proofs.Misreads.{skip_misread}
use Rattle.amqp_types.proofs.Places.{skip_placed, skip_plain}
use Rattle.amqp_types.proofs.skipper.skip.Goals as goal

pub returns-clause-found : goal.returns-clause-found
returns-clause-found c = skip_found c.args.depth c.args.bytes.now c.skip_len.result (λ i. omega (arith, c.type_inv.bytes i)) c.skip_len.ensures.within c.skip_len.ensures.exact

pub returns-clause-only : goal.returns-clause-only
returns-clause-only c = λ t text rest spelled deep parts. skip_only c.args.depth c.args.bytes.now c.skip_len.result t text rest c.skip_len.ensures.within c.skip_len.ensures.exact spelled deep parts

pub returns-clause-misread : goal.returns-clause-misread
returns-clause-misread c = skip_misread c.args.depth c.args.bytes.now c.skip_len.result (λ i. omega (arith, c.type_inv.bytes i)) c.skip_len.ensures.exact

pub returns-clause-placed : goal.returns-clause-placed
returns-clause-placed c = skip_placed (λ n. drop n c.args.bytes.now) c.args.depth c.args.bytes.now c.skip_len.result c.skip_len.ensures.exact

pub returns-clause-plain : goal.returns-clause-plain
returns-clause-plain c = skip_plain (λ n. drop n c.args.bytes.now) c.args.depth c.args.bytes.now c.skip_len.result c.skip_len.ensures.exact
