use Rattle.std.proofs.Common.{drop}
use Rattle.amqp_types.proofs.Places.{check_placed}
use Rattle.amqp_types.proofs.checker.check.Goals as goal

pub returns-clause-placed : goal.returns-clause-placed
returns-clause-placed c = check_placed (λ n. drop n c.args.bytes.now) c.args.limits.depth c.args.limits.nodes c.args.bytes.now c.check_front.result c.check_front.ensures.exact
