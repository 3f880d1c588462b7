use Rattle.std.proofs.Common.{drop}
use Rattle.amqp_dump.proofs.scan.told_frame.Goals as goal

pub says_performative-requires : goal.says_performative-requires
says_performative-requires c = (drop c.in-Ok.length c.args.frame.body.now, c.in-Ok.ensures.exact)
