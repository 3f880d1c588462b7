use Rattle.std.proofs.Common.{arith, [], ap, length}
use Rattle.std.proofs.lemmas.List.{length-append}
use Rattle.amqp_perform.specs.Said.{said, said_frame}
use Rattle.amqp_endpoint.proofs.output.Output.say.Goals as goal

pub returns-clause-most : goal.returns-clause-most
returns-clause-most g c =
    let spoken = said c.args.performative.now in
    let long = ap length c.put.ensures in
    omega (arith, long, length-append c.args.self.now (said_frame c.args.channel spoken []), c.frames_are_as_long.ensures c.args.channel spoken)
