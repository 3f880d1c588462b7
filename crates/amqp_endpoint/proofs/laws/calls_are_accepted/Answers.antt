use Rattle.amqp_endpoint.proofs.Accepts.{calls_may}
use Rattle.amqp_endpoint.proofs.laws.calls_are_accepted.Goals as goal

pub returns : goal.returns
returns c = calls_may c.frames_are_accepted.ensures c.calls_are_accepted.ensures
