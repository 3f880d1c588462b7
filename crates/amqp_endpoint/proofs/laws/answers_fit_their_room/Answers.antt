use Rattle.amqp_endpoint.proofs.Replies.{unit_fits, call_fits}
use Rattle.amqp_endpoint.proofs.laws.answers_fit_their_room.Goals as goal

pub returns-clause-units : goal.returns-clause-units
returns-clause-units c s u short = unit_fits c.frames_are_as_long.ensures s short u

pub returns-clause-calls : goal.returns-clause-calls
returns-clause-calls c = call_fits c.frames_are_as_long.ensures
