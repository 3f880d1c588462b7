use Rattle.amqp_endpoint.proofs.Accepts.{units_may}
use Rattle.amqp_endpoint.proofs.laws.units_are_accepted.Goals as goal

pub returns : goal.returns
returns c = units_may c.reading_is_exact.ensures.found c.what_is_read_may_be_written.ensures.cells c.frames_are_accepted.ensures c.calls_are_accepted.ensures
