use Rattle.amqp_perform.specs.BodyReading.{body_at}
use Rattle.amqp_endpoint.specs.Lines.{is_read_close}
use Rattle.amqp_endpoint.proofs.Staying.{not_close_done}
use Rattle.amqp_endpoint.proofs.units.await_close.Goals as goal

pub returns : goal.returns
returns g c = λ unsent. not_close_done c.args.connection.now unsent (is_read_close (body_at c.args.body.now)) c.if-is_close.ensures
