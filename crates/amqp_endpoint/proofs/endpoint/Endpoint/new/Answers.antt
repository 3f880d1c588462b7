use Rattle.amqp_endpoint.proofs.Endpoints.{sound_new}
use Rattle.amqp_endpoint.proofs.endpoint.Endpoint.new.Goals as goal

pub invariant_of-result : goal.invariant_of-result
invariant_of-result g c =
    sound_new c.args.config c.max_frame.result c.in_ok-input.input c.in_ok-out.out c.in_ok-connection.connection
    (c.in_ok-input.ensures.value.0, c.in_ok-input.ensures.value.1, c.in_ok-input.ensures.value.2) c.in_ok-out.ensures c.in_ok-connection.ensures
    c.max_frame.ensures.value c.max_frame.ensures.least c.max_frame.ensures.most c.in_ok-input.ensures.held
