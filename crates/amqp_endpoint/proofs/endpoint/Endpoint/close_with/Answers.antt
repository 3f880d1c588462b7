use Rattle.amqp_reason.specs.Reasons.{reason_of}
use Rattle.amqp_endpoint.proofs.ClosesWith.{valid_then, room_then}
use Rattle.amqp_endpoint.proofs.endpoint.Endpoint.close_with.Goals as goal

pub close_with-requires-clause-valid : goal.close_with-requires-clause-valid
close_with-requires-clause-valid g c =
    valid_then c.self.inside.connection c.self.inside.out (reason_of c.args.reason.now) c.in_ok-close_with_call.ensures.ok

pub close_with-requires-clause-room : goal.close_with-requires-clause-room
close_with-requires-clause-room g c =
    room_then c.self.inside.connection c.self.inside.out (reason_of c.args.reason.now) c.in_ok-close_with_call.ensures.ok
