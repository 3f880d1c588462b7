use Rattle.std.proofs.Common.{◌≤◌, length, arith}
use Rattle.amqp_perform.specs.Said.{said}
use Rattle.amqp_send.specs.Sendings.{frame, flow_said}
use Rattle.amqp_send.proofs.Lengths.{flow_short, same_long}
use Rattle.amqp_send.proofs.frames.put_flow.Goals as goal

pub append-requires-clause-short : goal.append-requires-clause-short
append-requires-clause-short g c =
    let le : length (frame (said c.flow.result)) ≤ 64 = same_long 64 (said c.flow.result) (flow_said c.args.state c.args.drain) c.flow.ensures
    (flow_short c.lengths_of_frames.ensures.lengths c.args.state c.args.drain) in
    omega (arith, le)

pub append-requires-clause-room : goal.append-requires-clause-room
append-requires-clause-room g c =
    let le : length (frame (said c.flow.result)) ≤ 64 = same_long 64 (said c.flow.result) (flow_said c.args.state c.args.drain) c.flow.ensures
    (flow_short c.lengths_of_frames.ensures.lengths c.args.state c.args.drain) in
    omega (arith, le, c.requires)
