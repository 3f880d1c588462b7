use Rattle.std.proofs.Common.{◌≤◌, length, arith}
use Rattle.amqp_send.specs.Flows.{most}
use Rattle.amqp_send.specs.Sendings.{next_frame}
use Rattle.amqp_send.proofs.Lengths.{open_short, begin_short, attach_short, flow_short, close_long, frame_within, frame_full, most_is}
use Rattle.amqp_send.proofs.laws.frames_are_within.Goals as goal

pub returns-clause-opening : goal.returns-clause-opening
returns-clause-opening c = λ terms container name. record {
  first = open_short c.lengths_of_frames.ensures.lengths terms.container_id container;
  second = begin_short c.lengths_of_frames.ensures.lengths;
  third = attach_short c.lengths_of_frames.ensures.lengths terms.name name;
}

pub returns-clause-flow : goal.returns-clause-flow
returns-clause-flow c = flow_short c.lengths_of_frames.ensures.lengths

pub returns-clause-close : goal.returns-clause-close
returns-clause-close c = close_long

pub returns-clause-transfer : goal.returns-clause-transfer
returns-clause-transfer c = λ f m least.
    let within : length (next_frame f m) ≤ most f = frame_within c.lengths_of_frames.ensures.lengths c.lengths_of_frames.ensures.null f m least in
    (omega (arith, within, most_is f least), omega (arith, within, most_is f least))

pub returns-clause-full : goal.returns-clause-full
returns-clause-full c = frame_full c.lengths_of_frames.ensures.lengths c.lengths_of_frames.ensures.null
