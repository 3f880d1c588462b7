use Rattle.amqp_perform.proofs.Lengths.{frame_parts, frame_payload, frame_most}
use Rattle.amqp_perform.proofs.laws.frames_are_as_long.Goals as goal

pub returns-clause-parts : goal.returns-clause-parts
returns-clause-parts c = frame_parts

pub returns-clause-payload : goal.returns-clause-payload
returns-clause-payload c = frame_payload

pub returns-clause-most : goal.returns-clause-most
returns-clause-most c = frame_most
