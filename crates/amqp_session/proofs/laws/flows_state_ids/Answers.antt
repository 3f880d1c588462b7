use Rattle.amqp_session.proofs.FrameEvents.{session_flow_states, link_flow_states, late_flow_ignored}
use Rattle.amqp_session.proofs.laws.flows_state_ids.Goals as goal

pub returns : goal.returns
returns c = record { session = session_flow_states; live = link_flow_states; waits = late_flow_ignored }
