use Rattle.amqp_send.proofs.Saying.{open_may, begin_may, attach_may, flow_may, transfer_may, close_may}
use Rattle.amqp_send.proofs.laws.frames_may_be_said.Goals as goal

pub returns-clause-begin : goal.returns-clause-begin
returns-clause-begin c = begin_may

pub returns-clause-flow : goal.returns-clause-flow
returns-clause-flow c = flow_may

pub returns-clause-transfer : goal.returns-clause-transfer
returns-clause-transfer c = transfer_may

pub returns-clause-close : goal.returns-clause-close
returns-clause-close c = close_may

pub returns-clause-open : goal.returns-clause-open
returns-clause-open c = open_may

pub returns-clause-attach : goal.returns-clause-attach
returns-clause-attach c = attach_may c.canonical_spells.ensures
