use Rattle.amqp_pair.proofs.Accepting.{opens, begins, attaches, flows, transfers}
use Rattle.amqp_pair.proofs.laws.frames_of_a_sender_are_accepted.Goals as goal

pub returns-clause-open : goal.returns-clause-open
returns-clause-open c = opens c.frames_come_to_their_lines.ensures c.frames_may_be_said.ensures.open

pub returns-clause-begin : goal.returns-clause-begin
returns-clause-begin c = begins c.frames_come_to_their_lines.ensures c.frames_may_be_said.ensures.begin

pub returns-clause-attach : goal.returns-clause-attach
returns-clause-attach c = attaches c.frames_come_to_their_lines.ensures c.frames_may_be_said.ensures.attach

pub returns-clause-flow : goal.returns-clause-flow
returns-clause-flow c = flows c.frames_come_to_their_lines.ensures c.frames_may_be_said.ensures.flow

pub returns-clause-transfer : goal.returns-clause-transfer
returns-clause-transfer c = transfers c.frames_come_to_their_lines.ensures c.frames_may_be_said.ensures.transfer
