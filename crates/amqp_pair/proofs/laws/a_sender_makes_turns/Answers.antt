use Rattle.amqp_pair.proofs.Words.{all}
use Rattle.amqp_pair.proofs.Heard.{begin_heard, flow_heard, offered}
use Rattle.amqp_pair.proofs.laws.a_sender_makes_turns.Goals as goal

pub returns-clause-writes : goal.returns-clause-writes
returns-clause-writes c = all c.frames_are_within.ensures.transfer

pub returns-clause-flow : goal.returns-clause-flow
returns-clause-flow c = flow_heard c.frames_are_within.ensures.transfer c.frames_are_within.ensures.flow

pub returns-clause-offer : goal.returns-clause-offer
returns-clause-offer c = offered c.frames_are_within.ensures.transfer

pub returns-clause-begin : goal.returns-clause-begin
returns-clause-begin c = begin_heard c.frames_are_within.ensures.transfer
