use Rattle.amqp_pair.proofs.Called.{grants, widens, drains, gives, settles}
use Rattle.amqp_pair.proofs.laws.calls_are_turns.Goals as goal

pub returns-clause-grant : goal.returns-clause-grant
returns-clause-grant c = grants c.a_connection_stands_as_the_message_level.ensures

pub returns-clause-widen : goal.returns-clause-widen
returns-clause-widen c = widens c.a_connection_stands_as_the_message_level.ensures

pub returns-clause-drain : goal.returns-clause-drain
returns-clause-drain c = drains c.a_connection_stands_as_the_message_level.ensures

pub returns-clause-take : goal.returns-clause-take
returns-clause-take c = gives c.a_connection_stands_as_the_message_level.ensures

pub returns-clause-settle : goal.returns-clause-settle
returns-clause-settle c = settles c.a_connection_stands_as_the_message_level.ensures
