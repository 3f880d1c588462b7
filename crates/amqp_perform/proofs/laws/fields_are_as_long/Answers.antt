use Rattle.amqp_perform.proofs.Lengths.{uint_short, octets_short}
use Rattle.amqp_perform.proofs.laws.fields_are_as_long.Goals as goal

pub returns-clause-numbers : goal.returns-clause-numbers
returns-clause-numbers c = uint_short

pub returns-clause-octets : goal.returns-clause-octets
returns-clause-octets c = octets_short
