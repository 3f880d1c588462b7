use Rattle.amqp_endpoint.specs.Histories.{state_of}
use Rattle.amqp_endpoint.proofs.Takings.{taken_by_part, still_taken}
use Rattle.amqp_endpoint.proofs.Uses.{each_within}
use Rattle.amqp_endpoint.proofs.laws.each_life_has_its_own_messages.Goals as goal

pub returns-clause-part : goal.returns-clause-part
returns-clause-part c = taken_by_part

pub returns-clause-stays : goal.returns-clause-stays
returns-clause-stays c = λ config h. still_taken (state_of config h) h

pub returns-clause-within : goal.returns-clause-within
returns-clause-within c = λ config h channel handle life narrow all. each_within channel handle c.connection_begins.ensures c.connection_goes_on.ensures config narrow h all life
