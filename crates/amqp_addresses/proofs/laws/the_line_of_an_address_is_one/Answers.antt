-- amqp_addresses/proofs/laws/the_line_of_an_address_is_one/Answers.antt
use Rattle.amqp_addresses.proofs.Once.{one_line}
use Rattle.amqp_addresses.proofs.laws.the_line_of_an_address_is_one.Goals as goal

pub returns : goal.returns
returns c = one_line
