use Rattle.amqp_link.proofs.Ranges.{covers_range}
use Rattle.amqp_link.proofs.laws.covers_is_the_range_of_serial_numbers.Goals as goal

pub returns : goal.returns
returns c = covers_range
