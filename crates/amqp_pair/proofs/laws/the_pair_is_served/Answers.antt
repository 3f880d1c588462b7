use Rattle.amqp_pair.proofs.Served.{pair_law}
use Rattle.amqp_pair.proofs.laws.the_pair_is_served.Goals as goal

pub returns : goal.returns
returns c = pair_law c.each_turn_keeps_the_pair.ensures c.the_message_level_is_sound.ensures.begin
