use Rattle.amqp_pair.proofs.Worlds.{turn_kept, begins, world_law}
use Rattle.amqp_pair.proofs.laws.the_message_level_is_sound.Goals as goal

pub returns-clause-step : goal.returns-clause-step
returns-clause-step c = turn_kept

pub returns-clause-begin : goal.returns-clause-begin
returns-clause-begin c = begins

pub returns-clause-all : goal.returns-clause-all
returns-clause-all c = world_law
