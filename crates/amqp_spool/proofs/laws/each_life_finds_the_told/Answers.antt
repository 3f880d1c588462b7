use Rattle.amqp_spool.proofs.Lives.{finds_the_told}
use Rattle.amqp_spool.proofs.laws.each_life_finds_the_told.Goals as goal

pub returns : goal.returns
returns c = finds_the_told
