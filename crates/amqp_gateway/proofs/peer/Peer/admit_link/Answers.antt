use Rattle.amqp_gateway.specs.HubCalls.{takes}
use Rattle.amqp_gateway.proofs.HubRuns.{went_on, as_takes}
use Rattle.amqp_gateway.proofs.peer.Peer.admit_link.Goals as goal

pub returns-in-Err-NoMemory-clause-ran : goal.returns-in-Err-NoMemory-clause-ran
returns-in-Err-NoMemory-clause-ran g c =
    went_on g.K.Keeper takes c.args.desk.now.hub c.obey-asked.new.hub c.give_up.new.hub c.obey-asked.ensures.ran (as_takes g.K.Keeper c.obey-asked.new.hub c.give_up.new.hub c.give_up.ensures.ran)
