use Rattle.amqp_gateway.specs.HubCalls.{tells}
use Rattle.amqp_gateway.proofs.HubRuns.{went_on}
use Rattle.amqp_gateway.proofs.HubTurns.{hub_of, went_from}
use Rattle.amqp_gateway.proofs.gateway.Gateway.end_one.Goals as goal

pub returns-clause-ran : goal.returns-clause-ran
returns-clause-ran g c =
    let hub = c.self.inside.desk.hub in
    let new = c.remove-2.new.self.hub in
    went_from g.K.Keeper tells c.args.self.now.hub hub new (hub_of _ c.args.self.now c.self.view_is)
    (went_on g.K.Keeper tells hub c.close.new.hub new c.close.ensures.ran (went_on g.K.Keeper tells c.close.new.hub c.send.new.hub new c.send.ensures.ran c.remove-2.ensures.ran))
