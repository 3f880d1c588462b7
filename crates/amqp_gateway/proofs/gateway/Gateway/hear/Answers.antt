use Rattle.amqp_gateway.specs.HubCalls.{takes}
use Rattle.amqp_gateway.proofs.HubRuns.{went_on}
use Rattle.amqp_gateway.proofs.HubTurns.{hub_of, went_from}
use Rattle.amqp_gateway.proofs.gateway.Gateway.hear.Goals as goal

pub returns-in-Bytes-clause-ran : goal.returns-in-Bytes-clause-ran
returns-in-Bytes-clause-ran g c =
    let hub = c.self.inside.desk.hub in
    let new = c.hear.new.desk.hub in
    went_from g.K.Keeper takes c.args.self.now.hub hub new (hub_of _ c.args.self.now c.self.view_is) (went_on g.K.Keeper takes hub c.hear_again.new.desk.hub new c.hear_again.ensures.ran c.hear.ensures.ran)

pub returns-in-End-clause-ran : goal.returns-in-End-clause-ran
returns-in-End-clause-ran g c =
    let hub = c.self.inside.desk.hub in
    let new = c.finish.new.hub in
    went_from g.K.Keeper takes c.args.self.now.hub hub new (hub_of _ c.args.self.now c.self.view_is) (went_on g.K.Keeper takes hub c.hear_again.new.desk.hub new c.hear_again.ensures.ran c.finish.ensures.ran)
