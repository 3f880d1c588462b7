use Rattle.amqp_gateway.specs.HubCalls.{takes}
use Rattle.amqp_gateway.proofs.HubRuns.{went_on}
use Rattle.amqp_gateway.proofs.HubTurns.{hub_of, went_then}
use Rattle.amqp_gateway.proofs.gateway.Gateway.take_all.Goals as goal

pub returns-in_err-accept_some-clause-ran : goal.returns-in_err-accept_some-clause-ran
returns-in_err-accept_some-clause-ran g c =
    went_on g.K.Keeper takes c.args.self.now.hub c.look_at_room.new.self.hub c.accept_some.new.self.hub c.look_at_room.ensures.ran c.accept_some.ensures.ran

pub returns-clause-ran : goal.returns-clause-ran
returns-clause-ran g c =
    let old = c.args.self.now.hub in
    let accepted = c.accept_some.new.self in
    went_then g.K.Keeper takes old accepted.hub c.take_queue-2.new.self.hub c.hear_all.new.self.hub
    (went_on g.K.Keeper takes old c.look_at_room.new.self.hub accepted.hub c.look_at_room.ensures.ran c.accept_some.ensures.ran) (hub_of _ accepted c.take_queue-2.ensures) c.hear_all.ensures.ran
