use Rattle.amqp_gateway.specs.HubCalls.{takes}
use Rattle.amqp_gateway.proofs.HubRuns.{went_on, makes_room}
use Rattle.amqp_gateway.proofs.HubTurns.{hub_of, went_from}
use Rattle.amqp_gateway.proofs.gateway.Gateway.look_at_room.Goals as goal

pub returns-then-grants-self-clause-ran : goal.returns-then-grants-self-clause-ran
returns-then-grants-self-clause-ran g c =
    let hub = c.self.inside.desk.hub in
    let new = c.make_room.new.self in
    let m = c.make_room.ensures in
    went_from g.K.Keeper takes c.args.self.now.hub hub new (hub_of _ c.args.self.now c.self.view_is) (makes_room g.K.Keeper c.make_room.result hub new m.limit m.members m.makes_room)

pub returns-clause-ran : goal.returns-clause-ran
returns-clause-ran g c =
    let hub = c.self.inside.desk.hub in
    let next = c.make_room.new.self in
    let new = c.follow_all.new.self.hub in
    let m = c.make_room.ensures in
    went_from g.K.Keeper takes c.args.self.now.hub hub new (hub_of _ c.args.self.now c.self.view_is)
    (went_on g.K.Keeper takes hub next new (makes_room g.K.Keeper c.make_room.result hub next m.limit m.members m.makes_room) c.follow_all.ensures.ran)
