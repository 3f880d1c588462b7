use Rattle.amqp_gateway.specs.HubCalls.{takes}
use Rattle.amqp_gateway.proofs.HubRuns.{went_on}
use Rattle.amqp_gateway.proofs.HubTurns.{gone_then}
use Rattle.amqp_gateway.proofs.gateway.Gateway.hear_all.Goals as goal

pub loop-place-preserved : goal.loop-place-preserved
loop-place-preserved g c =
    let old = c.args.self.now in
    let at = c.loop-place.self in
    let heard = c.hear.new.self in
    let new = c.look_at_room.new.self in
    record {
      gone_on = gone_then old heard new (gone_then old at heard c.loop-place.invariant.gone_on c.hear.ensures.gone_on) c.look_at_room.ensures.gone_on;
      ran = went_on g.K.Keeper takes old.hub heard.hub new.hub (went_on g.K.Keeper takes old.hub at.hub heard.hub c.loop-place.invariant.ran c.hear.ensures.ran) c.look_at_room.ensures.ran;
    }

pub returns-in_err-look_at_room-clause-ran : goal.returns-in_err-look_at_room-clause-ran
returns-in_err-look_at_room-clause-ran g c =
    let old = c.args.self.now.hub in
    let heard = c.hear.new.self.hub in
    went_on g.K.Keeper takes old heard c.look_at_room.new.self.hub (went_on g.K.Keeper takes old c.loop-place.self.hub heard c.loop-place.invariant.ran c.hear.ensures.ran) c.look_at_room.ensures.ran

pub returns-then-self-clause-ran : goal.returns-then-self-clause-ran
returns-then-self-clause-ran g c =
    let old = c.args.self.now.hub in
    let heard = c.hear.new.self.hub in
    went_on g.K.Keeper takes old heard c.look_at_room.new.self.hub (went_on g.K.Keeper takes old c.loop-place.self.hub heard c.loop-place.invariant.ran c.hear.ensures.ran) c.look_at_room.ensures.ran
