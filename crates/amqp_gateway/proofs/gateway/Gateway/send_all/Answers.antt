use Rattle.std.proofs.Common.{◌≡◌, ◌∙◌}
use Rattle.amqp_gateway.specs.HubCalls.{tells}
use Rattle.amqp_gateway.proofs.HubRuns.{went_on}
use Rattle.amqp_gateway.proofs.HubTurns.{gone_then}
use Rattle.amqp_gateway.proofs.gateway.Gateway.send_all.Goals as goal
use Rattle.amqp_gateway.proofs.gateway.Gateway.send_all.Goals.{in-Some+in_ok-send, in_default}

pub returns-in_err-send-clause-ran : goal.returns-in_err-send-clause-ran
returns-in_err-send-clause-ran g c = went_on g.K.Keeper tells c.args.self.now.hub c.loop-place.self.hub c.send.new.self.hub c.loop-place.invariant.ran c.send.ensures.ran

pub loop-place-preserved : goal.loop-place-preserved
loop-place-preserved g c =
    let old = c.args.self.now in
    let at = c.loop-place.self in
    let so_far = c.loop-place.invariant in
    elim c.match-copied.branch [
      | in-Some+in_ok-send w ↦
          let next = w.send.new.self in
          rw w.self-is (record {
            gone_on = gone_then old at next so_far.gone_on w.send.ensures.gone_on;
            outlet = w.send.ensures.outlet ∙ so_far.outlet;
            ran = went_on g.K.Keeper tells old.hub at.hub next.hub so_far.ran w.send.ensures.ran;
          })
      | in_default w ↦ let same : c.match-copied.self ≡ at = cc (w.self-is, c.self-in-loop-place.view_is) in rw same so_far
    ]
