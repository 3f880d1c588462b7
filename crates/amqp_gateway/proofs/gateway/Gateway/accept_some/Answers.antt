use Rattle.std.proofs.Common.{◌≡◌, ◌∙◌}
use Rattle.amqp_gateway.specs.HubCalls.{takes}
use Rattle.amqp_gateway.proofs.HubRuns.{went_on}
use Rattle.amqp_gateway.proofs.HubTurns.{turned_then}
use Rattle.amqp_gateway.proofs.gateway.Gateway.accept_some.Goals as goal
use Rattle.amqp_gateway.proofs.gateway.Gateway.accept_some.Goals.{in-Ok+in_ok-open_one-in-Ok, in-Err, in-Err-2, in-Err-3}

pub returns-in_err-open_one-in-Ok-clause-ran : goal.returns-in_err-open_one-in-Ok-clause-ran
returns-in_err-open_one-in-Ok-clause-ran g c = went_on g.K.Keeper takes c.args.self.now.hub c.loop.self.hub c.open_one.new.self.hub c.loop.invariant.ran c.open_one.ensures.ran

pub loop-preserved : goal.loop-preserved
loop-preserved g c =
    let old = c.args.self.now in
    let at = c.loop.self in
    let so_far = c.loop.invariant in
    elim c.match-accept.branch [
      | in-Ok+in_ok-open_one-in-Ok w ↦
          let next = w.open_one.new.self in
          rw w.self-is (record {
            turned = turned_then old at next so_far.turned w.open_one.ensures.turned;
            outlet = w.open_one.ensures.outlet ∙ so_far.outlet;
            ran = went_on g.K.Keeper takes old.hub at.hub next.hub so_far.ran w.open_one.ensures.ran;
          })
      | in-Err w ↦ let same : c.match-accept.self ≡ at = cc (w.self-is, c.self.view_is) in rw same so_far
      | in-Err-2 w ↦ let same : c.match-accept.self ≡ at = cc (w.self-is, c.self.view_is) in rw same so_far
      | in-Err-3 w ↦ let same : c.match-accept.self ≡ at = cc (w.self-is, c.self.view_is) in rw same so_far
    ]
