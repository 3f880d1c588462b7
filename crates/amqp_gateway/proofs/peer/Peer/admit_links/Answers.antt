use Rattle.std.proofs.Common.{◌∙◌}
use Rattle.amqp_gateway.specs.HubCalls.{takes}
use Rattle.amqp_gateway.proofs.HubRuns.{went_on}
use Rattle.amqp_gateway.proofs.peer.Peer.admit_links.Goals as goal

pub loop-preserved : goal.loop-preserved
loop-preserved g c = record {
  accepted = c.admit_link.ensures.accepted ∙ c.loop.invariant.accepted;
  ran = went_on g.K.Keeper takes c.args.desk.now.hub c.loop.desk.hub c.admit_link.new.desk.hub c.loop.invariant.ran c.admit_link.ensures.ran;
}

pub returns-then-not-admit_link-clause-ran : goal.returns-then-not-admit_link-clause-ran
returns-then-not-admit_link-clause-ran g c =
    went_on g.K.Keeper takes c.args.desk.now.hub c.loop.desk.hub c.admit_link.new.desk.hub c.loop.invariant.ran c.admit_link.ensures.ran
