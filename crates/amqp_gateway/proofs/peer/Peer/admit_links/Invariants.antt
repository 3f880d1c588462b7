use Rattle.std.proofs.Common.{◌≡◌}
use Rattle.amqp_gateway.specs.HubCalls.{Went, takes}
use Rattle.amqp_gateway.proofs.peer.Peer.admit_links.Given as goal

abbrev pub invariant-loop : goal.invariant-loop
invariant-loop g l = record {
  accepted : l.desk.counts.accepted ≡ l.fn.desk.counts.accepted;
  ran : Went g.K.Keeper takes l.fn.desk.hub l.desk.hub;
}
