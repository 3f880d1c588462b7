use Rattle.std.proofs.Common.{◌≡◌}
use Rattle.amqp_gateway.specs.HubCalls.{Went, tells}
use Rattle.amqp_gateway.proofs.peer.Peer.send.Given as goal

abbrev pub invariant-loop : goal.invariant-loop
invariant-loop g l = record { keeper : l.hub.keeper ≡ l.fn.hub.keeper; ran : Went g.K.Keeper tells l.fn.hub l.hub }
