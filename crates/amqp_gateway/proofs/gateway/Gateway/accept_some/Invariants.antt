use Rattle.std.proofs.Common.{◌≡◌}
use Rattle.amqp_gateway.specs.Gateways.{IsTurned}
use Rattle.amqp_gateway.specs.HubCalls.{Went, takes}
use Rattle.amqp_gateway.proofs.gateway.Gateway.accept_some.Given as goal

abbrev pub invariant-loop : goal.invariant-loop
invariant-loop g l = record { turned : IsTurned l.fn.self l.self; outlet : l.self.hub.keeper ≡ l.fn.self.hub.keeper; ran : Went g.K.Keeper takes l.fn.self.hub l.self.hub }
