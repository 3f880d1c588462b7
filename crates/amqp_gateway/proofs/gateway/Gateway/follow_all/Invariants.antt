use Rattle.std.proofs.Common.{◌≡◌}
use Rattle.amqp_gateway.specs.Gateways.{IsGoneOn}
use Rattle.amqp_gateway.specs.HubCalls.{Went, takes}
use Rattle.amqp_gateway.proofs.gateway.Gateway.follow_all.Given as goal

abbrev pub invariant-loop-at : goal.invariant-loop-at
invariant-loop-at g l = record { gone_on : IsGoneOn l.fn.self l.self; outlet : l.self.hub.keeper ≡ l.fn.self.hub.keeper; ran : Went g.K.Keeper takes l.fn.self.hub l.self.hub }
