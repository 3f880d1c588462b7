use Rattle.std.proofs.Common.{◌≡◌}
use Rattle.amqp_gateway.specs.Gateways.{IsGoneOn}
use Rattle.amqp_gateway.specs.HubCalls.{Went, tells}
use Rattle.amqp_gateway.proofs.gateway.Gateway.send_all.Given as goal

abbrev pub invariant-loop-place : goal.invariant-loop-place
invariant-loop-place g l = record { gone_on : IsGoneOn l.fn.self l.self; outlet : l.self.hub.keeper ≡ l.fn.self.hub.keeper; ran : Went g.K.Keeper tells l.fn.self.hub l.self.hub }
