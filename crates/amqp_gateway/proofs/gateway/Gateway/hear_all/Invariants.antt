use Rattle.amqp_gateway.specs.Gateways.{IsGoneOn}
use Rattle.amqp_gateway.specs.HubCalls.{Went, takes}
use Rattle.amqp_gateway.proofs.gateway.Gateway.hear_all.Given as goal

abbrev pub invariant-loop-place : goal.invariant-loop-place
invariant-loop-place g l = record { gone_on : IsGoneOn l.fn.self l.self; ran : Went g.K.Keeper takes l.fn.self.hub l.self.hub }
