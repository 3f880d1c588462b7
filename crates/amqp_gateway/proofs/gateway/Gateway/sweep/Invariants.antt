use Rattle.amqp_gateway.specs.Gateways.{IsGoneOn}
use Rattle.amqp_gateway.specs.HubCalls.{Went, tells}
use Rattle.amqp_gateway.proofs.gateway.Gateway.sweep.Given as goal

abbrev pub invariant-loop-at : goal.invariant-loop-at
invariant-loop-at g l = record { gone_on : IsGoneOn l.fn.self l.self; ran : Went g.K.Keeper tells l.fn.self.hub l.self.hub }
