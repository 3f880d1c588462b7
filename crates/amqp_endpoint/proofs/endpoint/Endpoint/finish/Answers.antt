use Rattle.std.proofs.Common.{sym, subst}
use Rattle.amqp_endpoint.specs.Connections.{ConnectionState}
use Rattle.amqp_endpoint.specs.Endpoints.{IsEndpoint}
use Rattle.amqp_endpoint.specs.Runs.{IsFinished}
use Rattle.amqp_endpoint.specs.Steps.{EndpointState}
use Rattle.amqp_endpoint.proofs.Endpoints.{ended, is_finished, still_sound}
use Rattle.amqp_endpoint.proofs.endpoint.Endpoint.finish.Goals as goal

pub invariant_of-self : goal.invariant_of-self
invariant_of-self g c =
    let over = ended c.self.inside.input c.finish.new.self c.self.invariant.held c.finish.ensures.goes c.finish.ensures.rest in
    subst (λ (s : ConnectionState). IsEndpoint c.finish.new.self c.self.inside.out s) (sym c.finish-2.ensures)
    (still_sound c.self.inside.input c.finish.new.self c.self.inside.out c.self.inside.connection c.self.invariant over c.finish.ensures.held)

pub returns-clause-finished : goal.returns-clause-finished
returns-clause-finished g c =
    let over = ended c.self.inside.input c.finish.new.self c.self.invariant.held c.finish.ensures.goes c.finish.ensures.rest in
    let new : EndpointState = record { input = c.finish.new.self; unsent = c.self.inside.out; connection = c.finish-2.new.self } in
    let old : EndpointState = record { input = c.self.inside.input; unsent = c.self.inside.out; connection = c.self.inside.connection } in
    subst (λ (s : EndpointState). IsFinished s new) c.self.view_is (is_finished old c.finish.new.self c.finish-2.new.self over c.finish-2.ensures)
