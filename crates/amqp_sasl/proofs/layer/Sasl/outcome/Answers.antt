use Rattle.std.proofs.Common.{sym, subst}
use Rattle.amqp_sasl.specs.declared.layer.Outcome.{Outcome}
use Rattle.amqp_sasl.specs.Exchanges.{SaslState, Says}
use Rattle.amqp_sasl.proofs.Steps.{says, state}
use Rattle.amqp_sasl.proofs.layer.Sasl.outcome.Goals as goal

pub returns-clause-says : goal.returns-clause-says
returns-clause-says c =
    let s = c.self.inside in
    subst (λ (x : SaslState). Says c.outcome_of.result x) c.self.view_is
    (subst (λ (o : Outcome). Says o (state s.offer s.stage s.kept.init s.kept.rest s.unsent)) (sym c.outcome_of.ensures)
    (says s.stage s.offer s.kept.init s.kept.rest s.unsent c.self.invariant))
