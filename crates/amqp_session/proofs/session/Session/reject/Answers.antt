use Rattle.std.proofs.Common.{sym, ap, ◌∙◌, Option, Some}
use Rattle.std.specs.Prelude.{unwrap_or}
use Rattle.amqp_perform.specs.declared.outcome.Outcome.TheVariants as outcome
use Rattle.amqp_reason.specs.Reasons.{reason_of}
use Rattle.amqp_session.specs.declared.fault.CallFault.{CallFault}
use Rattle.amqp_session.specs.declared.fault.CallFault.TheVariants as refused
use Rattle.amqp_session.specs.Calls.{range_fault}
use Rattle.amqp_session.proofs.Reasoned.{bad_fault}
use Rattle.amqp_session.proofs.session.Session.reject.Goals as goal

pub returns-then-not-is_valid-clause-refused : goal.returns-then-not-is_valid-clause-refused
returns-then-not-is_valid-clause-refused g c =
    bad_fault (range_fault c.args.first c.args.last c.args.self.now) (reason_of c.args.reason.now) (sym c.is_valid.ensures ∙ c.if-not-is_valid.true)
    ∙ ap (λ (o : Option CallFault). Some (unwrap_or o refused.BadError)) (sym (c.settle_range_fault-fault.ensures outcome.Accepted))
    ∙ ap (λ (fault : CallFault). Some fault) (sym c.unwrap_or.ensures)
