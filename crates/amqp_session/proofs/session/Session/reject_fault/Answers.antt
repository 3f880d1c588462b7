use Rattle.std.proofs.Common.{ap, ◌∙◌, Option}
use Rattle.amqp_perform.specs.declared.outcome.Outcome.TheVariants as outcome
use Rattle.amqp_reason.specs.Reasons.{reason_of}
use Rattle.amqp_session.specs.declared.fault.CallFault.{CallFault}
use Rattle.amqp_session.specs.Calls.{reason_fault}
use Rattle.amqp_session.specs.Faults.{or_else}
use Rattle.amqp_session.proofs.session.Session.reject_fault.Goals as goal

pub returns : goal.returns
returns g c = c.or_bad.ensures ∙ ap (λ (o : Option CallFault). or_else o (reason_fault (reason_of c.args.reason.now))) (c.settle_range_fault.ensures outcome.Accepted)
