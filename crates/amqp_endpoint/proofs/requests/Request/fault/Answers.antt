use Rattle.std.proofs.Common.{sym, ap, ◌∙◌}
use Rattle.amqp_session.specs.Calls.{call_fault}
use Rattle.amqp_endpoint.specs.declared.requests.Request.{Request}
use Rattle.amqp_endpoint.specs.Asking.{asked_of}
use Rattle.amqp_endpoint.proofs.requests.Request.fault.Goals as goal

pub returns-in-Settle : goal.returns-in-Settle
returns-in-Settle g c = c.settle_range_fault.ensures c.in-Settle.outcome ∙ sym (ap (λ (r : Request). call_fault c.args.session.now (asked_of r)) c.in-Settle.is)
