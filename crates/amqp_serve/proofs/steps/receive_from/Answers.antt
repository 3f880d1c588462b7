use Rattle.amqp_serve.specs.declared.steps.Receipt.TheVariants as receipt
use Rattle.amqp_serve.specs.Deeds.{ends}
use Rattle.amqp_serve.proofs.Noting.{refused_noted}
use Rattle.amqp_serve.proofs.ServingMessages.{take_refused}
use Rattle.amqp_serve.proofs.Settles.{refused_only}
use Rattle.amqp_serve.proofs.steps.receive_from.Goals as goal

pub returns-in-Ok-clause-only : goal.returns-in-Ok-clause-only
returns-in-Ok-clause-only g c = c.record_and_settle.ensures.only c.args.endpoint.now c.in-Ok.ensures

pub returns-in-Ok-clause-went : goal.returns-in-Ok-clause-went
returns-in-Ok-clause-went g c = c.record_and_settle.ensures.went c.args.endpoint.now c.in-Ok.ensures

pub returns-in-Err-clause-went : goal.returns-in-Err-clause-went
returns-in-Err-clause-went g c = (
  receipt.Refused c.in-Err.fault,
  (λ _. refused_noted c.args.note.now.message c.in-Err.fault),
  take_refused c.args.rule.now c.args.endpoint.now c.take.new.self c.args.channel c.args.handle (ends g.W.Write.contents g.S.Write.contents c.args.writer.now c.args.sink.now) c.in-Err.fault c.in-Err.ensures c.requires.ends,
)

pub returns-in-Err-clause-only : goal.returns-in-Err-clause-only
returns-in-Err-clause-only g c = refused_only c.args.rule.now c.args.endpoint.now c.take.new.self c.args.channel c.args.handle c.in-Err.fault c.in-Err.ensures
