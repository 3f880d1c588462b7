use Rattle.std.proofs.Common.{subst}
use Rattle.amqp_serve.specs.declared.supplies.Look.{Look}
use Rattle.amqp_serve.specs.Deeds.{ends}
use Rattle.amqp_serve.specs.Supplied.{IsSuppliedBut}
use Rattle.amqp_serve.proofs.Deeds.{went_silent}
use Rattle.amqp_serve.proofs.OneLink.{all_passed}
use Rattle.amqp_serve.proofs.supplies.top_up.Goals as goal

pub returns-in-Nothing-clause-went : goal.returns-in-Nothing-clause-went
returns-in-Nothing-clause-went g c =
    let but = subst (λ (l : Look). IsSuppliedBut l c.args.rule.now c.args.endpoint.now.connection) c.in-Nothing.is c.requires.but in
    went_silent c.args.rule.now _ _ c.args.endpoint.now (ends g.W.Write.contents g.S.Write.contents c.args.writer.now c.args.sink.now)
    (all_passed c.args.rule.now c.args.endpoint.now (λ x listed. but x listed tt)) c.requires.ends
