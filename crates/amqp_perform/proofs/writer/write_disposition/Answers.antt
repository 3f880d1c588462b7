use Rattle.amqp_perform.proofs.Framed.{same_texts}
use Rattle.amqp_perform.proofs.writer.write_disposition.Goals as goal

pub returns : goal.returns
returns c = same_texts c.args.channel _ _ _ c.args.payload.now _ _ _ c.disposition_texts.ensures c.write_list.ensures
