use Rattle.std.proofs.Common.{[], subst}
use Rattle.amqp_perform.specs.Frames.{IsWritten}
use Rattle.amqp_perform.specs.Said.{Said, said_frame}
use Rattle.amqp_perform.proofs.writer.write_any_link_flow.Goals as goal

pub returns : goal.returns
returns c = subst (λ (s : Said). IsWritten (said_frame c.args.channel s []) c.write_flow.result c.args.out.now c.write_flow.new.out) c.flow.ensures c.write_flow.ensures
