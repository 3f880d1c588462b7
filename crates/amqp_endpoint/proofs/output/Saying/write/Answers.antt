use Rattle.std.proofs.Common.{[], sym, subst}
use Rattle.amqp_perform.specs.Frames.{IsWritten}
use Rattle.amqp_perform.specs.Said.{said_frame}
use Rattle.amqp_endpoint.specs.declared.output.Saying.{Saying}
use Rattle.amqp_endpoint.specs.Sayings.{said_of}
use Rattle.amqp_endpoint.proofs.output.Saying.write.Goals as goal

pub returns-in-Attached : goal.returns-in-Attached
returns-in-Attached c = subst (λ (x : Saying). IsWritten (said_frame c.args.channel (said_of x) []) c.write_attach_reply.result c.args.out.now c.write_attach_reply.new.out) (sym c.in-Attached.is) c.write_attach_reply.ensures

pub returns-in-Flow : goal.returns-in-Flow
returns-in-Flow c = subst (λ (x : Saying). IsWritten (said_frame c.args.channel (said_of x) []) c.write_flow.result c.args.out.now c.write_flow.new.out) (sym c.in-Flow.is) c.write_flow.ensures

pub returns-in-Credit : goal.returns-in-Credit
returns-in-Credit c = subst (λ (x : Saying). IsWritten (said_frame c.args.channel (said_of x) []) c.write_link_flow.result c.args.out.now c.write_link_flow.new.out) (sym c.in-Credit.is) c.write_link_flow.ensures
