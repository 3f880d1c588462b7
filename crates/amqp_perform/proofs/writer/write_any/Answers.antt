use Rattle.std.proofs.Common.{refl}
use Rattle.amqp_perform.proofs.Framed.{same_list, same_performative}
use Rattle.amqp_perform.proofs.writer.write_any.Goals as goal

pub returns-in-Open : goal.returns-in-Open
returns-in-Open c = same_list c.args.channel _ c.args.performative.now _ _ c.args.payload.now _ _ _ c.descriptor.ensures c.in-Open.is refl c.write_open.ensures

pub returns-in-Begin : goal.returns-in-Begin
returns-in-Begin c = same_list c.args.channel _ c.args.performative.now _ _ c.args.payload.now _ _ _ c.descriptor.ensures c.in-Begin.is refl c.write_begin.ensures

pub returns-in-Attach : goal.returns-in-Attach
returns-in-Attach c = same_list c.args.channel _ c.args.performative.now _ _ c.args.payload.now _ _ _ c.descriptor.ensures c.in-Attach.is refl c.write_attach.ensures

pub returns-in-Flow : goal.returns-in-Flow
returns-in-Flow c = same_performative c.args.channel _ _ c.args.payload.now _ _ _ c.in-Flow.is c.write_flow.ensures

pub returns-in-Transfer : goal.returns-in-Transfer
returns-in-Transfer c = same_list c.args.channel _ c.args.performative.now _ _ c.args.payload.now _ _ _ c.descriptor.ensures c.in-Transfer.is refl c.write_transfer.ensures

pub returns-in-Detach : goal.returns-in-Detach
returns-in-Detach c = same_list c.args.channel _ c.args.performative.now _ _ c.args.payload.now _ _ _ c.descriptor.ensures c.in-Detach.is refl c.write_detach.ensures

pub returns-in-End : goal.returns-in-End
returns-in-End c = same_list c.args.channel _ c.args.performative.now _ _ c.args.payload.now _ _ _ c.descriptor.ensures c.in-End.is refl c.write_end.ensures

pub returns-in-Close : goal.returns-in-Close
returns-in-Close c = same_list c.args.channel _ c.args.performative.now _ _ c.args.payload.now _ _ _ c.descriptor.ensures c.in-Close.is refl c.write_close.ensures
