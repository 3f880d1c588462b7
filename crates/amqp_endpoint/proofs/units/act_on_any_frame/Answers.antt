use Rattle.amqp_endpoint.proofs.Staying.{closing_done, no_body_done}
use Rattle.amqp_endpoint.proofs.units.act_on_any_frame.Goals as goal

pub returns-then-is_closing : goal.returns-then-is_closing
returns-then-is_closing g c =
    closing_done c.args.connection.now c.await_close.new.connection c.args.out.now c.args.out.now c.args.channel c.args.body.now c.await_close.result c.if-is_closing.ensures
    (c.await_close.ensures c.args.out.now)

pub returns-then-is_empty : goal.returns-then-is_empty
returns-then-is_empty g c =
    no_body_done c.args.connection.now c.args.out.now c.args.channel c.args.body.now c.if-is_closing.ensures c.if-is_empty.ensures
