use Rattle.std.proofs.Common.{arith}
use Rattle.std.specs.Prelude.{bytes_eq}
use Rattle.amqp_frame.specs.declared.units.TheConstants.{HEADER}
use Rattle.amqp_endpoint.proofs.Staying.{header_done}
use Rattle.amqp_endpoint.proofs.units.act_on_header.Goals as goal

pub returns-else-ne : goal.returns-else-ne
returns-else-ne g c = header_done c.args.connection.now c.args.out.now c.put_bytes.new.self (bytes_eq c.args.header HEADER) (grind (arith, c.ne.ensures, c.if-ne.false)) c.put_bytes.ensures
