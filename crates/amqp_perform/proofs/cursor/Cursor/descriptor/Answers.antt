use Rattle.std.proofs.Common.{rules}
use Rattle.amqp_perform.proofs.Describing.{no_descriptor, descriptor_is}
use Rattle.amqp_perform.proofs.cursor.Cursor.descriptor.Goals as goal

pub returns-then-branch-ne0 : goal.returns-then-branch-ne0
returns-then-branch-ne0 c = no_descriptor c.args.self.now.bytes.now c.byte.new.self.bytes.now c.in_ok-byte.field-0 c.in_ok-byte.ensures c.if-branch-ne0.true

pub returns-in_ok-octets-in-128 : goal.returns-in_ok-octets-in-128
returns-in_ok-octets-in-128 c = search (rules, descriptor_is)
