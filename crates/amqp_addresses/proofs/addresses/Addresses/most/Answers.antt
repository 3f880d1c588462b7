-- amqp_addresses/proofs/addresses/Addresses/most/Answers.antt
use Rattle.std.proofs.Common.{Some, None}
use Rattle.amqp_addresses.proofs.Nearest.{line_is}
use Rattle.amqp_addresses.proofs.addresses.Addresses.most.Goals as goal

pub returns-in-Some : goal.returns-in-Some
returns-in-Some c = (c.in-Some.entry.now, line_is c.args.address.now c.args.self.now (Some c.in-Some.entry.now) c.in-Some.ensures, c.credit.ensures)

pub returns-in-None : goal.returns-in-None
returns-in-None c = line_is c.args.address.now c.args.self.now None c.in-None.ensures
