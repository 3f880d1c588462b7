use Rattle.std.proofs.Common.{None, arith}
use Rattle.amqp_proxy.proofs.Writing.{unnamed, four, six}
use Rattle.amqp_proxy.proofs.laws.a_header_without_ssl_gives_no_name.Goals as goal

pub returns-clause-four : goal.returns-clause-four
returns-clause-four c = λ e ts behind ends short none. four e ts None behind ends short (unnamed ts (omega (arith, short)) none)

pub returns-clause-six : goal.returns-clause-six
returns-clause-six c = λ e ts behind ends short none. six e ts None behind ends short (unnamed ts (omega (arith, short)) none)
