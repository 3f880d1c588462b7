use Rattle.std.proofs.Common.{arith}
use Rattle.amqp_proxy.specs.Writers.{certified}
use Rattle.amqp_proxy.proofs.Writing.{named, four, six}
use Rattle.amqp_proxy.proofs.laws.a_header_gives_the_source_and_the_name.Goals as goal

pub returns-clause-four : goal.returns-clause-four
returns-clause-four c = λ e ts client verify name behind ends short has.
    four e ts (certified client verify name) behind ends short (named ts client verify name (omega (arith, short)) has)

pub returns-clause-six : goal.returns-clause-six
returns-clause-six c = λ e ts client verify name behind ends short has.
    six e ts (certified client verify name) behind ends short (named ts client verify name (omega (arith, short)) has)
