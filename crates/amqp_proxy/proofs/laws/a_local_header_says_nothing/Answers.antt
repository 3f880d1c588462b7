use Rattle.amqp_proxy.proofs.Writing.{local}
use Rattle.amqp_proxy.proofs.laws.a_local_header_says_nothing.Goals as goal

pub returns : goal.returns
returns c = λ family body behind short. local family body behind short
