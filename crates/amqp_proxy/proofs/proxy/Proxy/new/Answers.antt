use Rattle.std.proofs.Common.{ap, ◌∙◌}
use Rattle.amqp_proxy.specs.Headers.{progress_of}
use Rattle.amqp_proxy.proofs.Steps.{nothing_short}
use Rattle.amqp_proxy.proofs.proxy.Proxy.new.Goals as goal

pub invariant_of-result : goal.invariant_of-result
invariant_of-result c = ap progress_of c.new.ensures ∙ nothing_short
