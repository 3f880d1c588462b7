use Rattle.std.proofs.Common.{subst}
use Rattle.amqp_proxy.specs.Streams.{ProxyState, Says}
use Rattle.amqp_proxy.proofs.Steps.{says}
use Rattle.amqp_proxy.proofs.proxy.Proxy.outcome.Goals as goal

pub returns-clause-says : goal.returns-clause-says
returns-clause-says c =
    let s = c.self.inside in
    subst (λ (x : ProxyState). Says s.outcome x) c.self.view_is (says s.outcome s.kept c.self.invariant)
