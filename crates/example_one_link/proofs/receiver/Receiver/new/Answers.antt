use Rattle.std.proofs.Common.{arith, ap, sym, subst}
use Rattle.amqp_endpoint.specs.Configs.{Configured}
use Rattle.amqp_endpoint.specs.Connections.{ConnectionState}
use Rattle.amqp_endpoint.specs.Uses.{IsUsed}
use Rattle.example_one_link.proofs.receiver.Receiver.new.Goals as goal

pub invariant_of-result : goal.invariant_of-result
invariant_of-result g c =
    let s = c.in_ok-endpoint.endpoint in
    let same = ap (λ (x : ConnectionState). x.config) c.in_ok-endpoint.ensures.connection in
    record {
      used = subst (λ (k : Configured). IsUsed k 0 0 0 0 s) (sym same) (c.uses_are_counted.ensures.begins c.args.config s 0 0 c.is_within.ensures c.in_ok-endpoint.ensures);
      most = omega arith;
    }
