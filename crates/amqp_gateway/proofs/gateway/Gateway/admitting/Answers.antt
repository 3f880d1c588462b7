use Rattle.std.proofs.Common.{ap, refl, count_by, is_some}
use Rattle.amqp_gateway.proofs.gateway.Gateway.admitting.Goals as goal

pub returns : goal.returns
returns g c = record {
  settings = refl;
  none = ap (λ l. count_by is_some l) c.new-2.ensures.empty;
  stopped = refl;
  accepted = refl;
  keeper = c.new-3.ensures.keeper;
}
