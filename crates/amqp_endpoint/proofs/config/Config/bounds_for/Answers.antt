use Rattle.std.proofs.Common.{sym, ap, ◌∙◌}
use Rattle.std.specs.Option.{option_map}
use Rattle.amqp_endpoint.specs.Limits.{longest}
use Rattle.amqp_endpoint.proofs.LimitTables.{found_bounded}
use Rattle.amqp_endpoint.proofs.config.Config.bounds_for.Goals as goal

pub bounds-requires : goal.bounds-requires
bounds-requires g c =
    found_bounded c.args.name.now c.self.inside.limits.items c.in-Some.limit.now c.self.invariant.1
    (ap (λ rows. longest c.args.name.now rows) (sym c.deref.ensures.value) ∙ sym c.longest.ensures ∙ ap (λ o. option_map (λ r. r.now) o) c.in-Some.is)
