use Rattle.std.proofs.Common.{refl}
use Rattle.amqp_gateway.specs.HubCalls.{takes}
use Rattle.amqp_gateway.proofs.HubRuns.{went_on, opens, removes}
use Rattle.amqp_gateway.proofs.HubTurns.{hub_of, went_from}
use Rattle.amqp_gateway.proofs.gateway.Gateway.place.Goals as goal

pub returns-in_default-open-clause-ran : goal.returns-in_default-open-clause-ran
returns-in_default-open-clause-ran g c =
    let hub = c.self.inside.desk.hub in
    let new = c.open.new.self in
    let e = c.open.ensures in
    went_from g.K.Keeper takes c.args.self.now.hub hub new (hub_of _ c.args.self.now c.self.view_is)
    (opens g.K.Keeper takes hub new e.limit e.keeper c.rule_of_now-rule.result c.in-Ok-copy.config c.args.number c.open.result (λ key. refl) refl e.opened e.refused)

pub returns-in_default-insert-clause-ran : goal.returns-in_default-insert-clause-ran
returns-in_default-insert-clause-ran g c =
    let hub = c.self.inside.desk.hub in
    let next = c.open.new.self in
    let new = c.remove.new.self in
    let e = c.open.ensures in
    let f = c.remove.ensures in
    went_from g.K.Keeper takes c.args.self.now.hub hub new (hub_of _ c.args.self.now c.self.view_is)
    (went_on g.K.Keeper takes hub next new (opens g.K.Keeper takes hub next e.limit e.keeper c.rule_of_now-rule.result c.in-Ok-copy.config c.args.number c.open.result (λ key. refl) refl e.opened e.refused)
    (removes g.K.Keeper takes next new f.limit f.keeper c.in-Ok-open.key c.remove.result refl refl f.gone f.refused))

pub returns-then-is_err-clause-ran : goal.returns-then-is_err-clause-ran
returns-then-is_err-clause-ran g c =
    let hub = c.self.inside.desk.hub in
    let next = c.open.new.self in
    let new = c.remove-then-is_err.new.self in
    let e = c.open.ensures in
    let f = c.remove-then-is_err.ensures in
    went_from g.K.Keeper takes c.args.self.now.hub hub new (hub_of _ c.args.self.now c.self.view_is)
    (went_on g.K.Keeper takes hub next new (opens g.K.Keeper takes hub next e.limit e.keeper c.rule_of_now-rule.result c.in-Ok-copy.config c.args.number c.open.result (λ key. refl) refl e.opened e.refused)
    (removes g.K.Keeper takes next new f.limit f.keeper c.in-Ok-open.key c.remove-then-is_err.result refl refl f.gone f.refused))

pub returns-else-is_err-clause-ran : goal.returns-else-is_err-clause-ran
returns-else-is_err-clause-ran g c =
    let hub = c.self.inside.desk.hub in
    let new = c.open.new.self in
    let e = c.open.ensures in
    went_from g.K.Keeper takes c.args.self.now.hub hub new (hub_of _ c.args.self.now c.self.view_is)
    (opens g.K.Keeper takes hub new e.limit e.keeper c.rule_of_now-rule.result c.in-Ok-copy.config c.args.number c.open.result (λ key. refl) refl e.opened e.refused)
