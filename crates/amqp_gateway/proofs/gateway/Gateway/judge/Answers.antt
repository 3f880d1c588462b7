use Rattle.std.proofs.Common.{subst, sym}
use Rattle.amqp_gateway.specs.Gateways.{GatewayState}
use Rattle.amqp_gateway.specs.HubCalls.{Went, tells}
use Rattle.amqp_gateway.proofs.HubRuns.{went_on, went_none}
use Rattle.amqp_gateway.proofs.HubTurns.{hub_of, went_from}
use Rattle.amqp_gateway.proofs.gateway.Gateway.judge.Goals as goal
use Rattle.amqp_gateway.proofs.gateway.Gateway.judge.Goals.{then-is_some, else-is_some, else-speaks-via-then-speaks+else-queue, else-speaks-via-else-speaks}

pub returns-in_err-put-clause-ran : goal.returns-in_err-put-clause-ran
returns-in_err-put-clause-ran g c =
    let hub = c.self.inside.desk.hub in
    let next = c.if-is_some.hub in
    let new = c.judge.new.hub in
    let closed : Went g.K.Keeper tells hub next = elim c.if-is_some.branch [ then-is_some w ↦ rw w.hub-is w.close.ensures.ran | else-is_some w ↦ rw w.hub-is (went_none g.K.Keeper tells hub) ] in
    went_from g.K.Keeper tells c.args.self.now.hub hub new (hub_of _ c.args.self.now c.self.view_is) (went_on g.K.Keeper tells hub next new closed c.judge.ensures.ran)

pub returns-in_ok-put-clause-ran : goal.returns-in_ok-put-clause-ran
returns-in_ok-put-clause-ran g c =
    let hub = c.self.inside.desk.hub in
    let next = c.if-is_some.hub in
    let new = c.judge.new.hub in
    let closed : Went g.K.Keeper tells hub next = elim c.if-is_some.branch [ then-is_some w ↦ rw w.hub-is w.close.ensures.ran | else-is_some w ↦ rw w.hub-is (went_none g.K.Keeper tells hub) ] in
    went_from g.K.Keeper tells c.args.self.now.hub hub new (hub_of _ c.args.self.now c.self.view_is) (went_on g.K.Keeper tells hub next new closed c.judge.ensures.ran)

pub returns-else-speaks-clause-ran : goal.returns-else-speaks-clause-ran
returns-else-speaks-clause-ran g c =
    let old = c.args.self.now.hub in
    let hub = c.self.inside.desk.hub in
    let next = c.if-is_some.hub in
    let new = c.judge.new.hub in
    let closed : Went g.K.Keeper tells hub next = elim c.if-is_some.branch [ then-is_some w ↦ rw w.hub-is w.close.ensures.ran | else-is_some w ↦ rw w.hub-is (went_none g.K.Keeper tells hub) ] in
    let ran = went_from g.K.Keeper tells old hub new (hub_of _ c.args.self.now c.self.view_is) (went_on g.K.Keeper tells hub next new closed c.judge.ensures.ran) in
    elim c.else-speaks.branch [
      | else-speaks-via-then-speaks+else-queue w ↦ subst (λ (s : GatewayState _). Went g.K.Keeper tells old s.hub) (sym w.self-is) ran
      | else-speaks-via-else-speaks w ↦ subst (λ (s : GatewayState _). Went g.K.Keeper tells old s.hub) (sym w.self-is) ran
    ]
