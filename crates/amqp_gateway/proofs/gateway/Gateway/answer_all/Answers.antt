use Rattle.std.proofs.Common.{subst}
use Rattle.amqp_gateway.specs.HubCalls.{HasAnswered, tells}
use Rattle.amqp_gateway.proofs.HubRuns.{went_none}
use Rattle.amqp_gateway.proofs.HubTurns.{hub_of, answered}
use Rattle.amqp_gateway.proofs.gateway.Gateway.answer_all.Goals as goal

pub returns-in-Out-clause-ran : goal.returns-in-Out-clause-ran
returns-in-Out-clause-ran g c =
    let e = c.settle-progress.ensures in
    let new = c.send_all.new.self.hub in
    subst (λ h. HasAnswered g.K.Keeper h new) (hub_of _ c.args.self.now c.self.view_is)
    (answered g.K.Keeper c.settle-progress.result c.self.inside.desk.hub c.settle-progress.new.self new e.limit e.members e.settles c.send_all.ensures.ran)

pub returns-in-Stuck-clause-ran : goal.returns-in-Stuck-clause-ran
returns-in-Stuck-clause-ran g c =
    let e = c.settle-progress.ensures in
    let new = c.settle-progress.new.self in
    subst (λ h. HasAnswered g.K.Keeper h new) (hub_of _ c.args.self.now c.self.view_is) (answered g.K.Keeper c.settle-progress.result c.self.inside.desk.hub new new e.limit e.members e.settles (went_none g.K.Keeper tells new))

pub returns-in-Failed-clause-ran : goal.returns-in-Failed-clause-ran
returns-in-Failed-clause-ran g c =
    let e = c.settle-progress.ensures in
    let new = c.end_all.new.self.hub in
    subst (λ h. HasAnswered g.K.Keeper h new) (hub_of _ c.args.self.now c.self.view_is)
    (answered g.K.Keeper c.settle-progress.result c.self.inside.desk.hub c.settle-progress.new.self new e.limit e.members e.settles c.end_all.ensures.ran)
