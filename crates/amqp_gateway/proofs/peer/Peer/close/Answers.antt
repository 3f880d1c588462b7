use Rattle.std.proofs.Common.{refl, subst, sym}
use Rattle.amqp_gateway.specs.HubCalls.{Went, tells}
use Rattle.amqp_gateway.proofs.HubRuns.{went_none, closes}
use Rattle.amqp_gateway.proofs.peer.Peer.close.Goals as goal
use Rattle.amqp_gateway.proofs.peer.Peer.close.Goals.{in_default-via-in-None-1, in_default-via-in-Some+else-is_ok}

pub returns-then-is_ok-clause-ran : goal.returns-then-is_ok-clause-ran
returns-then-is_ok-clause-ran g c = closes g.K.Keeper tells c.args.hub.now c.close.new.self c.close.ensures.limit c.close.ensures.keeper c.in-Some.key c.close.result refl refl c.close.ensures.closed c.close.ensures.refused

pub returns-in_default-clause-ran : goal.returns-in_default-clause-ran
returns-in_default-clause-ran g c = elim c.in_default.branch [
  | in_default-via-in-None-1 w ↦ subst (λ h. Went g.K.Keeper tells c.args.hub.now h) (sym w.hub-is) (went_none g.K.Keeper tells c.args.hub.now)
  | in_default-via-in-Some+else-is_ok w ↦ subst (λ h. Went g.K.Keeper tells c.args.hub.now h) (sym w.hub-is)
      (closes g.K.Keeper tells c.args.hub.now w.close.new.self w.close.ensures.limit w.close.ensures.keeper w.in-Some.key w.close.result refl refl w.close.ensures.closed w.close.ensures.refused)
]
