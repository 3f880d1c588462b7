use Rattle.std.proofs.Common.{subst, sym, ◌∙◌}
use Rattle.amqp_gateway.specs.HubCalls.{Went, tells}
use Rattle.amqp_gateway.proofs.HubRuns.{went_on}
use Rattle.amqp_gateway.proofs.peer.Peer.send.Goals as goal
use Rattle.amqp_gateway.proofs.peer.Peer.send.Goals.{else-loop-test, then-loop-test+in-Ok-None}

pub returns-in-Ok-Some-eq0-clause-ran : goal.returns-in-Ok-Some-eq0-clause-ran
returns-in-Ok-Some-eq0-clause-ran g c = went_on g.K.Keeper tells c.args.hub.now c.loop.hub c.write_once.new.hub c.loop.invariant.ran c.write_once.ensures.ran

pub returns-in-Err-2-clause-ran : goal.returns-in-Err-2-clause-ran
returns-in-Err-2-clause-ran g c = went_on g.K.Keeper tells c.args.hub.now c.loop.hub c.write_once.new.hub c.loop.invariant.ran c.write_once.ensures.ran

pub returns-in-Err-3-clause-ran : goal.returns-in-Err-3-clause-ran
returns-in-Err-3-clause-ran g c = went_on g.K.Keeper tells c.args.hub.now c.loop.hub c.write_once.new.hub c.loop.invariant.ran c.write_once.ensures.ran

pub loop-preserved : goal.loop-preserved
loop-preserved g c = record { keeper = c.write_once.ensures.keeper ∙ c.loop.invariant.keeper; ran = went_on g.K.Keeper tells c.args.hub.now c.loop.hub c.write_once.new.hub c.loop.invariant.ran c.write_once.ensures.ran }

pub returns-in-Some-clause-ran : goal.returns-in-Some-clause-ran
returns-in-Some-clause-ran g c = elim c.loop-test.branch [
  | else-loop-test w ↦ subst (λ h. Went g.K.Keeper tells c.args.hub.now h) (sym w.hub-is) c.loop.invariant.ran
  | then-loop-test+in-Ok-None w ↦ subst (λ h. Went g.K.Keeper tells c.args.hub.now h) (sym w.hub-is) (went_on g.K.Keeper tells c.args.hub.now c.loop.hub w.write_once.new.hub c.loop.invariant.ran w.write_once.ensures.ran)
]

pub returns-in-None-clause-ran : goal.returns-in-None-clause-ran
returns-in-None-clause-ran g c = elim c.loop-test.branch [
  | else-loop-test w ↦ subst (λ h. Went g.K.Keeper tells c.args.hub.now h) (sym w.hub-is) c.loop.invariant.ran
  | then-loop-test+in-Ok-None w ↦ subst (λ h. Went g.K.Keeper tells c.args.hub.now h) (sym w.hub-is) (went_on g.K.Keeper tells c.args.hub.now c.loop.hub w.write_once.new.hub c.loop.invariant.ran w.write_once.ensures.ran)
]

pub returns-in-None-2-clause-ran : goal.returns-in-None-2-clause-ran
returns-in-None-2-clause-ran g c = elim c.loop-test.branch [
  | else-loop-test w ↦ subst (λ h. Went g.K.Keeper tells c.args.hub.now h) (sym w.hub-is) c.loop.invariant.ran
  | then-loop-test+in-Ok-None w ↦ subst (λ h. Went g.K.Keeper tells c.args.hub.now h) (sym w.hub-is) (went_on g.K.Keeper tells c.args.hub.now c.loop.hub w.write_once.new.hub c.loop.invariant.ran w.write_once.ensures.ran)
]
