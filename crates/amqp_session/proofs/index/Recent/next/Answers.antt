use Rattle.std.proofs.Common.{sym, subst, ◌∙◌}
use Rattle.amqp_session.specs.Recents.{IsRising}
use Rattle.amqp_session.proofs.Recents.{none_here, none_left, none_behind, next_here, from_next}
use Rattle.amqp_session.proofs.index.Recent.next.Goals as goal

pub returns-then-last-begun : goal.returns-then-last-begun
returns-then-last-begun g c = none_left c.args.self.now (subst IsRising c.self.view_is c.self.invariant) c.args.from c.args.last c.loop-begun.place c.in-Some.begun (sym c.in-Some.ensures) c.if-last-begun.true c.loop-begun.invariant.1

pub returns-in-Some-kept : goal.returns-in-Some-kept
returns-in-Some-kept g c = next_here c.args.self.now (subst IsRising c.self.view_is c.self.invariant) c.args.from c.args.last c.loop-begun.place c.in-Some.begun c.in-Some-kept.kept (sym c.in-Some.ensures) c.in-Some-kept.is c.if-last-begun.false c.loop-begun.invariant.0 c.loop-begun.invariant.1

pub loop-begun-preserved : goal.loop-begun-preserved
loop-begun-preserved g c = (from_next c.args.from c.loop-begun.place c.args.self.now c.loop-begun.invariant.0, none_here c.args.from c.loop-begun.place c.args.self.now c.in-Some.begun c.loop-begun.invariant.1 (sym c.in-Some.ensures) c.in_default-kept.is)

pub returns : goal.returns
returns g c = λ q l m. none_behind c.args.self.now c.args.from c.loop-begun.place (sym c.begun_at.ensures ∙ c.in_default.is) c.loop-begun.invariant.1 q l
