use Rattle.std.proofs.Common.{arith, ap, subst, sym, ◌∙◌}
use Rattle.amqp_session.specs.Indexes.{answered}
use Rattle.amqp_session.specs.Sessions.{SessionState}
use Rattle.amqp_session.specs.Surveys.{AreReady}
use Rattle.amqp_session.proofs.RangeSteps.{wrap_answered, wrap_ready}
use Rattle.amqp_session.proofs.ranges.settle_ids.Goals as goal

pub settle_each-requires-2-clause-ready : goal.settle_each-requires-2-clause-ready
settle_each-requires-2-clause-ready g c = (wrap_ready c.args.first c.args.last (omega (arith, c.if-first-last.false)) c.ranges.first.fits c.requires.ahead c.args.state.now c.requires.known.apart c.requires.ready).0

pub settle_each-requires-3-clause-ready : goal.settle_each-requires-3-clause-ready
settle_each-requires-3-clause-ready g c =
    subst (λ (t : SessionState). AreReady 0 c.args.last t.links) (sym c.settle_each-2.ensures.new) (wrap_ready c.args.first c.args.last (omega (arith, c.if-first-last.false)) c.ranges.first.fits c.requires.ahead c.args.state.now c.requires.known.apart c.requires.ready).1

pub returns-clause-new : goal.returns-clause-new
returns-clause-new g c =
    c.settle_each-3.ensures.new ∙ ap (λ (u : SessionState). answered 0 c.args.last u) c.settle_each-2.ensures.new
    ∙ wrap_answered c.args.first c.args.last (omega (arith, c.if-first-last.false)) c.ranges.first.fits c.requires.ahead c.args.state.now c.requires.known.apart
