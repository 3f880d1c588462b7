use Rattle.std.proofs.Common.{arith, ap, ◌∙◌}
use Rattle.std.specs.Prelude.{sum_by}
use Rattle.amqp_session.specs.Faults.{slot_settled}
use Rattle.amqp_session.specs.Indexes.{disposed}
use Rattle.amqp_session.specs.Sessions.{SessionState}
use Rattle.amqp_session.proofs.Disposed.{no_ids_done, no_ids_counted, wrap_done, wrap_counted}
use Rattle.amqp_session.proofs.session.settle_ids.Goals as goal

pub returns-then-distance-clause-new : goal.returns-then-distance-clause-new
returns-then-distance-clause-new g c = no_ids_done c.args.first c.args.last c.args.state.now (omega (arith, c.distance.ensures, c.if-distance.true))

pub returns-then-distance-clause-count : goal.returns-then-distance-clause-count
returns-then-distance-clause-count g c = no_ids_counted c.args.first c.args.last c.args.state.now (omega (arith, c.distance.ensures, c.if-distance.true))

pub returns-clause-new : goal.returns-clause-new
returns-clause-new g c =
    c.settle_each-low.ensures.new ∙ ap (λ (u : SessionState). disposed 0 c.args.last u) c.settle_each-high.ensures.new
    ∙ wrap_done c.args.first c.args.last (omega (arith, c.if-first-last.false)) c.ranges.first.fits (omega (arith, c.distance.ensures, c.if-distance.false)) c.args.state.now c.requires.apart

pub returns-clause-count : goal.returns-clause-count
returns-clause-count g c = omega (
  arith,
  c.settle_each-high.ensures.count,
  c.settle_each-low.ensures.count,
  ap (λ (u : SessionState). sum_by (slot_settled 0 c.args.last) u.links) c.settle_each-high.ensures.new,
  wrap_counted c.args.first c.args.last (omega (arith, c.if-first-last.false)) c.ranges.first.fits (omega (arith, c.distance.ensures, c.if-distance.false)) c.args.state.now c.requires.apart,
)
