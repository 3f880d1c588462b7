use Rattle.std.proofs.Common.{arith, ◌+◌, ◌^◌, ◌<◌, ◌∙◌, sym, subst, ℕ, Option}
use Rattle.amqp_link.specs.Links.{IsAwaiting}
use Rattle.amqp_session.specs.declared.index.Kept.{Kept}
use Rattle.amqp_session.specs.Indexes.{IsNext}
use Rattle.amqp_session.proofs.Disposed.{known_from}
use Rattle.amqp_session.proofs.RangeSteps.{left_answered, step_answered, step_ready, step_awaits, last_answered}
use Rattle.amqp_session.proofs.ranges.settle_each.Goals as goal

pub loop-id-preserved : goal.loop-id-preserved
loop-id-preserved g c =
    let few : c.args.last < c.loop-id.from + 2 ^ 31 = omega (arith, c.loop-id.invariant.few, c.loop-id.invariant.start) in
    let known = known_from c.loop-id.index c.loop-id.state c.loop-id.from c.args.last c.loop-id.invariant.small c.loop-id.invariant.known in
    let awaits = step_awaits c.loop-id.index c.loop-id.state c.loop-id.from c.args.last c.loop-id.invariant.order few c.loop-id.invariant.small known
    c.in-Some.id c.in-Some.ensures.0 c.in-Some.ensures.1 c.in-Some.ensures.3 c.in-Some.kept c.loop-id.invariant.known (sym c.in-Some.ensures.2) c.loop-id.invariant.ready in
    let done = c.settle_one.ensures.settled (subst IsAwaiting (sym c.settle_one.ensures.standing) awaits) in
    record {
      start = omega (arith, c.loop-id.invariant.start, c.in-Some.ensures.0);
      order = omega (arith, c.in-Some.ensures.1);
      few = c.loop-id.invariant.few;
      small = c.loop-id.invariant.small;
      known = c.settle_one.ensures.known;
      ready = rw done (step_ready c.loop-id.index c.loop-id.state c.loop-id.from c.args.last c.loop-id.invariant.order few c.loop-id.invariant.small known
          c.in-Some.id c.in-Some.ensures.0 c.in-Some.ensures.1 c.in-Some.ensures.3 c.loop-id.invariant.ready);
      rest = rw done (sym (step_answered c.loop-id.index c.loop-id.state c.loop-id.from c.args.last c.loop-id.invariant.order few c.loop-id.invariant.small known
          c.in-Some.id c.in-Some.ensures.0 c.in-Some.ensures.1 c.in-Some.ensures.3) ∙ c.loop-id.invariant.rest);
    }

pub returns-then-id-last-clause-new : goal.returns-then-id-last-clause-new
returns-then-id-last-clause-new g c =
    let few : c.args.last < c.loop-id.from + 2 ^ 31 = omega (arith, c.loop-id.invariant.few, c.loop-id.invariant.start) in
    let known = known_from c.loop-id.index c.loop-id.state c.loop-id.from c.args.last c.loop-id.invariant.small c.loop-id.invariant.known in
    let awaits = step_awaits c.loop-id.index c.loop-id.state c.loop-id.from c.args.last c.loop-id.invariant.order few c.loop-id.invariant.small known
    c.in-Some.id c.in-Some.ensures.0 c.in-Some.ensures.1 c.in-Some.ensures.3 c.in-Some.kept c.loop-id.invariant.known (sym c.in-Some.ensures.2) c.loop-id.invariant.ready in
    c.settle_one.ensures.settled (subst IsAwaiting (sym c.settle_one.ensures.standing) awaits)
    ∙ sym (last_answered c.loop-id.index c.loop-id.state c.loop-id.from c.args.last c.loop-id.invariant.order few c.loop-id.invariant.small known
    c.in-Some.id c.in-Some.ensures.0 c.in-Some.ensures.1 c.in-Some.ensures.3 (omega arith))
    ∙ c.loop-id.invariant.rest

pub returns-clause-new : goal.returns-clause-new
returns-clause-new g c =
    left_answered c.loop-id.index c.loop-id.state c.loop-id.from c.args.last c.loop-id.invariant.order (omega (arith, c.loop-id.invariant.few, c.loop-id.invariant.start)) c.loop-id.invariant.small
    (known_from c.loop-id.index c.loop-id.state c.loop-id.from c.args.last c.loop-id.invariant.small c.loop-id.invariant.known)
    (subst (λ (o : Option (ℕ × Kept)). IsNext c.loop-id.index c.loop-id.from c.args.last o) c.in_default.is c.next.ensures)
    ∙ c.loop-id.invariant.rest
