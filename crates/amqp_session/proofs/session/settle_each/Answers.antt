use Rattle.std.proofs.Common.{arith, ◌∙◌, sym, subst, ℕ, Option}
use Rattle.amqp_session.specs.declared.index.Kept.{Kept}
use Rattle.amqp_session.specs.Indexes.{IsNext}
use Rattle.amqp_session.proofs.Disposed.{known_from, step_done, step_counted, last_done, last_counted, left_done, left_counted}
use Rattle.amqp_session.proofs.session.settle_each.Goals as goal

pub loop-id-preserved : goal.loop-id-preserved
loop-id-preserved g c = record {
  start = omega (arith, c.loop-id.invariant.start, c.in-Some.ensures.0);
  order = omega (arith, c.in-Some.ensures.1);
  few = c.loop-id.invariant.few;
  small = c.loop-id.invariant.small;
  known = c.settle_one-count.ensures.known;
  rest = rw c.settle_one-count.ensures.new (sym (step_done c.loop-id.index c.loop-id.state c.loop-id.from c.args.last c.loop-id.invariant.order (omega (arith, c.loop-id.invariant.few, c.loop-id.invariant.start)) c.loop-id.invariant.small (known_from c.loop-id.index c.loop-id.state c.loop-id.from c.args.last c.loop-id.invariant.small c.loop-id.invariant.known)
      c.in-Some.id c.in-Some.ensures.0 c.in-Some.ensures.1 c.in-Some.ensures.3) ∙ c.loop-id.invariant.rest);
  count = rw c.settle_one-count.ensures.new (omega (
    arith,
    c.loop-id.invariant.count,
    c.settle_one-count.ensures.count,
    step_counted c.loop-id.index c.loop-id.state c.loop-id.from c.args.last c.loop-id.invariant.order (omega (arith, c.loop-id.invariant.few, c.loop-id.invariant.start)) c.loop-id.invariant.small (known_from c.loop-id.index c.loop-id.state c.loop-id.from c.args.last c.loop-id.invariant.small c.loop-id.invariant.known)
        c.in-Some.id c.in-Some.ensures.0 c.in-Some.ensures.1 c.in-Some.ensures.3,
  ));
  most = omega (arith, c.loop-id.invariant.most, c.settle_one-count.ensures.most, c.in-Some.ensures.0);
}

pub returns-then-id-last-clause-new : goal.returns-then-id-last-clause-new
returns-then-id-last-clause-new g c =
    c.settle_one-count.ensures.new
    ∙ sym (last_done c.loop-id.index c.loop-id.state c.loop-id.from c.args.last c.loop-id.invariant.order (omega (arith, c.loop-id.invariant.few, c.loop-id.invariant.start)) c.loop-id.invariant.small (known_from c.loop-id.index c.loop-id.state c.loop-id.from c.args.last c.loop-id.invariant.small c.loop-id.invariant.known)
    c.in-Some.id c.in-Some.ensures.0 c.in-Some.ensures.1 c.in-Some.ensures.3 (omega arith))
    ∙ c.loop-id.invariant.rest

pub returns-then-id-last-clause-count : goal.returns-then-id-last-clause-count
returns-then-id-last-clause-count g c = omega (
  arith,
  c.loop-id.invariant.count,
  c.settle_one-count.ensures.count,
  last_counted c.loop-id.index c.loop-id.state c.loop-id.from c.args.last c.loop-id.invariant.order (omega (arith, c.loop-id.invariant.few, c.loop-id.invariant.start)) c.loop-id.invariant.small (known_from c.loop-id.index c.loop-id.state c.loop-id.from c.args.last c.loop-id.invariant.small c.loop-id.invariant.known)
      c.in-Some.id c.in-Some.ensures.0 c.in-Some.ensures.1 c.in-Some.ensures.3 (omega arith),
)

pub returns-clause-new : goal.returns-clause-new
returns-clause-new g c =
    left_done c.loop-id.index c.loop-id.state c.loop-id.from c.args.last c.loop-id.invariant.order (omega (arith, c.loop-id.invariant.few, c.loop-id.invariant.start)) c.loop-id.invariant.small (known_from c.loop-id.index c.loop-id.state c.loop-id.from c.args.last c.loop-id.invariant.small c.loop-id.invariant.known)
    (subst (λ (o : Option (ℕ × Kept)). IsNext c.loop-id.index c.loop-id.from c.args.last o) c.in_default.is c.next.ensures)
    ∙ c.loop-id.invariant.rest

pub returns-clause-count : goal.returns-clause-count
returns-clause-count g c = omega (
  arith,
  c.loop-id.invariant.count,
  left_counted c.loop-id.index c.loop-id.state c.loop-id.from c.args.last c.loop-id.invariant.order (omega (arith, c.loop-id.invariant.few, c.loop-id.invariant.start)) c.loop-id.invariant.small (known_from c.loop-id.index c.loop-id.state c.loop-id.from c.args.last c.loop-id.invariant.small c.loop-id.invariant.known)
      (subst (λ (o : Option (ℕ × Kept)). IsNext c.loop-id.index c.loop-id.from c.args.last o) c.in_default.is c.next.ensures),
)
