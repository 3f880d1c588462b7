use Rattle.std.proofs.Common.{arith, ap, subst, ◌∙◌}
use Rattle.amqp_endpoint.specs.declared.event.Outcome.{Outcome}
use Rattle.amqp_endpoint.specs.Runs.{Feed, Fed}
use Rattle.amqp_endpoint.specs.Steps.{IsFed}
use Rattle.example_one_link.specs.Counted.{ReceiverState}
use Rattle.example_one_link.proofs.Counts.{counted_on, fed_adds}
use Rattle.example_one_link.proofs.receiver.Receiver.feed_front.Goals as goal

pub invariant_of-self : goal.invariant_of-self
invariant_of-self g c =
    let r = c.self.inside in
    let none = fed_adds c.feed.result.outcome in
    (counted_on c.uses_are_counted.ensures.goes_on c.uses_are_bounded.ensures.config r.endpoint c.feed.new.self r.credit r.granted r.got r.granted r.got (Feed c.args.piece.now)
    (Fed c.feed.result.used c.feed.result.outcome) c.self.invariant c.are_bytes.ensures c.feed.ensures (omega (arith, none.0)) (omega (arith, none.1)) c.self.invariant.most).counted

pub returns-clause-ready : goal.returns-clause-ready
returns-clause-ready g c = λ ready.
    let r = c.self.inside in
    c.what_follows_is_accepted.ensures.take r.endpoint.connection.config 0 0 r.granted r.got r.endpoint c.feed.new.self c.args.piece.now c.feed.result.used 0 0 c.self.invariant.used
    (subst (λ (o : Outcome). IsFed r.endpoint c.feed.new.self c.args.piece.now c.feed.result.used o) ready c.feed.ensures)

pub returns-clause-still : goal.returns-clause-still
returns-clause-still g c =
    let r = c.self.inside in
    let none = fed_adds c.feed.result.outcome in
    let on = counted_on c.uses_are_counted.ensures.goes_on c.uses_are_bounded.ensures.config r.endpoint c.feed.new.self r.credit r.granted r.got r.granted r.got (Feed c.args.piece.now)
    (Fed c.feed.result.used c.feed.result.outcome) c.self.invariant c.are_bytes.ensures c.feed.ensures (omega (arith, none.0)) (omega (arith, none.1)) c.self.invariant.most in
    record { credit = ap (λ (s : ReceiverState). s.credit) c.self.view_is; config = on.config ∙ ap (λ (s : ReceiverState). s.endpoint.connection.config) c.self.view_is }
