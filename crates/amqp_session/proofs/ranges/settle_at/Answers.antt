use Rattle.std.proofs.Common.{refl, sym, ap, subst, ◌∙◌}
use Rattle.amqp_link.specs.Links.{LinkState, open_set, standing_of, IsOnce}
use Rattle.amqp_session.specs.Links.{with_link}
use Rattle.amqp_session.specs.Indexes.{IsOnceAt}
use Rattle.amqp_session.specs.Sessions.{slot_at}
use Rattle.amqp_session.proofs.Lent.{lives, may_settle, can_settle, unchanged, stands_in, none_stands}
use Rattle.amqp_session.proofs.Lookups.{once_at}
use Rattle.amqp_session.proofs.ranges.settle_at.Goals as goal

pub settle_at-requires-clause-once : goal.settle_at-requires-clause-once
settle_at-requires-clause-once g c =
    let live = lives (slot_at c.args.state.now c.args.kept.handle) c.in-Some.link.now c.in-Some.ensures.value in
    subst (λ (t : LinkState). IsOnce c.args.id c.args.id (open_set t)) (sym live.2)
    (subst (IsOnceAt c.args.id) live.1 (once_at c.args.state.now c.args.id c.args.kept.handle c.requires.apart c.ranges.id.fits))

pub settle_at-requires-clause-faultless : goal.settle_at-requires-clause-faultless
settle_at-requires-clause-faultless g c = λ awaiting.
    let stands = stands_in c.args.id (slot_at c.args.state.now c.args.kept.handle) c.in-Some.link.now c.in-Some.ensures.value in
    may_settle c.args.state.now c.args.id c.args.kept.handle (standing_of c.args.id (open_set c.in-Some.link.now)) c.requires.apart c.ranges.id.fits (sym stands) (c.requires.whole ∙ sym stands)
    (can_settle (standing_of c.args.id (open_set c.in-Some.link.now)) awaiting) c.in-Some.link.now c.in-Some.ensures.value

pub returns-in-Some-clause-standing : goal.returns-in-Some-clause-standing
returns-in-Some-clause-standing g c = c.settle_at.ensures.standing ∙ stands_in c.args.id (slot_at c.args.state.now c.args.kept.handle) c.in-Some.link.now c.in-Some.ensures.value

pub returns-in-Some-clause-settled : goal.returns-in-Some-clause-settled
returns-in-Some-clause-settled g c = λ a. (c.in-Some.link.now, c.in-Some.ensures.value, ap (λ (t : LinkState). with_link c.args.state.now c.args.kept.handle t) (c.settle_at.ensures.new a))

pub returns-in-Some-clause-same : goal.returns-in-Some-clause-same
returns-in-Some-clause-same g c = λ n.
    unchanged c.args.state.now c.args.kept.handle c.in-Some.link.now c.settle_at.new.self c.in-Some.ensures.value (c.settle_at.ensures.same n) c.args.state.now refl

pub returns-in-None-clause-standing : goal.returns-in-None-clause-standing
returns-in-None-clause-standing g c = none_stands c.args.id (slot_at c.args.state.now c.args.kept.handle) c.in-None.ensures.value
