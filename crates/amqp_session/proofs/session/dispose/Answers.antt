use Rattle.std.proofs.Common.{ap, sym, ◌∙◌}
use Rattle.amqp_session.specs.Sessions.{session_after, PeerSettled}
use Rattle.amqp_session.proofs.Disposed.{disposed_is, ignored_is}
use Rattle.amqp_session.proofs.session.dispose.Goals as goal

pub returns-then-not-is_settling-clause-new : goal.returns-then-not-is_settling-clause-new
returns-then-not-is_settling-clause-new g c = rw (sym c.is_settling.ensures ∙ c.if-not-is_settling.true) (ignored_is c.args.state.now c.is_numbered.ensures)

pub returns-clause-new : goal.returns-clause-new
returns-clause-new g c =
    rw (sym c.is_settling.ensures ∙ c.if-not-is_settling.false)
    (c.settle_ids.ensures.new ∙ disposed_is c.args.state.now c.args.disposition.now.first c.unwrap_or-last.result c.is_numbered.ensures
    ∙ ap (λ m. session_after c.args.state.now (PeerSettled c.args.disposition.now.first m)) c.unwrap_or-last.ensures)
