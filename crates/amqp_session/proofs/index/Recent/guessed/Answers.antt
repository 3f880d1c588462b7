use Rattle.std.proofs.Common.{sym, subst, ◌∙◌}
use Rattle.amqp_session.specs.Recents.{IsRising}
use Rattle.amqp_session.proofs.Recents.{some_there}
use Rattle.amqp_session.proofs.index.Recent.guessed.Goals as goal

pub returns-then-begun-id : goal.returns-then-begun-id
returns-then-begun-id g c = some_there c.args.self.now (subst IsRising c.self.view_is c.self.invariant) c.args.id c.guess.result c.in_ok-begun.begun (sym c.begun_at.ensures ∙ c.in_ok-begun.was) c.if-begun-id.true
