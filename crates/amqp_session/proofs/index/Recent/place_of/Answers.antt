use Rattle.std.proofs.Common.{sym, subst}
use Rattle.amqp_session.specs.Recents.{IsRising, IsPlaceOf}
use Rattle.amqp_session.proofs.Recents.{guessed, behind_all}
use Rattle.amqp_session.proofs.index.Recent.place_of.Goals as goal

pub returns-then-has_at : goal.returns-then-has_at
returns-then-has_at g c = guessed c.args.self.now (subst IsRising c.self.view_is c.self.invariant) c.args.id c.guess-guess.result (sym c.if-has_at.ensures)

pub returns-then-is_above : goal.returns-then-is_above
returns-then-is_above g c = subst (IsPlaceOf c.args.id c.args.self.now) (sym c.len.ensures) (behind_all c.args.self.now c.args.id (c.is_above.ensures.0 c.if-is_above.true))
