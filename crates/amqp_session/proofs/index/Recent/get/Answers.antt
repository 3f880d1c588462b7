use Rattle.std.proofs.Common.{sym, ap, subst, ◌∙◌, Some, None, Bool}
use Rattle.std.specs.Prelude.{if◌then◌else◌}
use Rattle.std.proofs.lemmas.Bool.{eq-eqb, ne_eqb}
use Rattle.amqp_session.specs.Recents.{IsRising}
use Rattle.amqp_session.proofs.Recents.{looked}
use Rattle.amqp_session.proofs.index.Recent.get.Goals as goal

pub returns-in_err-begun : goal.returns-in_err-begun
returns-in_err-begun g c = c.from_residual.ensures ∙ sym (looked c.args.self.now (subst IsRising c.self.view_is c.self.invariant) c.args.id c.place_of.result c.place_of.ensures None (sym c.begun_at.ensures ∙ c.in_err-begun.was))

pub returns-then-begun-id : goal.returns-then-begun-id
returns-then-begun-id g c = sym (looked c.args.self.now (subst IsRising c.self.view_is c.self.invariant) c.args.id c.place_of.result c.place_of.ensures (Some c.in_ok-begun.begun) (sym c.begun_at.ensures ∙ c.in_ok-begun.was) ∙ ap (λ (t : Bool). if t then c.in_ok-begun.begun.kept else None) (eq-eqb c.in_ok-begun.begun.id c.args.id c.if-begun-id.true))

pub returns-else-begun-id : goal.returns-else-begun-id
returns-else-begun-id g c = sym (looked c.args.self.now (subst IsRising c.self.view_is c.self.invariant) c.args.id c.place_of.result c.place_of.ensures (Some c.in_ok-begun.begun) (sym c.begun_at.ensures ∙ c.in_ok-begun.was) ∙ ap (λ (t : Bool). if t then c.in_ok-begun.begun.kept else None) (ne_eqb c.in_ok-begun.begun.id c.args.id c.if-begun-id.false))
