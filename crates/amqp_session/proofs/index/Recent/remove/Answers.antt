use Rattle.std.proofs.Common.{ℕ, refl, sym, ap, subst, ◌∙◌, None, List}
use Rattle.std.specs.Prelude.{is_some}
use Rattle.amqp_session.specs.declared.index.Kept.{Kept}
use Rattle.amqp_session.specs.declared.index.Begun.{Begun}
use Rattle.amqp_session.specs.Indexes.{found, IsPut}
use Rattle.amqp_session.specs.Recents.{open_of, IsRising}
use Rattle.amqp_session.proofs.Recents.{closed_put, closed_was, not_open, nothing_put}
use Rattle.amqp_session.proofs.index.Recent.remove.Goals as goal

pub returns-then-not-close-clause-left : goal.returns-then-not-close-clause-left
returns-then-not-close-clause-left g c = subst (λ (bs : List Begun). IsPut (open_of c.args.self.now) (open_of bs) c.args.id None) (sym (c.if-not-close.ensures.same refl)) (nothing_put (open_of c.args.self.now) c.args.id (not_open c.args.self.now (subst IsRising c.self.view_is c.self.invariant) c.args.id c.place_of-place.result c.place_of-place.ensures (c.if-not-close.ensures.not_open refl)))

pub returns-then-not-close-clause-was : goal.returns-then-not-close-clause-was
returns-then-not-close-clause-was g c = sym (ap is_some (not_open c.args.self.now (subst IsRising c.self.view_is c.self.invariant) c.args.id c.place_of-place.result c.place_of-place.ensures (c.if-not-close.ensures.not_open refl)))

pub returns-clause-left : goal.returns-clause-left
returns-clause-left g c = λ q. ap (λ (es : List (ℕ × Kept)). found es q) c.give_back.ensures ∙ closed_put c.args.self.now c.close.new.self c.place_of-place.result c.args.id (subst IsRising c.self.view_is c.self.invariant) (c.if-not-close.ensures.closed refl) q

pub returns-clause-was : goal.returns-clause-was
returns-clause-was g c = sym (closed_was c.args.self.now c.close.new.self c.place_of-place.result c.args.id (subst IsRising c.self.view_is c.self.invariant) (c.if-not-close.ensures.closed refl))
