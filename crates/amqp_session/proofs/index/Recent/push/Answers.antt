use Rattle.std.proofs.Common.{◌++◌, refl, sym, ap, subst, ◌∙◌, Some, [], ◌∷◌, List}
use Rattle.amqp_session.specs.declared.index.Begun.{Begun}
use Rattle.amqp_session.specs.Indexes.{IsPut}
use Rattle.amqp_session.specs.Recents.{open_of}
use Rattle.amqp_session.proofs.Recents.{pushed}
use Rattle.amqp_session.proofs.index.Recent.push.Goals as goal

pub returns-clause-ok : goal.returns-clause-ok
returns-clause-ok g c =
    subst (λ (bs : List Begun). IsPut (open_of c.args.self.now) (open_of bs) c.args.id (Some c.args.kept)) (ap (λ (bs : List Begun). bs ++ record { id = c.args.id; kept = Some c.args.kept } ∷ []) (sym c.self.view_is) ∙ sym c.in_ok-push_back.ensures.items)
    (pushed c.args.self.now c.args.id c.args.kept (record { id = c.args.id; kept = Some c.args.kept }) c.requires refl refl)
