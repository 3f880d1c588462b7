use Rattle.std.proofs.Common.{length, refl, sym, ap, ◌∙◌, None, List}
use Rattle.std.specs.Prelude.{slice_get, slice_set}
use Rattle.std.proofs.lemmas.Option.{slice_get_read}
use Rattle.amqp_session.specs.declared.index.Begun.{Begun}
use Rattle.amqp_session.proofs.index.Recent.close.Goals as goal

pub returns-clause-closed : goal.returns-clause-closed
returns-clause-closed g c = λ _. (c.in-Some.begun.now, ap (λ (bs : List Begun). slice_get bs c.args.place) (sym c.self.view_is) ∙ slice_get_read c.self.inside.begun.items (length c.self.inside.begun.items) c.args.place c.in-Some.begun.now refl c.in-Some.ensures.item.3.0 (c.in-Some.ensures.item.3.1 c.in-Some.begun.now), c.if-begun-id.false, c.if-is_none.ensures, ap (λ (bs : List Begun). slice_set bs c.args.place (record c.in-Some.begun.now { kept = None })) c.self.view_is)
