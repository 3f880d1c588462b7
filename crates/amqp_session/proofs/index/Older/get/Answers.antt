use Rattle.std.proofs.Common.{ℕ, sym, ap, ◌∙◌, List}
use Rattle.amqp_session.specs.declared.index.Kept.{Kept}
use Rattle.amqp_session.specs.Indexes.{found}
use Rattle.amqp_session.specs.Recents.{open_of}
use Rattle.amqp_session.proofs.Olders.{in_first, in_second}
use Rattle.amqp_session.proofs.index.Older.get.Goals as goal

pub returns-in-Some : goal.returns-in-Some
returns-in-Some g c =
    sym (ap (λ (es : List (ℕ × Kept)). found es c.args.id) (sym c.self.view_is) ∙ in_first (open_of c.self.inside.recent) c.self.inside.rest c.args.id c.in-Some.kept (sym c.in-Some.ensures))

pub returns-in-None : goal.returns-in-None
returns-in-None g c =
    c.get-in-None.ensures ∙ sym (ap (λ (es : List (ℕ × Kept)). found es c.args.id) (sym c.self.view_is) ∙ in_second (open_of c.self.inside.recent) c.self.inside.rest c.args.id (sym c.in-None.ensures))
