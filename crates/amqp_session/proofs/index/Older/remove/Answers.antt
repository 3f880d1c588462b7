use Rattle.std.proofs.Common.{ℕ, ◌++◌, sym, subst, None, List}
use Rattle.amqp_session.specs.declared.index.Kept.{Kept}
use Rattle.amqp_session.specs.Indexes.{IsPut}
use Rattle.amqp_session.specs.Recents.{open_of}
use Rattle.amqp_session.proofs.Recents.{nothing_put}
use Rattle.amqp_session.proofs.Olders.{out_of_both}
use Rattle.amqp_session.proofs.index.Older.remove.Goals as goal

pub returns-then-not-remove : goal.returns-then-not-remove
returns-then-not-remove g c =
    subst (λ (es : List (ℕ × Kept)). IsPut es (open_of c.remove.new.self ++ c.remove-then-not-remove.new.self) c.args.id None) c.self.view_is (out_of_both (open_of c.self.inside.recent) c.self.inside.rest (open_of c.remove.new.self) c.remove-then-not-remove.new.self c.args.id c.if-not-remove.ensures.left c.remove-then-not-remove.ensures)

pub returns-else-not-remove : goal.returns-else-not-remove
returns-else-not-remove g c =
    subst (λ (es : List (ℕ × Kept)). IsPut es (open_of c.remove.new.self ++ c.self.inside.rest) c.args.id None) c.self.view_is (out_of_both (open_of c.self.inside.recent) c.self.inside.rest (open_of c.remove.new.self) c.self.inside.rest c.args.id c.if-not-remove.ensures.left (nothing_put c.self.inside.rest c.args.id (c.self.invariant c.args.id (sym c.if-not-remove.ensures.was))))
