use Rattle.std.proofs.Common.{ℕ, ◌++◌, sym, subst, Some, List}
use Rattle.amqp_session.specs.declared.index.Kept.{Kept}
use Rattle.amqp_session.specs.Indexes.{IsPut}
use Rattle.amqp_session.specs.Recents.{open_of, FindsAlike}
use Rattle.amqp_session.proofs.Olders.{moved, of_ok}
use Rattle.amqp_session.proofs.index.Older.make_room.Goals as goal

pub returns-then-is_ok : goal.returns-then-is_ok
returns-then-is_ok g c =
    subst (λ (es : List (ℕ × Kept)). FindsAlike es (open_of c.remove.new.self ++ c.insert.new.self)) c.self.view_is (moved (open_of c.self.inside.recent) c.self.inside.rest (open_of c.remove.new.self) c.insert.new.self c.in-Some.id c.in-Some.kept c.in-Some.ensures.2 c.remove.ensures.left (of_ok c.insert.result (IsPut c.self.inside.rest c.insert.new.self c.in-Some.id (Some c.in-Some.kept)) (sym c.if-is_ok.ensures.value) c.insert.ensures.ok))
