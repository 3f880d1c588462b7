use Rattle.std.proofs.Common.{ℕ, ◌++◌, ap, subst, ◌∙◌, Some, List}
use Rattle.amqp_session.specs.declared.index.Kept.{Kept}
use Rattle.amqp_session.specs.Indexes.{found, IsPut}
use Rattle.amqp_session.specs.Recents.{open_of}
use Rattle.amqp_session.proofs.Olders.{not_in_first, not_in_second, put_first, put_second, put_alike, apart_first, on_ok, still_apart}
use Rattle.amqp_session.proofs.index.Older.insert.Goals as goal

pub invariant_of-self : goal.invariant_of-self
invariant_of-self g c =
    still_apart c.insert.result (open_of c.self.inside.recent) c.self.inside.rest c.insert.new.self c.args.id c.args.kept c.self.invariant (not_in_first (open_of c.self.inside.recent) c.self.inside.rest c.args.id (ap (λ (es : List (ℕ × Kept)). found es c.args.id) c.self.view_is ∙ c.requires)) c.insert.ensures.ok c.insert.ensures.err

pub returns-then-not-is_above-clause-ok : goal.returns-then-not-is_above-clause-ok
returns-then-not-is_above-clause-ok g c =
    on_ok c.insert.result (IsPut c.self.inside.rest c.insert.new.self c.args.id (Some c.args.kept)) (IsPut c.args.self.now ((open_of c.self.inside.recent) ++ c.insert.new.self) c.args.id (Some c.args.kept)) (λ put. subst (λ (es : List (ℕ × Kept)). IsPut es ((open_of c.self.inside.recent) ++ c.insert.new.self) c.args.id (Some c.args.kept)) c.self.view_is (put_second (open_of c.self.inside.recent) c.self.inside.rest c.insert.new.self c.args.id (Some c.args.kept) (not_in_first (open_of c.self.inside.recent) c.self.inside.rest c.args.id (ap (λ (es : List (ℕ × Kept)). found es c.args.id) c.self.view_is ∙ c.requires)) put)) c.insert.ensures.ok

pub invariant_of-self-2 : goal.invariant_of-self-2
invariant_of-self-2 g c =
    apart_first (open_of c.self.inside.recent) c.self.inside.rest (open_of c.push.new.self) c.args.id (Some c.args.kept) c.self.invariant (not_in_second (open_of c.self.inside.recent) c.self.inside.rest c.args.id (ap (λ (es : List (ℕ × Kept)). found es c.args.id) c.self.view_is ∙ c.requires)) c.in_ok-push.ensures.ok

pub returns-clause-ok : goal.returns-clause-ok
returns-clause-ok g c =
    put_alike c.args.self.now (open_of c.push.new.self ++ c.self.inside.rest) c.make_room.new.self c.args.id (Some c.args.kept) (subst (λ (es : List (ℕ × Kept)). IsPut es (open_of c.push.new.self ++ c.self.inside.rest) c.args.id (Some c.args.kept)) c.self.view_is (put_first (open_of c.self.inside.recent) c.self.inside.rest (open_of c.push.new.self) c.args.id c.args.kept c.in_ok-push.ensures.ok)) c.make_room.ensures
