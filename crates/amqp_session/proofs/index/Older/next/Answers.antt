use Rattle.std.proofs.Common.{ℕ, sym, subst, Some, List}
use Rattle.amqp_session.specs.declared.index.Kept.{Kept}
use Rattle.amqp_session.specs.Indexes.{IsNext}
use Rattle.amqp_session.specs.Recents.{open_of}
use Rattle.amqp_session.proofs.Olders.{next_at_once, next_first, next_second, next_other}
use Rattle.amqp_session.proofs.index.Older.next.Goals as goal

pub returns-in_default-next : goal.returns-in_default-next
returns-in_default-next g c =
    subst (λ (es : List (ℕ × Kept)). IsNext es c.args.from c.args.last c.next-other.result) c.self.view_is (next_second (open_of c.self.inside.recent) c.self.inside.rest c.args.from c.args.last c.next-other.result c.in_default-next.ensures c.next-other.ensures)

pub returns-then-is_before : goal.returns-then-is_before
returns-then-is_before g c =
    subst (λ (es : List (ℕ × Kept)). IsNext es c.args.from c.args.last (Some (c.in-Some-next.id, c.in-Some-next.kept))) c.self.view_is (next_first (open_of c.self.inside.recent) c.self.inside.rest c.args.from c.args.last (c.in-Some-next.id, c.in-Some-next.kept) c.next-other.result c.in-Some-next.ensures c.next-other.ensures (sym c.if-is_before.ensures))

pub returns-else-is_before : goal.returns-else-is_before
returns-else-is_before g c =
    subst (λ (es : List (ℕ × Kept)). IsNext es c.args.from c.args.last c.next-other.result) c.self.view_is (next_other (open_of c.self.inside.recent) c.self.inside.rest c.args.from c.args.last (c.in-Some-next.id, c.in-Some-next.kept) c.next-other.result c.self.invariant c.in-Some-next.ensures c.next-other.ensures (sym c.if-is_before.ensures))

pub returns-in-Some : goal.returns-in-Some
returns-in-Some g c =
    subst (λ (es : List (ℕ × Kept)). IsNext es c.args.from c.args.last (Some (c.args.from, c.in-Some.kept))) c.self.view_is (next_at_once (open_of c.self.inside.recent) c.self.inside.rest c.args.from c.args.last c.in-Some.kept c.requires c.in-Some.ensures)
