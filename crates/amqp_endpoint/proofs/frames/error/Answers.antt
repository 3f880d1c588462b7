use Rattle.std.proofs.Common.{ℕ, List, ◌≤◌, length, subst, sym}
use Rattle.amqp_endpoint.proofs.Replies.{condition_long}
use Rattle.amqp_endpoint.proofs.frames.error.Goals as goal

pub returns-clause-short : goal.returns-clause-short
returns-clause-short c = subst (λ (t : List ℕ). length t ≤ 100) (sym c.span.ensures) (condition_long c.args.condition)
