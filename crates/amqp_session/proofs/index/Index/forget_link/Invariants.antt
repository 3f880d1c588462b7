use Rattle.std.proofs.Common.{◌≡◌, ℕ, length}
use Rattle.amqp_session.specs.Indexes.{found, gone_of}
use Rattle.amqp_session.proofs.index.Index.forget_link.Given as goal

-- what the rest of the ids will leave is what all of them leave
abbrev pub invariant-loop-id : goal.invariant-loop-id
invariant-loop-id g l = (q : ℕ) → gone_of l.ids q (found l.self q) ≡ gone_of l.initial.ids q (found l.initial.self q)

abbrev pub decreases-loop-id : goal.decreases-loop-id
decreases-loop-id g l = length l.ids
