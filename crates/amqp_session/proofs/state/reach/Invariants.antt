use Rattle.std.proofs.Common.{◌≡◌, ◌+◌, ◌≤◌, ℕ, length}
use Rattle.std.specs.Prelude.{vec_capacity}
use Rattle.amqp_session.specs.Slots.{padded}
use Rattle.amqp_session.proofs.state.reach.Given as goal

-- so many free places more, and room for the others
abbrev pub invariant-loop-added : goal.invariant-loop-added
invariant-loop-added g l = record {
  same : (n : ℕ) → padded n l.table.items ≡ padded n l.initial.table.items;
  long : length l.table.items ≡ length l.initial.table.items + l._added;
  room : length l.initial.table.items + l.more ≤ vec_capacity l.table;
}
