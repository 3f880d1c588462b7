use Rattle.std.proofs.Common.{ℕ, ◌+◌, ◌≤◌, length, sym, subst, arith}
use Rattle.amqp_send.proofs.Lengths.{close_long}
use Rattle.amqp_send.proofs.frames.put_close.Goals as goal

pub append-requires-clause-short : goal.append-requires-clause-short
append-requires-clause-short g c = subst (λ (n : ℕ). n ≤ 4096) (sym close_long) (omega arith)

pub append-requires-clause-room : goal.append-requires-clause-room
append-requires-clause-room g c = subst (λ (n : ℕ). length c.args.output.now + n ≤ 8192) (sym close_long) c.requires
