use Rattle.std.proofs.Common.{◌≡◌, ℕ, ◌+◌, ◌≤◌}
use Rattle.amqp_send.specs.Sendings.{writes, frames_left}
use Rattle.amqp_send.proofs.sending.Sending.write_all.Given as goal

abbrev pub invariant-frames : goal.invariant-frames
invariant-frames g l = (n : ℕ) × (l.self ≡ writes n l.initial.self) × (n + frames_left l.self.message ≤ frames_left l.initial.self.message)

abbrev pub decreases-frames : goal.decreases-frames
decreases-frames g l = frames_left l.self.message
