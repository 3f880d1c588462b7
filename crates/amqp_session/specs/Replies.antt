-- What an answer repeats of its attach.
use Rattle.std.specs.Prelude.{◌≡◌, ℕ, List}
use Rattle.amqp_session.specs.declared.replies.Modes.{Modes}
use Rattle.amqp_session.specs.Frames.{Attaching}

-- an attach of these texts and modes
pub record IsAttaching (name source target : List ℕ) (modes : Modes) (a : Attaching) : Type 0 where
  pub name_is : name ≡ a.name
  pub source_is : source ≡ a.source
  pub target_is : target ≡ a.target
  pub handle_is : modes.handle ≡ a.handle
  pub role_is : modes.role ≡ a.role
  pub sender_is : modes.snd_settle_mode ≡ a.snd_settle_mode
  pub receiver_is : modes.rcv_settle_mode ≡ a.rcv_settle_mode
