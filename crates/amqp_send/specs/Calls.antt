-- What a sender shows its callers, and what always holds of it.
use Rattle.std.specs.Prelude.{◌≡◌, ℕ, ◌≤◌, false, List, ◌++◌, length}
use Rattle.amqp_frame.specs.Splits.{SplitterState}
use Rattle.amqp_send.specs.declared.flow_state.FlowState.{FlowState}
use Rattle.amqp_send.specs.declared.talk.Talk.{Talk}
use Rattle.amqp_send.specs.declared.talk.Talk.TheVariants as talk
use Rattle.amqp_send.specs.Sendings.{SendTerms, Sending, can_write}

pub record SenderState : Type 0 where
  -- the receiver's bytes that were taken and not yet acted upon
  pub input : SplitterState
  pub sending : Sending

-- the input with these bytes after what it held
abbrev pub taken : SplitterState → List ℕ → SplitterState
taken s bytes = record s { filled = s.filled ++ bytes }

-- Until the receiver's header has come, at most the sender's own header waits.
abbrev pub IsQuiet : Talk → List ℕ → Type 0
IsQuiet talk.Silent unsent = length unsent ≤ 8
IsQuiet talk.Talking unsent = Unit {0}
IsQuiet talk.Closing unsent = Unit {0}
IsQuiet (talk.Ended c) unsent = Unit {0}

pub record IsSending (terms : SendTerms) (t : Talk) (f : FlowState) (unsent : List ℕ) : Type 0 where
  pub container_id : length terms.container_id ≤ 255
  pub name : length terms.name ≤ 255
  pub frames : 512 ≤ f.max_frame_size
  pub quiet : IsQuiet t unsent

-- it accepts frames up to its own max-frame-size, and no frame that may be written is left unwritten
pub record IsSender (input : SplitterState) (s : Sending) : Type 0 where
  pub limit : input.limit ≡ 4096
  pub written : can_write s ≡ false
