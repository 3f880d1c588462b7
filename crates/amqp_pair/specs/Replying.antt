-- What the frames that an endpoint writes to a sender tell it. [2.7]
use Rattle.std.specs.Prelude.{◌≡◌, ℕ, ◌^◌, ◌<◌, ◌≤◌, Bool, true, false, List, [], length, Some}
use Rattle.amqp_frame.specs.Units.{FrameUnit}
use Rattle.amqp_perform.specs.declared.outcome.Outcome.{Outcome}
use Rattle.amqp_perform.specs.Said.{Said, said_frame, MayBeSaid}
use Rattle.amqp_session.specs.declared.terms.SessionTerms.{SessionTerms}
use Rattle.amqp_session.specs.Frames.{attach_said, flow_said, link_flow_said, disposition_said}
use Rattle.amqp_endpoint.specs.Configs.{Configured}
use Rattle.amqp_endpoint.specs.Replies.{open_said, begin_said}
use Rattle.amqp_send.specs.declared.telling.Telling.{Telling}
use Rattle.amqp_send.specs.declared.telling.Telling.TheVariants.{Nothing, Opened, Begun, Flowed, Disposed}
use Rattle.amqp_send.specs.Frames.{IsText}
use Rattle.amqp_send.specs.Tellings.{told_of}
use Rattle.amqp_pair.specs.Reading.{attaching_of}

-- A frame without payload on channel 0 may be said, and tells this, if it is shorter than 2^32 bytes.
pub record SaysAndTells (x : Said) (told : Telling) : Type 0 where
  pub may : MayBeSaid x
  pub tells : length (said_frame 0 x []) < 2 ^ 32 → told_of (FrameUnit (said_frame 0 x [])) ≡ told

-- its open tells its max-frame-size
abbrev pub OpenTells : Type 0
OpenTells = (config : Configured) (channel_max : ℕ) → IsText config.container_id → 512 ≤ config.max_frame → config.max_frame < 2 ^ 32 → channel_max < 2 ^ 16 → SaysAndTells (open_said config channel_max) (Opened config.max_frame)

-- its begin tells its incoming-window
abbrev pub BeginTells : Type 0
BeginTells = (channel : ℕ) (terms : SessionTerms) → channel < 2 ^ 16 → terms.incoming_window < 2 ^ 32 → terms.handle_max < 2 ^ 32 → SaysAndTells (begin_said channel terms) (Begun 0 terms.incoming_window)

-- its answer to the sender's attach tells nothing
abbrev pub AttachTells : Type 0
AttachTells = (config : Configured) (name : List ℕ) (longest : ℕ) → IsText name → longest < 2 ^ 64 → SaysAndTells (attach_said longest (attaching_of config name)) Nothing

-- its flows tell the window and, if of a link, the credit
abbrev pub FlowTells : Type 0
FlowTells = (next window : ℕ) → next < 2 ^ 32 → window < 2 ^ 32 → SaysAndTells (flow_said next window)
    (Flowed (record { next_incoming_id = next; incoming_window = window; of_link = false; delivery_count = 0; link_credit = 0; drain = false; echo = false }))

abbrev pub LinkFlowTells : Type 0
LinkFlowTells = (next window count credit : ℕ) (drain : Bool) → next < 2 ^ 32 → window < 2 ^ 32 → count < 2 ^ 32 → credit < 2 ^ 32 → SaysAndTells (link_flow_said next window 0 count credit drain)
    (Flowed (record { next_incoming_id = next; incoming_window = window; of_link = true; delivery_count = count; link_credit = credit; drain = drain; echo = false }))

-- its dispositions tell what became of the deliveries
abbrev pub DispositionTells : Type 0
DispositionTells = (id : ℕ) (settled : Bool) (outcome : Outcome) → id < 2 ^ 32 → SaysAndTells (disposition_said id id settled outcome) (Disposed id id (Some outcome))
