-- The frames of worked examples, to the byte.
use Rattle.std.proofs.Common.{◌≡◌, ℕ, true, false, List, [], ◌∷◌, ◌++◌, replicate, refl}
use Rattle.amqp_perform.specs.Frames.{list_frame, described_text}
use Rattle.amqp_send.specs.declared.flow_state.FlowState.{FlowState}
use Rattle.amqp_send.specs.Flows.{flow_begins, opened, begun, limited, credit, window}
use Rattle.amqp_send.specs.Sendings.{Message, frame, open_said, begin_said, attach_said, close_said, next_frame}

-- container-id 's' and name 'l'
pub open_bytes : frame (open_said (0x73 ∷ []))
    ≡ 0x00 ∷ 0x00 ∷ 0x00 ∷ 0x1a ∷ 0x02 ∷ 0x00 ∷ 0x00 ∷ 0x00 ∷ 0x00 ∷ 0x53 ∷ 0x10 ∷ 0xc0 ∷ 0x0d ∷ 0x04 ∷ 0xa1 ∷ 0x01 ∷ 0x73 ∷ 0x40 ∷ 0x70 ∷
    0x00 ∷ 0x00 ∷ 0x10 ∷ 0x00 ∷ 0x60 ∷ 0x00 ∷ 0x00 ∷ []
unfolding list_frame described_text
open_bytes = refl

-- the begin that it writes
pub begin_bytes : frame begin_said
    ≡ 0x00 ∷ 0x00 ∷ 0x00 ∷ 0x17 ∷ 0x02 ∷ 0x00 ∷ 0x00 ∷ 0x00 ∷ 0x00 ∷ 0x53 ∷ 0x11 ∷ 0xc0 ∷ 0x0a ∷ 0x05 ∷ 0x40 ∷ 0x43 ∷ 0x43 ∷ 0x70 ∷ 0x00 ∷
    0x00 ∷ 0x08 ∷ 0x00 ∷ 0x43 ∷ []
unfolding list_frame described_text
begin_bytes = refl

-- the attach, of a link with the name l
pub attach_bytes : frame (attach_said (0x6c ∷ []))
    ≡ 0x00 ∷ 0x00 ∷ 0x00 ∷ 0x21 ∷ 0x02 ∷ 0x00 ∷ 0x00 ∷ 0x00 ∷ 0x00 ∷ 0x53 ∷ 0x12 ∷ 0xc0 ∷ 0x14 ∷ 0x0a ∷ 0xa1 ∷ 0x01 ∷ 0x6c ∷ 0x43 ∷ 0x42 ∷
    0x50 ∷ 0x00 ∷ 0x40 ∷ 0x00 ∷ 0x53 ∷ 0x28 ∷ 0x45 ∷ 0x00 ∷ 0x53 ∷ 0x29 ∷ 0x45 ∷ 0x40 ∷ 0x40 ∷ 0x43 ∷ []
unfolding list_frame described_text
attach_bytes = refl

-- the close
pub close_bytes : frame close_said ≡ 0x00 ∷ 0x00 ∷ 0x00 ∷ 0x0c ∷ 0x02 ∷ 0x00 ∷ 0x00 ∷ 0x00 ∷ 0x00 ∷ 0x53 ∷ 0x18 ∷ 0x45 ∷ []
unfolding list_frame described_text
close_bytes = refl

-- behind an open with max-frame-size 512, a begin with a window of 100, and a flow with credit of 1
abbrev ready : FlowState
ready =
    limited (record { next_incoming_id = 0; incoming_window = 100; of_link = true; delivery_count = 0; link_credit = 1; drain = false; echo = false })
    (begun 0 100 (opened 512 flow_begins))

-- a sender with one credit
pub ready_credit : credit ready ≡ 1
ready_credit = refl

-- and 100 places
pub ready_window : window ready ≡ 100
ready_window = refl

abbrev message : List ℕ → Message
message bytes = record { rest = bytes; begun = false }

-- the one frame of a short message
pub small_bytes : next_frame ready (message (0x68 ∷ 0x69 ∷ []))
    ≡ 0x00 ∷ 0x00 ∷ 0x00 ∷ 0x19 ∷ 0x02 ∷ 0x00 ∷ 0x00 ∷ 0x00 ∷ 0x00 ∷ 0x53 ∷ 0x14 ∷ 0xc0 ∷ 0x0a ∷ 0x04 ∷ 0x43 ∷ 0x43 ∷ 0xa0 ∷ 0x04 ∷ 0x00 ∷
    0x00 ∷ 0x00 ∷ 0x00 ∷ 0x43 ∷ 0x68 ∷ 0x69 ∷ []
unfolding list_frame described_text
small_bytes = refl

-- 600 bytes: one frame of 512, and one of 128
abbrev long : List ℕ
long = replicate 600 0x6d

-- the first frame of a message of two
pub long_first : next_frame ready (message long)
    ≡ (0x00 ∷ 0x00 ∷ 0x02 ∷ 0x00 ∷ 0x02 ∷ 0x00 ∷ 0x00 ∷ 0x00 ∷ 0x00 ∷ 0x53 ∷ 0x14 ∷ 0xc0 ∷ 0x0c ∷ 0x06 ∷ 0x43 ∷ 0x43 ∷ 0xa0 ∷ 0x04 ∷ 0x00 ∷
    0x00 ∷ 0x00 ∷ 0x00 ∷ 0x43 ∷ 0x40 ∷ 0x41 ∷ []) ++ replicate 487 0x6d
unfolding list_frame described_text
long_first = refl

-- the last one
pub long_second : next_frame ready (record { rest = replicate 113 0x6d; begun = true })
    ≡ (0x00 ∷ 0x00 ∷ 0x00 ∷ 0x80 ∷ 0x02 ∷ 0x00 ∷ 0x00 ∷ 0x00 ∷ 0x00 ∷ 0x53 ∷ 0x14 ∷ 0xc0 ∷ 0x02 ∷ 0x01 ∷ 0x43 ∷ []) ++ replicate 113 0x6d
unfolding list_frame described_text
long_second = refl
