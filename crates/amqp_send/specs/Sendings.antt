-- A sender: its state, the frames that it writes, and its steps. [2.4.1, 2.5.6, 2.6.7, 2.6.12]
use Rattle.std.specs.Prelude.{◌≡◌, ℕ, zero, suc, ◌+◌, ◌-◌, ◌≤◌, nat_lt, nat_le, ◌&&◌, ◌||◌, Bool, true, false, not, if◌then◌else◌, List, [], ◌∷◌, ◌++◌, length, take, drop, Option, Some, None, is_none}
use Rattle.std.specs.Prelude.{◌*◌}
use Rattle.std.specs.List.{flat_map}
use Rattle.byteorder.specs.Endian.{big_bytes}
use Rattle.amqp_frame.specs.Units.{StreamUnit}
use Rattle.amqp_frame.specs.declared.units.TheConstants.{HEADER}
use Rattle.amqp_perform.specs.declared.condition.Condition.{Condition}
use Rattle.amqp_perform.specs.declared.condition.Condition.TheVariants as condition
use Rattle.amqp_perform.specs.declared.descriptor.Descriptor.TheVariants as of_type
use Rattle.amqp_perform.specs.Cells.{Absent, Whole, Bytes, Span}
use Rattle.amqp_perform.specs.Performatives.{flag, optional_whole}
use Rattle.amqp_perform.specs.Said.{Said, said_frame}
use Rattle.amqp_send.specs.declared.flow_state.FlowState.{FlowState}
use Rattle.amqp_send.specs.declared.news.News.{News}
use Rattle.amqp_send.specs.declared.news.News.TheVariants.{Disposition, Ended}
use Rattle.amqp_send.specs.declared.news.OfferFault.{OfferFault}
use Rattle.amqp_send.specs.declared.news.OfferFault.TheVariants as offer
use Rattle.amqp_send.specs.declared.talk.Talk.{Talk}
use Rattle.amqp_send.specs.declared.talk.Talk.TheVariants as talk
use Rattle.amqp_send.specs.declared.telling.Limits.{Limits}
use Rattle.amqp_send.specs.declared.telling.Telling.{Telling}
use Rattle.amqp_send.specs.declared.telling.Telling.TheVariants.{Nothing, Opened, Begun, Flowed, Disposed, Left, Closed, Unread}
use Rattle.amqp_send.specs.Flows.{flow_begins, credit, window, most, opened, begun, limited, drained, transferred}
use Rattle.amqp_send.specs.Tellings.{told_of}

-- what it names itself and its link
pub record SendTerms : Type 0 where
  pub container_id : List ℕ
  pub name : List ℕ

-- a message: the part that is in no frame yet, and whether its first frame is written
pub record Message : Type 0 where
  pub rest : List ℕ
  pub begun : Bool

pub record Sending : Type 0 where
  pub terms : SendTerms
  pub talk : Talk
  pub flow : FlowState
  pub message : Option Message
  pub unsent : List ℕ  -- the output pipe

-- how many bytes the pipe holds
abbrev pub pipe_size : ℕ
pipe_size = 8192

-- the header is written at once [2.2]
abbrev pub sending_begins : SendTerms → Sending
sending_begins terms = record { terms = terms; talk = talk.Silent; flow = flow_begins; message = None; unsent = HEADER }

-- The frames. ---------------------------------------------------------------------------------------------------------

-- the canonical frame without a payload
abbrev pub frame : Said → List ℕ
frame s = said_frame 0 s []

abbrev pub source_text : List ℕ
source_text = 0x00 ∷ 0x53 ∷ 0x28 ∷ 0x45 ∷ []

abbrev pub target_text : List ℕ
target_text = 0x00 ∷ 0x53 ∷ 0x29 ∷ 0x45 ∷ []

-- [2.7.1]
abbrev pub open_said : List ℕ → Said
open_said container_id = record {
  type = of_type.Open;
  cells = Bytes container_id ∷ Absent ∷ Whole 4096 ∷ Whole 0 ∷ Absent ∷ Absent ∷ Absent ∷ Absent ∷ Absent ∷ Absent ∷ [];
}

-- [2.7.2]
abbrev pub begin_said : Said
begin_said = record { type = of_type.Begin; cells = Absent ∷ Whole 0 ∷ Whole 0 ∷ Whole 2048 ∷ Whole 0 ∷ Absent ∷ Absent ∷ Absent ∷ [] }

-- [2.7.3]
abbrev pub attach_said : List ℕ → Said
attach_said name = record {
  type = of_type.Attach;
  cells =
      Bytes name ∷ Whole 0 ∷ flag false ∷ Whole 0 ∷ Whole 0 ∷ Span source_text ∷ Span target_text ∷ Absent ∷ Absent ∷ Whole 0 ∷ Absent ∷ Absent
      ∷ Absent ∷ Absent ∷ [];
}

abbrev pub opening : SendTerms → List Said
opening terms = open_said terms.container_id ∷ begin_said ∷ attach_said terms.name ∷ []

-- the flow of the link, which answers one of the receiver [2.7.4]
abbrev pub flow_said : FlowState → Bool → Said
flow_said f drain = record {
  type = of_type.Flow;
  cells =
      optional_whole f.peer_next_outgoing_id ∷ Whole 0 ∷ Whole f.next_outgoing_id ∷ Whole 2048 ∷ Whole 0 ∷ Whole f.delivery_count ∷ Whole (credit f)
      ∷ Absent ∷ flag drain ∷ flag false ∷ Absent ∷ [];
}

-- [2.7.9]
abbrev pub close_said : Said
close_said = record { type = of_type.Close; cells = Absent ∷ [] }

-- the first transfer of a delivery, whose tag is its id [2.7.5, 2.6.12]
abbrev pub head_said : ℕ → Bool → Said
head_said id more = record {
  type = of_type.Transfer;
  cells =
      Whole 0 ∷ Whole id ∷ Bytes (big_bytes 4 id) ∷ Whole 0 ∷ Absent ∷ flag more ∷ Absent ∷ Absent ∷ flag false ∷ flag false ∷ Absent ∷ [];
}

-- a transfer that goes on [2.6.14]
abbrev pub later_said : Bool → Said
later_said more = record {
  type = of_type.Transfer;
  cells = Whole 0 ∷ Absent ∷ Absent ∷ Absent ∷ Absent ∷ flag more ∷ Absent ∷ Absent ∷ flag false ∷ flag false ∷ Absent ∷ [];
}

abbrev pub transfer_said : ℕ → Bool → Bool → Said
transfer_said id begun more = if begun then later_said more else head_said id more

-- what is left of the message fits one frame
abbrev pub is_last : FlowState → Message → Bool
is_last f m = nat_le (length (said_frame 0 (transfer_said f.delivery_id m.begun false) m.rest)) (most f)

-- how much of it goes into the next frame: all, or as much as fills a frame that more follow
abbrev pub share : FlowState → Message → ℕ
share f m = if is_last f m then length m.rest else most f - length (frame (transfer_said f.delivery_id m.begun true))

abbrev pub next_frame : FlowState → Message → List ℕ
next_frame f m = said_frame 0 (transfer_said f.delivery_id m.begun (not (is_last f m))) (take (share f m) m.rest)

-- The next frame of the message. --------------------------------------------------------------------------------------

-- how many deliveries it begins
abbrev pub heads_of : Message → ℕ
heads_of m = if m.begun then 0 else 1

-- what is left of the message after it
abbrev pub left_of : FlowState → Message → Option Message
left_of f m = if is_last f m then None else Some (record { rest = drop (share f m) m.rest; begun = true })

abbrev pub is_talking : Talk → Bool
is_talking talk.Talking = true
is_talking _ = false

-- the pipe has room for the frame
abbrev pub fits : List ℕ → List ℕ → Bool
fits unsent text = nat_le (length unsent + length text) pipe_size

-- a frame is put into the pipe whole or not at all
abbrev pub put : List ℕ → List ℕ → List ℕ
put unsent text = if fits unsent text then unsent ++ text else unsent

-- credit, for a first frame; a place in the window; room in the pipe
abbrev pub may_go : FlowState → List ℕ → Message → Bool
may_go f unsent m = (m.begun || nat_lt 0 (credit f)) && nat_lt 0 (window f) && fits unsent (next_frame f m)

abbrev pub output_behind : FlowState → List ℕ → Message → List ℕ
output_behind f unsent m = if may_go f unsent m then unsent ++ next_frame f m else unsent

abbrev pub flow_behind : FlowState → List ℕ → Message → FlowState
flow_behind f unsent m = if may_go f unsent m then transferred (heads_of m) f else f

abbrev pub message_behind : FlowState → List ℕ → Message → Option Message
message_behind f unsent m = if may_go f unsent m then left_of f m else Some m

abbrev pub may_send : Sending → Option Message → Bool
may_send s None = false
may_send s (Some m) = is_talking s.talk && may_go s.flow s.unsent m

-- a frame of the message may be written now
abbrev pub can_write : Sending → Bool
can_write s = may_send s s.message

abbrev pub wrote_of : Sending → Option Message → Sending
wrote_of s None = s
wrote_of s (Some m) =
    if is_talking s.talk
    then record s { flow = flow_behind s.flow s.unsent m; message = message_behind s.flow s.unsent m; unsent = output_behind s.flow s.unsent m }
    else s

-- the next frame is written if it may be
abbrev pub wrote : Sending → Sending
wrote s = wrote_of s s.message

abbrev pub writes : ℕ → Sending → Sending
writes zero s = s
writes (suc n) s = wrote (writes n s)

-- more than the number of frames that are left: each but the last has at least one byte
abbrev pub frames_left : Option Message → ℕ
frames_left None = 0
frames_left (Some m) = length m.rest + 1

-- each frame that may be written is written
abbrev pub all_written : Sending → Sending
all_written s = writes (frames_left s.message) s

-- What is left to be moved out: the bytes that wait, and for each frame that may be left, more bytes than it has.
abbrev pub left_to_send : Sending → ℕ
left_to_send s = length s.unsent + 4097 * frames_left s.message

-- What is told. -------------------------------------------------------------------------------------------------------

abbrev pub ended : Condition → Sending → Sending
ended c s = record s { talk = talk.Ended c }

-- the answer to a flow that asks for the credit to be used up while no message waits, or that asks for a flow [2.6.7, 2.7.4]
abbrev pub answered : Bool → Bool → Sending → Sending
answered true echo s = record s { flow = drained s.flow; unsent = s.unsent ++ frame (flow_said (drained s.flow) true) }
answered false true s = record s { unsent = s.unsent ++ frame (flow_said s.flow false) }
answered false false s = s

abbrev pub flowed : Limits → Sending → Sending
flowed l s = answered (l.of_link && l.drain && is_none s.message) l.echo (record s { flow = limited l s.flow })

-- while it talks
abbrev pub heard : Telling → Sending → Sending
heard Nothing s = s
heard (Opened max_frame_size) s = record s { flow = opened max_frame_size s.flow }
heard (Begun next incoming_window) s = record s { flow = begun next incoming_window s.flow }
heard (Flowed l) s = flowed l s
heard (Disposed first last outcome) s = s
heard (Left c) s = ended c s
heard (Closed c) s = ended c s
heard Unread s = ended condition.Other s

-- the receiver's header: the opening follows [2.4.1]
abbrev pub greeted : Telling → Sending → Sending
greeted Nothing s = record s { talk = talk.Talking; unsent = s.unsent ++ flat_map frame (opening s.terms) }
greeted _ s = ended condition.Other s

-- after its own close only the receiver's close counts [2.4.3]
abbrev pub heard_closing : Telling → Sending → Sending
heard_closing (Closed c) s = ended c s
heard_closing _ s = s

abbrev pub heard_in : Talk → Telling → Sending → Sending
heard_in talk.Silent t s = greeted t s
heard_in talk.Talking t s = heard t s
heard_in talk.Closing t s = heard_closing t s
heard_in (talk.Ended c) t s = s

-- the news of what was told
abbrev pub heard_news : Telling → Option News
heard_news Nothing = None
heard_news (Opened max_frame_size) = None
heard_news (Begun next incoming_window) = None
heard_news (Flowed l) = None
heard_news (Disposed first last outcome) = Some (Disposition first last outcome)
heard_news (Left c) = Some (Ended c)
heard_news (Closed c) = Some (Ended c)
heard_news Unread = Some (Ended condition.Other)

abbrev pub greeted_news : Telling → Option News
greeted_news Nothing = None
greeted_news _ = Some (Ended condition.Other)

abbrev pub closing_news : Telling → Option News
closing_news (Closed c) = Some (Ended c)
closing_news _ = None

abbrev pub news_in : Talk → Telling → Option News
news_in talk.Silent t = greeted_news t
news_in talk.Talking t = heard_news t
news_in talk.Closing t = closing_news t
news_in (talk.Ended c) t = None

-- Events. -------------------------------------------------------------------------------------------------------------

pub data SendEvent : Type 0 where
  -- a unit of the receiver was acted upon
  Acted : StreamUnit → SendEvent
  -- a message was taken over
  Offered : List ℕ → SendEvent
  -- its own close was written
  CloseWritten : SendEvent
  -- this many bytes of the pipe were moved out
  Moved : ℕ → SendEvent

-- the sender after an event, before the frames that may now be written
abbrev pub changed : Sending → SendEvent → Sending
changed s (Acted u) = heard_in s.talk (told_of u) s
changed s (Offered m) = record s { message = Some (record { rest = m; begun = false }) }
changed s CloseWritten = record s { talk = talk.Closing; unsent = s.unsent ++ frame close_said }
changed s (Moved n) = record s { unsent = drop n s.unsent }

abbrev pub send_after : Sending → SendEvent → Sending
send_after s e = all_written (changed s e)

abbrev pub sent_news : Sending → StreamUnit → Option News
sent_news s u = news_in s.talk (told_of u)

-- a unit is acted upon if the pipe has this much room
abbrev pub answer_room : ℕ
answer_room = 64

abbrev pub has_room : Sending → Bool
has_room s = nat_le (length s.unsent + answer_room) pipe_size

-- how long the frame of its own close is
abbrev pub close_room : ℕ
close_room = 12

abbrev pub may_close : Sending → Bool
may_close s = is_talking s.talk && nat_le (length s.unsent + close_room) pipe_size

-- why a message is not taken over
abbrev pub fault_at : Talk → Option Message → Option OfferFault
fault_at (talk.Ended c) m = Some (offer.Ended c)
fault_at talk.Closing m = Some (offer.Ended condition.Other)
fault_at talk.Silent (Some m) = Some offer.Busy
fault_at talk.Talking (Some m) = Some offer.Busy
fault_at talk.Silent None = None
fault_at talk.Talking None = None

abbrev pub offer_fault : Sending → Option OfferFault
offer_fault s = fault_at s.talk s.message

abbrev pub SendMay : Sending → SendEvent → Type 0
SendMay s (Acted u) = has_room s ≡ true
SendMay s (Offered m) = offer_fault s ≡ None
SendMay s CloseWritten = may_close s ≡ true
SendMay s (Moved n) = n ≤ length s.unsent
