-- The history of a sender: what happened, newest first, and what it gives, by sums and selections over the whole list, in
-- numbers without a limit. [2.5.6, 2.6.7, 2.6.12]
use Rattle.std.specs.Prelude.{◌≡◌, ℕ, zero, suc, ◌+◌, ◌%◌, ◌^◌, ◌<◌, ◌≤◌, ◌&&◌, nat_le, Bool, true, false, not, if◌then◌else◌, List, [], ◌∷◌, ◌++◌, length, take, Option, Some, None}
use Rattle.std.specs.List.{flat_map}
use Rattle.amqp_frame.specs.declared.units.TheConstants.{HEADER}
use Rattle.amqp_serial.specs.Numbers.{sum_of}
use Rattle.amqp_perform.specs.Said.{said_frame}
use Rattle.amqp_send.specs.declared.flow_state.FlowState.{FlowState}
use Rattle.amqp_send.specs.declared.talk.Talk.{Talk}
use Rattle.amqp_send.specs.declared.talk.Talk.TheVariants as talk
use Rattle.amqp_send.specs.declared.telling.Limits.{Limits}
use Rattle.amqp_send.specs.declared.telling.Telling.{Telling}
use Rattle.amqp_send.specs.declared.telling.Telling.TheVariants.{Nothing, Opened, Begun, Flowed}
use Rattle.amqp_send.specs.Flows.{ahead, credit, window, most}
use Rattle.amqp_send.specs.Sendings.{SendTerms, Message, Sending, sending_begins, frame, opening, flow_said, close_said, transfer_said, is_last, share, is_talking, may_go, writes, frames_left}
use Rattle.amqp_send.specs.Sendings.{SendEvent, Acted, Offered, CloseWritten, Moved, changed, send_after, SendMay}
use Rattle.amqp_send.specs.Tellings.{told_of, IsLawful}

-- a frame of a message: which part of the message it has, and whether more follow
pub record Piece : Type 0 where
  pub payload : List ℕ
  pub more : Bool

pub data Deed : Type 0 where
  -- the receiver's header came, and the opening was written
  Greeted : Deed
  -- a unit of the receiver told this while the sender talked
  Heard : Telling → Deed
  -- a message was taken over
  Took : List ℕ → Deed
  -- a frame of a message was written
  Wrote : Piece → Deed
  -- its own close was written
  Ceased : Deed
  -- these bytes were moved out
  Gave : List ℕ → Deed

-- Messages. -----------------------------------------------------------------------------------------------------------

-- the frames of messages, newest first
abbrev pub pieces : List Deed → List Piece
pieces [] = []
pieces (Wrote p ∷ h) = p ∷ pieces h
pieces (Greeted ∷ h) = pieces h
pieces (Heard t ∷ h) = pieces h
pieces (Took m ∷ h) = pieces h
pieces (Ceased ∷ h) = pieces h
pieces (Gave bytes ∷ h) = pieces h

-- the messages that were taken over, in order
abbrev pub offers : List Deed → List (List ℕ)
offers [] = []
offers (Took m ∷ h) = offers h ++ m ∷ []
offers (Greeted ∷ h) = offers h
offers (Heard t ∷ h) = offers h
offers (Wrote p ∷ h) = offers h
offers (Ceased ∷ h) = offers h
offers (Gave bytes ∷ h) = offers h

-- whether the last delivery is not whole yet
abbrev pub goes_on : List Piece → Bool
goes_on [] = false
goes_on (p ∷ ps) = p.more

-- which part of it its frames have
abbrev pub part : List Piece → List ℕ
part [] = []
part (p ∷ ps) = if p.more then part ps ++ p.payload else []

-- the messages of the deliveries that are whole, in order
abbrev pub wholes : List Piece → List (List ℕ)
wholes [] = []
wholes (p ∷ ps) = if p.more then wholes ps else wholes ps ++ (part ps ++ p.payload) ∷ []

-- how many deliveries begin: a frame begins one if the frame before it ends one, or there is none
abbrev pub heads : List Piece → ℕ
heads [] = 0
heads (p ∷ ps) = heads ps + (if goes_on ps then 0 else 1)

-- whether no message waits: each that was taken over is whole
abbrev pub is_idle : List Deed → Bool
is_idle h = nat_le (length (offers h)) (length (wholes (pieces h)))

-- What the receiver stated last. --------------------------------------------------------------------------------------

abbrev pub max_frame_size : List Deed → ℕ
max_frame_size [] = 512
max_frame_size (Heard (Opened n) ∷ h) = n
max_frame_size (d ∷ h) = max_frame_size h

abbrev pub peer_next : List Deed → Option ℕ
peer_next [] = None
peer_next (Heard (Begun next incoming_window) ∷ h) = Some next
peer_next (d ∷ h) = peer_next h

abbrev pub has_flowed : List Deed → Bool
has_flowed [] = false
has_flowed (Heard (Flowed l) ∷ h) = true
has_flowed (d ∷ h) = has_flowed h

-- where the window ends: by the last flow, and by the begin before any [2.5.6]
abbrev pub window_end : List Deed → ℕ
window_end [] = 0
window_end (Heard (Flowed l) ∷ h) = sum_of l.next_incoming_id l.incoming_window
window_end (Heard (Begun next incoming_window) ∷ h) = if has_flowed h then window_end h else incoming_window
window_end (d ∷ h) = window_end h

-- where the credit ends: by the last flow of the link [2.6.7]
abbrev pub credit_end : List Deed → ℕ
credit_end [] = 0
credit_end (Heard (Flowed l) ∷ h) = if l.of_link then sum_of l.delivery_count l.link_credit else credit_end h
credit_end (d ∷ h) = credit_end h

-- Counts. -------------------------------------------------------------------------------------------------------------

-- whether a flow asks for the credit to be used up while no message waits
abbrev pub drains : Limits → List Deed → Bool
drains l h = l.of_link && l.drain && is_idle h

-- the credit that was used up without deliveries: at each such flow, all the credit of that moment [2.6.7]
abbrev pub advances : List Deed → ℕ
advances [] = 0
advances (Heard (Flowed l) ∷ h) = advances h + (if drains l h then ahead ((heads (pieces h) + advances h) % 2 ^ 32) (credit_end (Heard (Flowed l) ∷ h)) else 0)
advances (d ∷ h) = advances h

-- the numbers of the session and the link: how many transfers went and how many deliveries they began, wrapping around at 2^32
abbrev pub flow_of : List Deed → FlowState
flow_of h = record {
  max_frame_size = max_frame_size h;
  peer_next_outgoing_id = peer_next h;
  flowed = has_flowed h;
  window_end = window_end h;
  credit_end = credit_end h;
  next_outgoing_id = length (pieces h) % 2 ^ 32;
  delivery_id = heads (pieces h) % 2 ^ 32;
  delivery_count = (heads (pieces h) + advances h) % 2 ^ 32;
}

-- What was written. ---------------------------------------------------------------------------------------------------

-- the answer to a flow [2.6.7, 2.7.4]
abbrev pub answer_by : Bool → Bool → FlowState → List ℕ
answer_by true echo f = frame (flow_said f true)
answer_by false true f = frame (flow_said f false)
answer_by false false f = []

abbrev pub answer_text : Telling → List Deed → List ℕ
answer_text (Flowed l) h = answer_by (drains l h) l.echo (flow_of (Heard (Flowed l) ∷ h))
answer_text t h = []

-- the transfer of a piece; the history before it gives its id
abbrev pub transfer_text : Piece → List Deed → List ℕ
transfer_text p h = said_frame 0 (transfer_said (heads (pieces h) % 2 ^ 32) (goes_on (pieces h)) p.more) p.payload

-- the header, the opening, the answers to flows, the transfers, the close, in the order in which they were written
abbrev pub written : SendTerms → List Deed → List ℕ
written terms [] = HEADER
written terms (Greeted ∷ h) = written terms h ++ flat_map frame (opening terms)
written terms (Heard t ∷ h) = written terms h ++ answer_text t h
written terms (Took m ∷ h) = written terms h
written terms (Wrote p ∷ h) = written terms h ++ transfer_text p h
written terms (Ceased ∷ h) = written terms h ++ frame close_said
written terms (Gave bytes ∷ h) = written terms h

-- what was moved out
abbrev pub moved : List Deed → List ℕ
moved [] = []
moved (Gave bytes ∷ h) = moved h ++ bytes
moved (Greeted ∷ h) = moved h
moved (Heard t ∷ h) = moved h
moved (Took m ∷ h) = moved h
moved (Wrote p ∷ h) = moved h
moved (Ceased ∷ h) = moved h

-- A sender and its history. -------------------------------------------------------------------------------------------

-- the message that waits: the part that its frames have, and what is left of it
abbrev pub waiting : Option Message → List Piece → List (List ℕ)
waiting None ps = []
waiting (Some m) ps = (part ps ++ m.rest) ∷ []

-- a message that waits is begun exactly if the last delivery is not whole yet
abbrev pub IsMessageBegun : Option Message → List Piece → Type 0
IsMessageBegun None ps = goes_on ps ≡ false
IsMessageBegun (Some m) ps = m.begun ≡ goes_on ps

-- the sender is what its history gives
pub record IsHistory (terms : SendTerms) (h : List Deed) (s : Sending) : Type 0 where
  pub terms_are : s.terms ≡ terms
  -- its numbers are the counts and the last limits
  pub flow_is : s.flow ≡ flow_of h
  -- the messages that its frames complete, and the one that waits, are those that were taken over, in order, each once
  pub messages : offers h ≡ wholes (pieces h) ++ waiting s.message (pieces h)
  pub begun : IsMessageBegun s.message (pieces h)
  -- what was moved out and what waits is all that was written
  pub bytes : moved h ++ s.unsent ≡ written terms h

-- A transfer went only if a place was left in the window and, if it begins a delivery, credit. It is no longer than a frame may be,
-- and exactly as long if more follow.
pub record MayGo (p : Piece) (h : List Deed) : Type 0 where
  pub credited : goes_on (pieces h) ≡ false → 0 < credit (flow_of h)
  pub placed : 0 < window (flow_of h)
  pub within : length (transfer_text p h) ≤ most (flow_of h)
  pub full : p.more ≡ true → length (transfer_text p h) ≡ most (flow_of h)

-- each transfer of the history went so
abbrev pub AllMayGo : List Deed → Type 0
AllMayGo [] = Unit {0}
AllMayGo (Wrote p ∷ h) = MayGo p h × AllMayGo h
AllMayGo (Greeted ∷ h) = AllMayGo h
AllMayGo (Heard t ∷ h) = AllMayGo h
AllMayGo (Took m ∷ h) = AllMayGo h
AllMayGo (Ceased ∷ h) = AllMayGo h
AllMayGo (Gave bytes ∷ h) = AllMayGo h

-- What an event adds to the history. ----------------------------------------------------------------------------------

abbrev pub greeted_deeds : Telling → List Deed
greeted_deeds Nothing = Greeted ∷ []
greeted_deeds _ = []

abbrev pub heard_deeds : Talk → Telling → List Deed
heard_deeds talk.Silent t = greeted_deeds t
heard_deeds talk.Talking t = Heard t ∷ []
heard_deeds talk.Closing t = []
heard_deeds (talk.Ended c) t = []

abbrev pub event_deeds : Sending → SendEvent → List Deed
event_deeds s (Acted u) = heard_deeds s.talk (told_of u)
event_deeds s (Offered m) = Took m ∷ []
event_deeds s CloseWritten = Ceased ∷ []
event_deeds s (Moved n) = Gave (take n s.unsent) ∷ []

abbrev pub next_piece : FlowState → Message → Piece
next_piece f m = record { payload = take (share f m) m.rest; more = not (is_last f m) }

abbrev pub wrote_deeds : Sending → Option Message → List Deed
wrote_deeds s None = []
wrote_deeds s (Some m) = if is_talking s.talk && may_go s.flow s.unsent m then Wrote (next_piece s.flow m) ∷ [] else []

-- the frames that are written one after the other
abbrev pub frame_deeds : ℕ → Sending → List Deed
frame_deeds zero s = []
frame_deeds (suc n) s = wrote_deeds (writes n s) (writes n s).message ++ frame_deeds n s

abbrev pub deeds : Sending → SendEvent → List Deed
deeds s e = frame_deeds (frames_left (changed s e).message) (changed s e) ++ event_deeds s e

-- Lists of events, newest first. --------------------------------------------------------------------------------------

abbrev pub after_all : SendTerms → List SendEvent → Sending
after_all terms [] = sending_begins terms
after_all terms (e ∷ es) = send_after (after_all terms es) e

abbrev pub history : SendTerms → List SendEvent → List Deed
history terms [] = []
history terms (e ∷ es) = deeds (after_all terms es) e ++ history terms es

-- what is told is lawful
abbrev pub IsLawfulEvent : SendEvent → Type 0
IsLawfulEvent (Acted u) = IsLawful (told_of u)
IsLawfulEvent (Offered m) = Unit {0}
IsLawfulEvent CloseWritten = Unit {0}
IsLawfulEvent (Moved n) = Unit {0}

-- each event came when it may
abbrev pub Accepted : SendTerms → List SendEvent → Type 0
Accepted terms [] = Unit {0}
Accepted terms (e ∷ es) = Accepted terms es × SendMay (after_all terms es) e × IsLawfulEvent e
