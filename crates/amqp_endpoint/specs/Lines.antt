-- What a whole unit results in on a connection (AMQP 1.0, part 2, sections 2.2 to 2.7): the first line of a table that applies. That gives the fault, the event, what is reported and what is
-- written.
use Rattle.std.specs.Prelude.{ℕ, Bool, true, false, nat_lt, if◌then◌else◌, List, [], ◌∷◌, Option, Some, None, is_some, bytes_eq}
use Rattle.amqp_frame.specs.declared.units.TheConstants.{HEADER}
use Rattle.amqp_frame.specs.Units.{StreamUnit, HeaderUnit, FrameUnit, FaultUnit, channel_of, body_of}
use Rattle.amqp_perform.specs.declared.condition.Condition.{Condition}
use Rattle.amqp_perform.specs.declared.condition.Condition.TheVariants as condition
use Rattle.amqp_perform.specs.declared.descriptor.Descriptor.{Descriptor}
use Rattle.amqp_perform.specs.declared.descriptor.Descriptor.TheVariants as of_type
use Rattle.amqp_perform.specs.declared.fault.BodyFault.{BodyFault}
use Rattle.amqp_perform.specs.declared.fault.BodyFault.TheVariants as body
use Rattle.amqp_perform.specs.Cells.{Cell}
use Rattle.amqp_perform.specs.BodyReading.{body_at, fault_of}
use Rattle.amqp_session.specs.declared.fault.SessionFault.{SessionFault}
use Rattle.amqp_session.specs.declared.report.Report.{Report}
use Rattle.amqp_session.specs.declared.report.Report.TheVariants as report
use Rattle.amqp_session.specs.declared.slot.Slot.{Slot}
use Rattle.amqp_session.specs.declared.slot.Slot.TheVariants.{Free, Live, Waits}
use Rattle.amqp_session.specs.declared.terms.SessionTerms.{SessionTerms}
use Rattle.amqp_session.specs.Faults as session
use Rattle.amqp_session.specs.Frames.{Frame, Attaches}
use Rattle.amqp_session.specs.Sessions.{SessionState}
use Rattle.amqp_endpoint.specs.declared.event.Event.{Event}
use Rattle.amqp_endpoint.specs.declared.event.Event.TheVariants as told
use Rattle.amqp_endpoint.specs.declared.event.Scope.{Scope}
use Rattle.amqp_endpoint.specs.declared.event.Scope.TheVariants as scope
use Rattle.amqp_endpoint.specs.declared.phase.Phase.{Phase}
use Rattle.amqp_endpoint.specs.declared.phase.Phase.TheVariants as phase
use Rattle.amqp_endpoint.specs.Connections as event
use Rattle.amqp_endpoint.specs.Connections.{ConnectionState, ConnectionEvent, slot_at, lesser, channel_limit, is_unopened, is_closing, channel_ready, connection_ready}
use Rattle.amqp_endpoint.specs.Fields.{Opening, Beginning, Read, Opens, Begins, Ends, Closes, ForSession, Other, read_in}

-- The table. ----------------------------------------------------------------------------------------------------------

-- What a unit results in. `line_of` below says which; docs/PROTOCOL.md has the lines as a table, in the order in which they are checked.
pub data Line : Type 0 where
  HeaderAccepted : Line  -- the header of this version [2.2]
  HeaderUnknown : Line  -- another header
  FrameBad : Line  -- a malformed frame, unless the peer's close is awaited: amqp:connection:framing-error [2.3.1]
  FrameBadInClosing : Line  -- a malformed frame, while the peer's close is awaited
  CloseAwaited : Line  -- the peer's close, while it is awaited [2.4.3]
  DroppedInClosing : Line  -- anything else while the peer's close is awaited
  ChannelTooHigh : Line  -- a body on a channel above the limit: amqp:connection:framing-error [2.4.1]
  BodyEmpty : Line  -- a frame without body [2.4.5]
  BodyMisspelt : Line  -- the value of a body is wrongly encoded or too deep: amqp:decode-error
  BodyInvalid : Line  -- a body that is no performative, or one with a field that is missing or invalid: amqp:invalid-field [2.7]
  OpenMissing : Line  -- something else before the peer's open: amqp:illegal-state [2.4.1]
  OpenAgain : Line  -- a second open: amqp:illegal-state
  PeerOpens : Opening → Line  -- the peer's open
  PeerCloses : Line  -- the peer's close [2.4.3]
  EndAwaited : ℕ → Line  -- the peer's end, while it is awaited on this channel [2.5.3]
  DroppedInEnding : Line  -- anything else while the peer's end is awaited
  BeginMisplaced : Line  -- a begin on a channel that has begun, or one that answers another: amqp:illegal-state [2.5.1]
  BeginMissing : Line  -- another frame of a session on a channel that has not begun: amqp:illegal-state
  PeerBegins : ℕ → Beginning → Line  -- a session begins on this channel [2.5.1]
  PeerEnds : ℕ → Line  -- the peer ends the session on this channel [2.5.3]
  HandleTooHigh : Line  -- an attach with a handle above the session's highest: amqp:connection:framing-error [2.7.2]
  SessionBroken : ℕ → SessionFault → Line  -- a fault that ends the session on this channel [2.5.4]
  SessionFrame : ℕ → SessionState → Frame → Line  -- a frame that the session on this channel takes

-- a frame of a live session
abbrev pub attach_too_high : SessionState → Frame → Bool
attach_too_high s (Attaches a) = nat_lt s.terms.handle_max a.handle
attach_too_high s _ = false

abbrev pub by_fault : ℕ → SessionState → Frame → Option SessionFault → Line
by_fault channel s f None = SessionFrame channel s f
by_fault channel s f (Some fault) = SessionBroken channel fault

abbrev pub session_line : ℕ → SessionState → Frame → Line
session_line channel s f = if attach_too_high s f then HandleTooHigh else by_fault channel s f (session.session_fault s f)

-- by what is at the channel: nothing, a live session, or one whose end is awaited
abbrev pub on_free : ℕ → Read → Line
on_free channel (Begins b) = if is_some b.remote_channel then BeginMisplaced else PeerBegins channel b
on_free channel _ = BeginMissing

abbrev pub on_live : ℕ → SessionState → Read → Line
on_live channel s (Begins b) = BeginMisplaced
on_live channel s Ends = PeerEnds channel
on_live channel s (ForSession f) = session_line channel s f
on_live channel s _ = BodyInvalid  -- met by no performative: opens and closes are handled before

abbrev pub on_waiting : ℕ → Read → Line
on_waiting channel Ends = EndAwaited channel
on_waiting channel _ = DroppedInEnding

abbrev pub channel_line : ℕ → Slot SessionState → Read → Line
channel_line channel Free r = on_free channel r
channel_line channel (Live s) r = on_live channel s r
channel_line channel Waits r = on_waiting channel r

-- after both sides have opened
abbrev pub opened_line : ConnectionState → ℕ → Read → Line
opened_line s channel (Opens o) = OpenAgain
opened_line s channel Closes = PeerCloses
opened_line s channel Other = BodyInvalid  -- met by no body: it is found invalid before
opened_line s channel r = channel_line channel (slot_at s channel) r

-- before the peer's open
abbrev pub unopened_line : Read → Line
unopened_line (Opens o) = PeerOpens o
unopened_line _ = OpenMissing

abbrev pub read_line : ConnectionState → ℕ → Read → Line
read_line s channel r = if is_unopened s.phase then unopened_line r else opened_line s channel r

-- by what is wrong with a body
abbrev pub unread_line : BodyFault → Line
unread_line (body.Decode e) = BodyMisspelt
unread_line body.InvalidField = BodyInvalid

abbrev pub body_line : ConnectionState → ℕ → List ℕ → Option (Descriptor × List Cell × List ℕ) → Line
body_line s channel bytes None = unread_line (fault_of bytes)
body_line s channel bytes (Some x) = read_line s channel (read_in s.config x.0 x.1 x.2)

abbrev pub frame_line : ConnectionState → ℕ → List ℕ → Line
frame_line s channel [] = BodyEmpty
frame_line s channel (b ∷ bytes) = if nat_lt (channel_limit s.phase) channel then ChannelTooHigh else body_line s channel (b ∷ bytes) (body_at (b ∷ bytes))

-- while the peer's close is awaited: a close that can be read counts, on any channel [2.4.3]
abbrev pub is_close : Descriptor → Bool
is_close of_type.Close = true
is_close _ = false

abbrev pub is_read_close : Option (Descriptor × List Cell × List ℕ) → Bool
is_read_close None = false
is_read_close (Some x) = is_close x.0

abbrev pub closing_line : List ℕ → Line
closing_line bytes = if is_read_close (body_at bytes) then CloseAwaited else DroppedInClosing

-- a frame on this channel, with this body
abbrev pub frame_at : ConnectionState → ℕ → List ℕ → Line
frame_at s channel bytes = if is_closing s.phase then closing_line bytes else frame_line s channel bytes

abbrev pub line_of : ConnectionState → StreamUnit → Line
line_of s (HeaderUnit bytes) = if bytes_eq bytes HEADER then HeaderAccepted else HeaderUnknown
line_of s (FaultUnit fault bytes) = if is_closing s.phase then FrameBadInClosing else FrameBad
line_of s (FrameUnit bytes) = frame_at s (channel_of bytes) (body_of bytes)

-- Faults. -------------------------------------------------------------------------------------------------------------

-- what ends, and with which error
abbrev pub connection_fault : Condition → Option (Scope × Condition)
connection_fault c = Some (scope.Connection, c)

abbrev pub link_fault_of : ℕ → Report → Option (Scope × Condition)
link_fault_of channel (report.Failed handle c dropped) = Some (scope.Link channel handle, c)
link_fault_of channel _ = None

abbrev pub fault_on : Line → Option (Scope × Condition)
fault_on FrameBad = connection_fault condition.FramingError
fault_on ChannelTooHigh = connection_fault condition.FramingError
fault_on BodyMisspelt = connection_fault condition.DecodeError
fault_on BodyInvalid = connection_fault condition.InvalidField
fault_on OpenMissing = connection_fault condition.IllegalState
fault_on OpenAgain = connection_fault condition.IllegalState
fault_on BeginMisplaced = connection_fault condition.IllegalState
fault_on BeginMissing = connection_fault condition.IllegalState
fault_on HandleTooHigh = connection_fault condition.FramingError
fault_on (SessionBroken channel fault) = Some (scope.Session channel, session.session_condition fault)
fault_on (SessionFrame channel s f) = link_fault_of channel (session.report_of s f)
fault_on _ = None

-- The event that a unit is. -------------------------------------------------------------------------------------------

-- what a session begins with [2.5.1, 2.7.2]
abbrev pub peer_frame_size : Phase → ℕ
peer_frame_size (phase.Open max_frame_size channel_max) = max_frame_size
peer_frame_size _ = 512  -- no session begins then

abbrev pub begun_terms : ConnectionState → Beginning → SessionTerms
begun_terms s b = record {
  incoming_window = s.config.window;
  next_outgoing_id = b.next_outgoing_id;
  handle_max = lesser s.config.handle_max b.handle_max;
  max_frame_size = peer_frame_size s.phase;
}

abbrev pub event_on : ConnectionState → Line → ConnectionEvent
event_on s HeaderAccepted = event.HeaderCame
event_on s HeaderUnknown = event.HeaderRefused
event_on s FrameBad = event.Broken
event_on s FrameBadInClosing = event.Lost
event_on s CloseAwaited = event.PeerClosed
event_on s DroppedInClosing = event.Ignored
event_on s ChannelTooHigh = event.Failed
event_on s BodyEmpty = event.Ignored
event_on s BodyMisspelt = event.Failed
event_on s BodyInvalid = event.Failed
event_on s OpenMissing = event.Failed
event_on s OpenAgain = event.Failed
event_on s (PeerOpens o) = event.Opened o.max_frame_size (lesser s.config.channel_max o.channel_max) o.said
event_on s PeerCloses = event.PeerClosed
event_on s (EndAwaited channel) = event.SessionEnded channel
event_on s DroppedInEnding = event.Ignored
event_on s BeginMisplaced = event.Failed
event_on s BeginMissing = event.Failed
event_on s (PeerBegins channel b) = event.Begun channel (begun_terms s b)
event_on s (PeerEnds channel) = event.SessionEnded channel
event_on s HandleTooHigh = event.Failed
event_on s (SessionBroken channel fault) = event.SessionFailed channel
event_on s (SessionFrame channel live f) = event.InSession channel (session.event_of live f)

-- What is reported. -------------------------------------------------------------------------------------------------------

abbrev pub report_told : ℕ → Report → Option Event
report_told channel report.Nothing = None
report_told channel (report.Attached handle) = Some (told.Attached channel handle)
report_told channel (report.Unfinished handle) = Some (told.Unfinished channel handle)
report_told channel (report.Ready handle) = Some (told.Ready channel handle)
report_told channel (report.Aborted handle) = Some (told.Aborted channel handle)
report_told channel (report.Drained handle) = Some (told.Drained channel handle)
report_told channel (report.Settled count) = Some (told.Settled channel count)
report_told channel (report.Detached handle dropped) = Some (told.Detached channel handle dropped)
report_told channel (report.Failed handle c dropped) = Some (told.Failed (scope.Link channel handle) c dropped)

abbrev pub connection_told : ConnectionState → Option (Scope × Condition) → Option Event
connection_told s None = None
connection_told s (Some x) = Some (told.Failed x.0 x.1 (connection_ready s))

abbrev pub told_on : ConnectionState → Line → Option Event
told_on s (PeerOpens o) = Some told.Opened
told_on s (PeerBegins channel b) = Some (told.Begun channel)
told_on s (EndAwaited channel) = Some (told.Ended channel 0)
told_on s (PeerEnds channel) = Some (told.Ended channel (channel_ready (slot_at s channel)))
told_on s CloseAwaited = Some (told.Closed 0)
told_on s PeerCloses = Some (told.Closed (connection_ready s))
told_on s (SessionBroken channel fault) = Some (told.Failed (scope.Session channel) (session.session_condition fault) (channel_ready (slot_at s channel)))
told_on s (SessionFrame channel live f) = report_told channel (session.report_of live f)
told_on s line = connection_told s (fault_on line)

-- Memory. -------------------------------------------------------------------------------------------------------------

-- A unit may need memory if it begins a session, whose record is made then, or if the session needs it for the frame.
abbrev pub may_grow_on : Line → Bool
may_grow_on (PeerBegins channel b) = true
may_grow_on (SessionFrame channel s f) = session.frame_may_grow s f
may_grow_on _ = false
