-- One connection of the receiving side in plain numbers and lists, and what each event does to it (AMQP 1.0, part 2, sections 2.2 to 2.5).
use Rattle.std.specs.Prelude.{◌≡◌, ℕ, suc, ◌^◌, ◌<◌, ◌≤◌, Bool, true, false, ◌||◌, nat_le, if◌then◌else◌, List, sum_by, Option, Some, None, slice_get, unwrap_or, is_some}
use Rattle.amqp_session.specs.declared.slot.Slot.{Slot}
use Rattle.amqp_session.specs.declared.slot.Slot.TheVariants.{Free, Live, Waits}
use Rattle.amqp_session.specs.declared.terms.SessionTerms.{SessionTerms}
use Rattle.amqp_session.specs.Places.{Happens, Nothing, Begins, GoesOn, Leaves, Gone, AllGone, tabulate, places_after, places_may}
use Rattle.amqp_session.specs.Sessions.{Attached, SessionState, SessionEvent, LinkAttached, session_begins, session_after, SessionMay, session_bytes, session_ready}
use Rattle.amqp_endpoint.specs.declared.phase.Phase.{Phase}
use Rattle.amqp_endpoint.specs.declared.phase.Phase.TheVariants as phase
use Rattle.amqp_endpoint.specs.declared.introduction.Introduction.{Introduction}
use Rattle.amqp_endpoint.specs.Configs.{Configured, bounds_for}

-- A connection. Its sessions are in the order of their channels, from 0 to the highest that is offered.
pub record ConnectionState : Type 0 where
  pub config : Configured
  pub phase : Phase
  pub failed : Bool  -- this side ended the connection with an error, or refused its header
  pub closed : Bool  -- the peer's close came
  pub peer : Option Introduction  -- what the peer said of itself in its open
  pub sessions : List (Slot SessionState)

-- the number of channels of a connection
abbrev pub channels : Configured → ℕ
channels config = suc config.channel_max

-- a connection before its header
abbrev pub connection_begins : Configured → ConnectionState
connection_begins config = record { config = config; phase = phase.Unopened; failed = false; closed = false; peer = None; sessions = tabulate 0 (channels config) (λ k. Free) }

-- what is at a channel; Free above the highest
abbrev pub slot_at : ConnectionState → ℕ → Slot SessionState
slot_at s channel = unwrap_or (slice_get s.sessions channel) Free

abbrev pub lesser : ℕ → ℕ → ℕ
lesser a b = if nat_le a b then a else b

-- the highest channel on which frames are taken: the one that the opens fix, and 0 before and after [2.4.1]
abbrev pub channel_limit : Phase → ℕ
channel_limit phase.Unopened = 0
channel_limit (phase.Open max_frame_size channel_max) = channel_max
channel_limit phase.Closing = 0
channel_limit phase.Dead = 0

abbrev pub is_unopened : Phase → Bool
is_unopened phase.Unopened = true
is_unopened _ = false

abbrev pub is_open : Phase → Bool
is_open (phase.Open max_frame_size channel_max) = true
is_open _ = false

abbrev pub is_closing : Phase → Bool
is_closing phase.Closing = true
is_closing _ = false

abbrev pub is_dead : Phase → Bool
is_dead phase.Dead = true
is_dead _ = false

-- Numbers of all sessions. --------------------------------------------------------------------------------------------

-- 64 for a session that waits for the peer's end; for a live one what it holds
abbrev pub channel_bytes : Slot SessionState → ℕ
channel_bytes Free = 0
channel_bytes (Live s) = session_bytes s
channel_bytes Waits = 64

abbrev pub connection_bytes : ConnectionState → ℕ
connection_bytes s = sum_by channel_bytes s.sessions

-- how many whole deliveries are dropped with a session: those that are ready
abbrev pub channel_ready : Slot SessionState → ℕ
channel_ready Free = 0
channel_ready (Live s) = session_ready s
channel_ready Waits = 0

abbrev pub connection_ready : ConnectionState → ℕ
connection_ready s = sum_by channel_ready s.sessions

-- What happens to a connection. ---------------------------------------------------------------------------------------

pub data ConnectionEvent : Type 0 where
  HeaderCame : ConnectionEvent  -- the acceptable header
  HeaderRefused : ConnectionEvent  -- another header
  Opened : ℕ → ℕ → Introduction → ConnectionEvent  -- the peer opened the connection, with this max-frame-size, and said this of itself; the highest channel is this
  Broken : ConnectionEvent  -- a malformed frame, which this side answers by a close with an error
  Failed : ConnectionEvent  -- this side closed the connection with an error
  CloseAsked : ConnectionEvent  -- the application closed the connection
  PeerClosed : ConnectionEvent  -- the peer's close, first or in answer
  Lost : ConnectionEvent  -- a malformed frame, while the peer's close was awaited
  Begun : ℕ → SessionTerms → ConnectionEvent  -- a session began on this channel
  InSession : ℕ → SessionEvent → ConnectionEvent  -- something happened to the session on this channel
  SessionFailed : ℕ → ConnectionEvent  -- this side ended the session on this channel with an error
  SessionEnded : ℕ → ConnectionEvent  -- the peer's end of the session on this channel, first or in answer
  Ignored : ConnectionEvent  -- a frame that changes nothing
  Finished : ConnectionEvent  -- the input ended

-- what happens at the channels with an event
abbrev pub happens : ConnectionEvent → Happens SessionTerms SessionEvent
happens (Begun channel terms) = Begins channel terms
happens (InSession channel e) = GoesOn channel e
happens (SessionFailed channel) = Leaves channel
happens (SessionEnded channel) = Gone channel
happens HeaderRefused = AllGone
happens Broken = AllGone
happens Failed = AllGone
happens CloseAsked = AllGone
happens PeerClosed = AllGone
happens Lost = AllGone
happens Finished = AllGone
happens e = Nothing

-- the event ends the connection for good [2.4.6]
abbrev pub is_end : ConnectionEvent → Bool
is_end HeaderRefused = true
is_end Broken = true
is_end PeerClosed = true
is_end Lost = true
is_end Finished = true
is_end e = false

-- this side closes, and awaits the peer's close [2.4.3]
abbrev pub is_own_close : ConnectionEvent → Bool
is_own_close Failed = true
is_own_close CloseAsked = true
is_own_close e = false

-- the event ends the connection with an error of this side, or at its header
abbrev pub is_failure : ConnectionEvent → Bool
is_failure HeaderRefused = true
is_failure Broken = true
is_failure Failed = true
is_failure e = false

abbrev pub is_peer_close : ConnectionEvent → Bool
is_peer_close PeerClosed = true
is_peer_close e = false

-- what the peer's open fixes
abbrev pub opened_by : ConnectionEvent → Option Phase
opened_by (Opened max_frame_size channel_max said) = Some (phase.Open max_frame_size channel_max)
opened_by e = None

-- what it says of itself there
abbrev pub said_by : ConnectionEvent → Option Introduction
said_by (Opened max_frame_size channel_max said) = Some said
said_by e = None

abbrev pub phase_after : Phase → ConnectionEvent → Phase
phase_after p e = if is_end e then phase.Dead else (if is_own_close e then phase.Closing else unwrap_or (opened_by e) p)

abbrev pub connection_after : ConnectionState → ConnectionEvent → ConnectionState
connection_after s e = record {
  config = s.config;
  phase = phase_after s.phase e;
  failed = is_failure e || s.failed;
  closed = is_peer_close e || s.closed;
  peer = if is_some (said_by e) then said_by e else s.peer;
  sessions = places_after session_begins session_after s.sessions (happens e);
}

-- Whether an event is accepted. ---------------------------------------------------------------------------------------

-- what the sessions of this connection may begin with [2.7.2]
pub record MayBeginWith (config : Configured) (terms : SessionTerms) : Type 0 where
  pub window : terms.incoming_window ≡ config.window
  pub first : terms.next_outgoing_id < 2 ^ 32
  pub handles : terms.handle_max ≤ config.handle_max

-- in which phase an event may come
abbrev pub IsTimely : Phase → ConnectionEvent → Type 0
IsTimely p HeaderCame = is_dead p ≡ false
IsTimely p HeaderRefused = is_dead p ≡ false
IsTimely p (Opened max_frame_size channel_max said) = p ≡ phase.Unopened
IsTimely p Broken = (is_dead p ≡ false) × (is_closing p ≡ false)
IsTimely p Failed = (is_dead p ≡ false) × (is_closing p ≡ false)
IsTimely p CloseAsked = is_open p ≡ true
IsTimely p PeerClosed = (is_open p || is_closing p) ≡ true
IsTimely p Lost = p ≡ phase.Closing
IsTimely p (Begun channel terms) = is_open p ≡ true
IsTimely p (InSession channel e) = is_open p ≡ true
IsTimely p (SessionFailed channel) = is_open p ≡ true
IsTimely p (SessionEnded channel) = is_open p ≡ true
IsTimely p Ignored = is_dead p ≡ false
IsTimely p Finished = Unit {0}

-- the highest channel is at most the one that is offered [2.4.1]
abbrev pub IsOffered : Configured → ConnectionEvent → Type 0
IsOffered config (Opened max_frame_size channel_max said) = channel_max ≤ config.channel_max
IsOffered config e = Unit {0}

-- a link begins with the bounds of its name [2.6.3]
abbrev pub HasBounds : Configured → Attached → Type 0
HasBounds config a = a.terms.bounds ≡ bounds_for config a.name

abbrev pub IsLimited : Configured → SessionEvent → Type 0
IsLimited config (LinkAttached handle a) = HasBounds config a
IsLimited config e = Unit {0}

-- the event may happen to a session of this connection
abbrev pub MayIn : Configured → SessionState → SessionEvent → Type 0
MayIn config s e = SessionMay s e × IsLimited config e

abbrev pub ConnectionMay : ConnectionState → ConnectionEvent → Type 0
ConnectionMay s e = IsTimely s.phase e × IsOffered s.config e × places_may (MayBeginWith s.config) (MayIn s.config) s.sessions (happens e)
