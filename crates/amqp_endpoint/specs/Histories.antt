-- The history of one connection: a list of its events, newest first. Its state follows by selections over the whole list and from the part of it that each
-- session has (AMQP 1.0, part 2, sections 2.4 and 2.5).
use Rattle.std.specs.Prelude.{◌≡◌, ℕ, ◌≤◌, false, if◌then◌else◌, List, [], ◌∷◌, Option, None, is_some, unwrap_or}
use Rattle.std.specs.List.{list_any}
use Rattle.amqp_session.specs.declared.slot.Slot.{Slot}
use Rattle.amqp_session.specs.declared.slot.Slot.TheVariants.{Free}
use Rattle.amqp_session.specs.declared.terms.SessionTerms.{SessionTerms}
use Rattle.amqp_session.specs.Places.{Life, IfLive, life_after, states, AreSound}
use Rattle.amqp_link.specs.Links.{LinkEvent}
use Rattle.amqp_session.specs.Sessions.{Attached, SessionEvent}
use Rattle.amqp_session.specs.Histories as lived
use Rattle.amqp_endpoint.specs.declared.phase.Phase.{Phase}
use Rattle.amqp_endpoint.specs.declared.phase.Phase.TheVariants as phase
use Rattle.amqp_endpoint.specs.declared.introduction.Introduction.{Introduction}
use Rattle.amqp_endpoint.specs.Configs.{Configured}
use Rattle.amqp_endpoint.specs.Connections.{ConnectionState, ConnectionEvent, channels, channel_limit, is_open, connection_begins, connection_after, ConnectionMay, MayBeginWith, HasBounds, happens, is_end}
use Rattle.amqp_endpoint.specs.Connections.{is_own_close, is_failure, is_peer_close, opened_by, said_by}

-- what the peer's open fixed, if it came
abbrev pub opening_in : List ConnectionEvent → Option Phase
opening_in [] = None
opening_in (e ∷ h) = if is_some (opened_by e) then opened_by e else opening_in h

-- what the peer said of itself there
abbrev pub peer_in : List ConnectionEvent → Option Introduction
peer_in [] = None
peer_in (e ∷ h) = if is_some (said_by e) then said_by e else peer_in h

-- The phase: over once anything ended it; else closing once this side closed; else open once the peer's open came. [2.4.6]
abbrev pub phase_of : List ConnectionEvent → Phase
phase_of h = if list_any is_end h then phase.Dead else (if list_any is_own_close h then phase.Closing else unwrap_or (opening_in h) phase.Unopened)

-- The part of the history that the session now on a channel has: what it began with and its events, newest first. A session that is gone has none.
abbrev pub part : ℕ → List ConnectionEvent → Slot (Life SessionTerms SessionEvent)
part channel [] = Free
part channel (e ∷ h) = life_after channel (happens e) (part channel h)

abbrev pub state_of : Configured → List ConnectionEvent → ConnectionState
state_of config h = record {
  config = config;
  phase = phase_of h;
  failed = list_any is_failure h;
  closed = list_any is_peer_close h;
  peer = peer_in h;
  sessions = states lived.state_of (channels config) (λ channel. part channel h);
}

-- what holds for each part
pub record IsSoundPart (config : Configured) (terms : SessionTerms) (h : List SessionEvent) : Type 0 where
  pub begun : MayBeginWith config terms
  pub session : lived.Sound terms h
  -- every live link has the bounds of its name
  pub limited : (handle : ℕ) → IfLive (λ (life : Life Attached LinkEvent). HasBounds config life.0) (lived.part handle h)

-- what holds for every history of accepted events
pub record Sound (config : Configured) (h : List ConnectionEvent) : Type 0 where
  -- the highest channel is at most the one that is offered
  pub limit : channel_limit (phase_of h) ≤ config.channel_max
  -- every live session is sound
  pub sessions : AreSound (IsSoundPart config) (channels config) (λ channel. part channel h)
  -- there are sessions only while the connection is open
  pub none : is_open (phase_of h) ≡ false → (channel : ℕ) → part channel h ≡ Free

-- the connection after all these events, step by step
abbrev pub after_all : Configured → List ConnectionEvent → ConnectionState
after_all config [] = connection_begins config
after_all config (e ∷ h) = connection_after (after_all config h) e

-- each event was accepted
abbrev pub Accepted : Configured → List ConnectionEvent → Type 0
Accepted config [] = Unit {0}
Accepted config (e ∷ h) = Accepted config h × ConnectionMay (after_all config h) e
