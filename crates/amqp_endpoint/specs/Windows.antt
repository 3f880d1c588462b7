-- The window of a session over the history of an endpoint (AMQP 1.0, part 2, section 2.5.6).
use Rattle.std.specs.Prelude.{◌≡◌, ◌+◌, ◌%◌, ◌^◌, ◌<◌, List}
use Rattle.amqp_session.specs.declared.slot.Slot.{Slot}
use Rattle.amqp_session.specs.declared.slot.Slot.TheVariants.{Live}
use Rattle.amqp_session.specs.declared.terms.SessionTerms.{SessionTerms}
use Rattle.amqp_session.specs.Histories as session
use Rattle.amqp_session.specs.Places.{Life}
use Rattle.amqp_session.specs.Sessions.{SessionState, SessionEvent}
use Rattle.amqp_endpoint.specs.Configs.{Configured}

-- A live session with this part of the history. It is what that part results in.
pub record HasItsWindow (config : Configured) (part : Slot (Life SessionTerms SessionEvent)) (s : SessionState) : Type 0 where
  pub terms : SessionTerms
  pub past : List SessionEvent
  pub stands : part ≡ Live (terms, past)
  pub is : s ≡ session.state_of terms past
  -- its window is the places that it began with plus all that were added, less one for each transfer
  pub window : s.window + session.transfers past ≡ config.window + session.widenings past
  pub narrow : s.window < 2 ^ 31
  -- its next-incoming-id is the number that the peer stated last plus the transfers since then, modulo 2^32
  pub next : s.next_incoming_id ≡ (session.last_stated terms past + session.since_stated past) % 2 ^ 32
