-- The state of a connection whose one link has attached, on the message level. [2.5.6, 2.6]
use Rattle.std.specs.Prelude.{◌≡◌, ℕ, suc, ◌+◌, ◌-◌, ◌%◌, ◌^◌, List, [], ◌∷◌, unwrap_or}
use Rattle.amqp_link.specs.Histories.{one_if}
use Rattle.amqp_link.specs.Links.{LinkEvent}
use Rattle.amqp_session.specs.declared.slot.Slot.{Slot}
use Rattle.amqp_session.specs.declared.slot.Slot.TheVariants.{Free, Live}
use Rattle.amqp_session.specs.Places.{Happens, slot_after}
use Rattle.amqp_session.specs.Sessions.{Attached, LiveLink, SessionState, SessionEvent, live_begins, live_after, happens, is_transfer, widened_by, stated_by}
use Rattle.amqp_endpoint.specs.Connections.{ConnectionState, InSession, connection_after}
use Rattle.amqp_pair.specs.Reading.{IsOpened}
use Rattle.amqp_pair.specs.World.{World}

abbrev pub AreFree : List (Slot LiveLink) → Type 0
AreFree [] = Unit {0}
AreFree (s ∷ slots) = (s ≡ Free) × AreFree slots

-- A session lives on channel 0, with one link, at handle 0: window, next-incoming-id and link are those of the message level.
pub record Stands (s : ConnectionState) (w : World) : Type 0 where
  pub opened : IsOpened s
  pub session : SessionState
  pub others : List (Slot SessionState)
  pub sessions : s.sessions ≡ Live session ∷ others
  pub link : LiveLink
  pub frees : List (Slot LiveLink)
  pub links : session.links ≡ Live link ∷ frees
  pub free : AreFree frees
  pub same : link.link ≡ w.link
  pub places : session.window ≡ w.places
  pub next : session.next_incoming_id ≡ w.next

-- the message level after an event of the session that leaves this link
abbrev pub behind : World → SessionEvent → LiveLink → World
behind w e l = record w {
  link = l.link;
  places = w.places + widened_by e - one_if (is_transfer e);
  next = (unwrap_or (stated_by e) w.next + one_if (is_transfer e)) % 2 ^ 32;
}

-- The connection is still so after an event that goes on with the link, and begins none elsewhere.
abbrev pub StandsLaw : Type 0
StandsLaw = (s : ConnectionState) (w : World) (e : SessionEvent) (x : Happens Attached LinkEvent) (l : LiveLink) → (a : Stands s w) → happens e ≡ x
    → slot_after live_begins live_after 0 x (Live a.link) ≡ Live l → ((k : ℕ) → slot_after live_begins live_after (suc k) x Free ≡ Free) → Stands (connection_after s (InSession 0 e)) (behind w e l)
