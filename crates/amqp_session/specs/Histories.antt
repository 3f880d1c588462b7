-- The history of one session, its events newest first. Its state follows by sums over the list and from each link's part of it, in plain numbers (AMQP 1.0, part 2, 2.5 and 2.6).
use Rattle.std.specs.Prelude.{ℕ, ◌+◌, ◌-◌, ◌%◌, ◌^◌, ◌<◌, ◌≤◌, List, [], ◌∷◌, Option, Some, None}
use Rattle.amqp_link.specs.Links.{LinkEvent}
use Rattle.amqp_link.specs.Histories as link
use Rattle.amqp_session.specs.declared.slot.Slot.{Slot}
use Rattle.amqp_session.specs.declared.slot.Slot.TheVariants.{Free}
use Rattle.amqp_session.specs.declared.terms.SessionTerms.{SessionTerms}
use Rattle.amqp_session.specs.Places.{Life, life_after, states, AreSound}
use Rattle.amqp_link.specs.Histories.{one_if}
use Rattle.amqp_session.specs.Sessions.{Attached, LiveLink, SessionState, SessionEvent, happens, is_transfer, widened_by, stated_by, session_begins, session_after, SessionMay, IsAttached}
use Rattle.amqp_session.specs.Sessions.{IsApart, handles}

-- all places that were added to the window
abbrev pub widenings : List SessionEvent → ℕ
widenings [] = 0
widenings (e ∷ h) = widenings h + widened_by e

-- how many transfers came
abbrev pub transfers : List SessionEvent → ℕ
transfers [] = 0
transfers (e ∷ h) = transfers h + one_if (is_transfer e)

-- the window: that of the begin plus what was added, less a place for each transfer [2.5.6]
abbrev pub window : SessionTerms → List SessionEvent → ℕ
window terms h = terms.incoming_window + widenings h - transfers h

-- a next-outgoing-id that is stated replaces the known one [2.5.6]
abbrev pub counted_from : Option ℕ → ℕ → ℕ
counted_from None known = known
counted_from (Some stated) known = stated

-- the next-outgoing-id that the peer stated last, by its begin or a flow
abbrev pub last_stated : SessionTerms → List SessionEvent → ℕ
last_stated terms [] = terms.next_outgoing_id
last_stated terms (e ∷ h) = counted_from (stated_by e) (last_stated terms h)

-- a count that restarts at 0 when a next-outgoing-id is stated
abbrev pub restarted : Option ℕ → ℕ → ℕ
restarted None n = n
restarted (Some stated) n = 0

-- how many transfers came since a next-outgoing-id was stated last
abbrev pub since_stated : List SessionEvent → ℕ
since_stated [] = 0
since_stated (e ∷ h) = restarted (stated_by e) (since_stated h) + one_if (is_transfer e)

-- next-incoming-id: the next-outgoing-id stated last plus 1 for each transfer since then, modulo 2^32 [2.5.6]
abbrev pub next_id : SessionTerms → List SessionEvent → ℕ
next_id terms h = (last_stated terms h + since_stated h) % 2 ^ 32

-- The part of the history that the link now at a handle has: what it attached with and its events, newest first. A link that is gone has none.
abbrev pub part : ℕ → List SessionEvent → Slot (Life Attached LinkEvent)
part handle [] = Free
part handle (e ∷ h) = life_after handle (happens e) (part handle h)

-- a live link, from its part
abbrev pub live_state : Attached → List LinkEvent → LiveLink
live_state a h = record { name = a.name; source = a.source; target = a.target; link = link.state_of a.terms h }

abbrev pub state_of : SessionTerms → List SessionEvent → SessionState
state_of terms h = record {
  terms = terms;
  window = window terms h;
  next_incoming_id = next_id terms h;
  links = states live_state (handles terms) (λ handle. part handle h);
}

-- what holds for each part
pub record IsSoundPart (terms : SessionTerms) (a : Attached) (h : List LinkEvent) : Type 0 where
  pub attached : IsAttached a
  pub link : link.Sound a.terms h

-- what holds for every history of accepted events
pub record Sound (terms : SessionTerms) (h : List SessionEvent) : Type 0 where
  -- no more transfers came than the window had places
  pub spent : transfers h ≤ terms.incoming_window + widenings h
  -- the window is below 2 ^ 31
  pub narrow : window terms h < 2 ^ 31
  -- every live link is sound
  pub links : AreSound (IsSoundPart terms) (handles terms) (λ handle. part handle h)
  -- no two open deliveries have the same id
  pub apart : IsApart (state_of terms h)

-- the session after all these events, step by step
abbrev pub after_all : SessionTerms → List SessionEvent → SessionState
after_all terms [] = session_begins terms
after_all terms (e ∷ h) = session_after (after_all terms h) e

-- each event was accepted
abbrev pub Accepted : SessionTerms → List SessionEvent → Type 0
Accepted terms [] = Unit {0}
Accepted terms (e ∷ h) = Accepted terms h × SessionMay (after_all terms h) e
