-- The live link at a handle of a session, and the session with another state of that link.
use Rattle.std.specs.Prelude.{◌≡◌, ℕ, ◌+◌, ◌-◌, ◌%◌, ◌^◌, Option, Some, option_map, slice_set}
use Rattle.amqp_link.specs.Links.{LinkState, ReceiverSettled, link_after}
use Rattle.amqp_session.specs.declared.slot.Slot.{Slot}
use Rattle.amqp_session.specs.Places.{slot_map, live_in}
use Rattle.amqp_session.specs.Sessions.{LiveLink, SessionState, slot_at}

-- a live link with this state
abbrev pub relinked : LiveLink → LinkState → LiveLink
relinked l w = record l { link = w }

abbrev pub slot_relinked : Slot LiveLink → LinkState → Slot LiveLink
slot_relinked s w = slot_map (λ l. relinked l w) s

-- the link at a place, if one is live
abbrev pub link_in : Slot LiveLink → Option LinkState
link_in s = option_map (λ l. l.link) (live_in s)

abbrev pub link_at : SessionState → ℕ → Option LinkState
link_at s handle = link_in (slot_at s handle)

abbrev pub with_link : SessionState → ℕ → LinkState → SessionState
with_link s handle w = record s { links = slice_set s.links handle (slot_relinked (slot_at s handle) w) }

-- the session after a transfer, whatever it results in: it takes a place of the window, and a number [2.5.6]
abbrev pub counted : SessionState → SessionState
counted s = record s { window = s.window - 1; next_incoming_id = (s.next_incoming_id + 1) % 2 ^ 32 }

-- the receiver settled the id on the live link at a handle, and nothing else happened
abbrev pub HasSettled : SessionState → SessionState → ℕ → ℕ → Type 0
HasSettled old new handle id = (t : LinkState) × (Some t ≡ link_at old handle) × (new ≡ with_link old handle (link_after t (ReceiverSettled id id)))
