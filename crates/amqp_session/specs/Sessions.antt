-- One session of a receiver in plain numbers and lists, and what each event does to it (AMQP 1.0, part 2, sections 2.5 and 2.6).
use Rattle.std.specs.Prelude.{◌≡◌, ℕ, suc, ◌+◌, ◌-◌, ◌%◌, ◌^◌, ◌<◌, ◌≤◌, Bool, true, false, ◌&&◌, nat_lt, List, length, sum_by, Option, Some, None, is_none, unwrap_or, slice_get}
use Rattle.std.specs.List.{list_any}
use Rattle.std.specs.Option.{option_map_or}
use Rattle.amqp_link.specs.declared.terms.Terms.{Terms}
use Rattle.amqp_link.specs.Links.{Sent, LinkState, LinkEvent, Granted, DrainAsked, Transferred, FlowStated, HandedUp, ReceiverSettled, SenderSettled, link_begins, link_after, LinkMay, link_bytes}
use Rattle.amqp_link.specs.Links.{deliveries, has_id}
use Rattle.amqp_link.specs.Laws.{id_count}
use Rattle.amqp_link.specs.Histories.{one_if}
use Rattle.amqp_session.specs.declared.slot.Slot.{Slot}
use Rattle.amqp_session.specs.declared.slot.Slot.TheVariants.{Free, Live, Waits}
use Rattle.amqp_session.specs.declared.terms.SessionTerms.{SessionTerms}
use Rattle.amqp_session.specs.Places.{Happens, Nothing, Begins, GoesOn, AllGoOn, Leaves, Gone, live_in, tabulate, places_after, places_may}

-- what an attach fixes for the life of its link [2.7.3]
pub record Attached : Type 0 where
  pub name : List ℕ
  pub source : List ℕ  -- as it is encoded
  pub target : List ℕ
  pub terms : Terms

-- a live link
pub record LiveLink : Type 0 where
  pub name : List ℕ
  pub source : List ℕ
  pub target : List ℕ
  pub link : LinkState

abbrev pub live_begins : Attached → LiveLink
live_begins a = record { name = a.name; source = a.source; target = a.target; link = link_begins a.terms }

abbrev pub live_after : LiveLink → LinkEvent → LiveLink
live_after l e = record l { link = link_after l.link e }

abbrev pub live_may : LiveLink → LinkEvent → Type 0
live_may l e = LinkMay l.link e

-- A live session. Its links are in the order of their handles, from 0 to handle-max.
pub record SessionState : Type 0 where
  pub terms : SessionTerms
  pub window : ℕ  -- places of the incoming-window that are left [2.5.6]
  pub next_incoming_id : ℕ  -- the next-incoming-id [2.5.6]
  pub links : List (Slot LiveLink)

-- the number of handles of a session
abbrev pub handles : SessionTerms → ℕ
handles terms = suc terms.handle_max

-- a session at its begin [2.5.1]
abbrev pub session_begins : SessionTerms → SessionState
session_begins terms = record { terms = terms; window = terms.incoming_window; next_incoming_id = terms.next_outgoing_id; links = tabulate 0 (handles terms) (λ k. Free) }

-- what is at a handle; Free above handle-max
abbrev pub slot_at : SessionState → ℕ → Slot LiveLink
slot_at s handle = unwrap_or (slice_get s.links handle) Free

-- an open delivery of a live link has this id [2.6.12]
abbrev pub slot_has : ℕ → Slot LiveLink → Bool
slot_has id Free = false
slot_has id (Live l) = list_any (has_id id) (deliveries l.link)
slot_has id Waits = false

-- an open delivery of the session has this id
abbrev pub is_open_id : SessionState → ℕ → Bool
is_open_id s id = list_any (slot_has id) s.links

-- The transfer would begin a delivery with the id of an open one. [2.7.5]
abbrev pub is_reused : SessionState → LinkState → Sent → Bool
is_reused s l t = is_none l.unfinished && option_map_or (is_open_id s) t.delivery_id false

-- how many open deliveries at a handle have this id
abbrev pub slot_count : ℕ → Slot LiveLink → ℕ
slot_count id Free = 0
slot_count id (Live l) = id_count id l.link
slot_count id Waits = 0

-- how many open deliveries in the table have this id
abbrev pub table_count : ℕ → List (Slot LiveLink) → ℕ
table_count id slots = sum_by (slot_count id) slots

-- No two open deliveries of the session have the same id, and each id is a number of 32 bits. [2.6.12, 2.8.9]
abbrev pub IsApart : SessionState → Type 0
IsApart s = (id : ℕ) → table_count id s.links ≤ one_if (nat_lt id (2 ^ 32))

-- Bytes held. --------------------------------------------------------------------------------------------------------

-- 128 for each handle in use; for a live link also its name, source, target, and what its open deliveries hold
abbrev pub slot_bytes : Slot LiveLink → ℕ
slot_bytes Free = 0
slot_bytes (Live l) = 128 + length l.name + length l.source + length l.target + link_bytes l.link
slot_bytes Waits = 128

-- 64 for the session itself
abbrev pub session_bytes : SessionState → ℕ
session_bytes s = 64 + sum_by slot_bytes s.links

-- how many whole deliveries are dropped with what is at a handle: those that are ready
abbrev pub slot_ready : Slot LiveLink → ℕ
slot_ready Free = 0
slot_ready (Live l) = length l.link.ready
slot_ready Waits = 0

-- how many are dropped with the session
abbrev pub session_ready : SessionState → ℕ
session_ready s = sum_by slot_ready s.links

-- What happens to a session. ------------------------------------------------------------------------------------------

pub data SessionEvent : Type 0 where
  Widened : ℕ → SessionEvent  -- the window got this many more places
  LinkAttached : ℕ → Attached → SessionEvent  -- a link attached at this handle
  LinkRefused : ℕ → SessionEvent  -- the link that attached at this handle was refused
  TransferCame : ℕ → Sent → SessionEvent  -- a transfer came on the link with this handle
  TransferEnded : ℕ → SessionEvent  -- a transfer came that ended its link
  TransferDropped : ℕ → SessionEvent  -- a transfer came for a link that waits for the peer's detach
  FlowCame : ℕ → SessionEvent  -- a flow of the session stated this next-outgoing-id
  LinkFlowCame : ℕ → ℕ → Option ℕ → SessionEvent  -- a flow of the link with this handle stated this next-outgoing-id, and this delivery-count or none
  LinkFlowEnded : ℕ → ℕ → SessionEvent  -- a flow of the link with this handle, with this next-outgoing-id, ended the link
  PeerSettled : ℕ → ℕ → SessionEvent  -- the sender settled the ids from the first to the last
  Settled : ℕ → ℕ → SessionEvent  -- this side settled the ids from the first to the last, or told what became of them
  Ignored : SessionEvent  -- a frame came that changes nothing
  PeerDetached : ℕ → SessionEvent  -- the peer detached the link with this handle
  Detached : ℕ → SessionEvent  -- this side detached the link with this handle
  Called : ℕ → LinkEvent → SessionEvent  -- a call for the link with this handle: credit, drain, or a delivery handed up

-- what happens at the handles with an event
abbrev pub happens : SessionEvent → Happens Attached LinkEvent
happens (LinkAttached handle a) = Begins handle a
happens (LinkRefused handle) = Leaves handle
happens (TransferCame handle t) = GoesOn handle (Transferred t)
happens (TransferEnded handle) = Leaves handle
happens (LinkFlowCame handle next_id count) = GoesOn handle (FlowStated count)
happens (LinkFlowEnded handle next_id) = Leaves handle
happens (PeerSettled first last) = AllGoOn (SenderSettled first last)
happens (Settled first last) = AllGoOn (ReceiverSettled first last)
happens (PeerDetached handle) = Gone handle
happens (Detached handle) = Leaves handle
happens (Called handle e) = GoesOn handle e
happens e = Nothing

-- The event is a transfer: each one uses a place of the window and a number, whatever it results in. [2.5.6]
abbrev pub is_transfer : SessionEvent → Bool
is_transfer (TransferCame handle t) = true
is_transfer (TransferEnded handle) = true
is_transfer (TransferDropped handle) = true
is_transfer e = false

-- the places that an event adds to the window
abbrev pub widened_by : SessionEvent → ℕ
widened_by (Widened n) = n
widened_by e = 0

-- the next-outgoing-id that an event states [2.7.4]
abbrev pub stated_by : SessionEvent → Option ℕ
stated_by (FlowCame next_id) = Some next_id
stated_by (LinkFlowCame handle next_id count) = Some next_id
stated_by (LinkFlowEnded handle next_id) = Some next_id
stated_by e = None

-- The session after an event. A transfer uses a place of the incoming-window and adds 1 to next-incoming-id. A next-outgoing-id that the peer states replaces
-- next-incoming-id, whatever gap that leaves, and never changes the window. [2.5.6]
abbrev pub session_after : SessionState → SessionEvent → SessionState
session_after s e = record {
  terms = s.terms;
  window = s.window + widened_by e - one_if (is_transfer e);
  next_incoming_id = (unwrap_or (stated_by e) s.next_incoming_id + one_if (is_transfer e)) % 2 ^ 32;
  links = places_after live_begins live_after s.links (happens e);
}

-- Whether an event is accepted. -----------------------------------------------------------------------------------------

-- what a link may begin with: its name, and its source and target together, are short
pub record IsAttached (a : Attached) : Type 0 where
  pub name : length a.name ≤ 255
  pub ends : length a.source + length a.target ≤ 1024
  pub count : a.terms.initial_delivery_count < 2 ^ 32

-- the window is widened to fewer than 2 ^ 31 places, and a transfer needs a place of it [2.5.6]
abbrev pub HasRoom : SessionState → SessionEvent → Type 0
HasRoom s (Widened n) = s.window + n < 2 ^ 31
HasRoom s (TransferCame handle t) = 1 ≤ s.window
HasRoom s (TransferEnded handle) = 1 ≤ s.window
HasRoom s (TransferDropped handle) = 1 ≤ s.window
HasRoom s e = Unit {0}

-- a call for one link [2.6.7, 2.6.12]
abbrev pub IsCall : LinkEvent → Type 0
IsCall (Granted n) = Unit {0}
IsCall DrainAsked = Unit {0}
IsCall (HandedUp d) = Unit {0}
IsCall e = ⊥

-- a delivery begins with an id of 32 bits that no open delivery of the session has [2.6.12]
pub record IsNew (s : SessionState) (l : Option LiveLink) (t : Sent) : Type 0 where
  pub number : unwrap_or t.delivery_id 0 < 2 ^ 32
  pub free : option_map_or (λ l. is_reused s l.link t) l false ≡ false

-- a transfer begins no delivery with the id of an open one, and the event of a call for one link is such a call
abbrev pub IsProper : SessionState → SessionEvent → Type 0
IsProper s (TransferCame handle t) = IsNew s (live_in (slot_at s handle)) t
IsProper s (Called handle e) = IsCall e
IsProper s e = Unit {0}

abbrev pub SessionMay : SessionState → SessionEvent → Type 0
SessionMay s e = HasRoom s e × IsProper s e × places_may (IsAttached) live_may s.links (happens e)
