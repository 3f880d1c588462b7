-- What was handed up over the history of a connection, and from which link. Each attach at a handle of the sessions on a channel begins the next life there (AMQP 1.0, part 2, 2.6.2 and
-- 2.6.14).
use Rattle.std.specs.Prelude.{◌≡◌, ℕ, suc, ◌+◌, ◌%◌, ◌^◌, ◌≤◌, Bool, true, false, not, ◌&&◌, nat_eq, if◌then◌else◌, List, [], ◌∷◌, length, take, drop, map, filter, Option, None, option_map}
use Rattle.amqp_link.specs.Links.{LinkEvent, Delivery, open_count}
use Rattle.amqp_link.specs.Histories as link
use Rattle.amqp_link.specs.Histories.{followed_by, handed_up_by, wholes, Content, content, shown}
use Rattle.amqp_session.specs.declared.slot.Slot.{Slot}
use Rattle.amqp_session.specs.declared.slot.Slot.TheVariants.{Free, Live, Waits}
use Rattle.amqp_session.specs.declared.terms.SessionTerms.{SessionTerms}
use Rattle.amqp_session.specs.Histories as session
use Rattle.amqp_session.specs.Places.{Life}
use Rattle.amqp_session.specs.Sessions as of_session
use Rattle.amqp_session.specs.Sessions.{Attached, LiveLink, SessionState, SessionEvent}
use Rattle.amqp_endpoint.specs.Configs.{Configured, bounds_for}
use Rattle.amqp_endpoint.specs.Connections.{ConnectionState, ConnectionEvent, InSession, slot_at}
use Rattle.amqp_endpoint.specs.Histories.{part}
use Rattle.amqp_endpoint.specs.Runs.{Handed, handed_of}

-- What was handed up. -------------------------------------------------------------------------------------------------

-- a message that was handed up, and its link: the channel, the handle, and how many links had attached there by then
pub record Taking : Type 0 where
  pub channel : ℕ
  pub handle : ℕ
  pub life : ℕ
  pub handed : Handed

-- a link attaches at this handle
abbrev pub attaches_at : ℕ → SessionEvent → Bool
attaches_at handle (of_session.LinkAttached place a) = nat_eq place handle
attaches_at handle e = false

-- a link attaches at this handle of the session on this channel
abbrev pub attaches_on : ℕ → ℕ → ConnectionEvent → Bool
attaches_on channel handle (InSession place e) = nat_eq place channel && attaches_at handle e
attaches_on channel handle e = false

-- how many links have attached at this handle of the sessions on this channel
abbrev pub lives : ℕ → ℕ → List ConnectionEvent → ℕ
lives channel handle [] = 0
lives channel handle (e ∷ h) = if attaches_on channel handle e then suc (lives channel handle h) else lives channel handle h

-- the delivery that an event of a session hands up, with the handle of its link
abbrev pub handed_up_in : SessionEvent → Option (ℕ × Delivery)
handed_up_in (of_session.Called handle e) = option_map (λ d. (handle, d)) (handed_up_by e)
handed_up_in e = None

abbrev pub taking_on : ℕ → List ConnectionEvent → ℕ × Delivery → Taking
taking_on channel h x = record { channel = channel; handle = x.0; life = lives channel x.0 h; handed = handed_of x.1 }

-- what an event after these hands up
abbrev pub taking_by : List ConnectionEvent → ConnectionEvent → Option Taking
taking_by h (InSession channel e) = option_map (taking_on channel h) (handed_up_in e)
taking_by h e = None

-- all that was handed up, in order
abbrev pub takings : List ConnectionEvent → List Taking
takings [] = []
takings (e ∷ h) = followed_by (takings h) (taking_by h e)

-- it is a message of this life of a link
abbrev pub is_of : ℕ → ℕ → ℕ → Taking → Bool
is_of channel handle life t = nat_eq t.channel channel && nat_eq t.handle handle && nat_eq t.life life

-- what was handed up in one life of a link, in order
abbrev pub taken_in : ℕ → ℕ → ℕ → List ConnectionEvent → List Handed
taken_in channel handle life h = map (λ t. t.handed) (filter (is_of channel handle life) (takings h))

-- Lives of links. -----------------------------------------------------------------------------------------------------

abbrev pub part_in : ℕ → Slot (Life SessionTerms SessionEvent) → Slot (Life Attached LinkEvent)
part_in handle Free = Free
part_in handle (Live l) = session.part handle l.1
part_in handle Waits = Free

-- what is live now, if it is the one looked for, else what was live before
abbrev pub lived_or : {T : Type 0} → Bool → Slot T → Slot T → Slot T
lived_or true (Live x) before = Live x
lived_or true Free before = before
lived_or true Waits before = before
lived_or false now before = before

-- The part of the history that the link now at a handle of the session now on a channel has: what it attached with and its events, newest first.
abbrev pub link_part : ℕ → ℕ → List ConnectionEvent → Slot (Life Attached LinkEvent)
link_part channel handle h = part_in handle (part channel h)

-- The part of the history of the link of this life, when it was live last.
abbrev pub last_part : ℕ → ℕ → ℕ → List ConnectionEvent → Slot (Life Attached LinkEvent)
last_part channel handle life [] = Free
last_part channel handle life (e ∷ h) = lived_or (nat_eq (lives channel handle (e ∷ h)) life) (link_part channel handle (e ∷ h)) (last_part channel handle life h)

abbrev pub link_in : ℕ → Slot SessionState → Slot LiveLink
link_in handle Free = Free
link_in handle (Live s) = of_session.slot_at s handle
link_in handle Waits = Free

-- what is at a handle of the session on a channel
abbrev pub link_at : ConnectionState → ℕ → ℕ → Slot LiveLink
link_at s channel handle = link_in handle (slot_at s channel)

-- the part of a message that was handed up that never changes once its delivery is whole
abbrev pub content_of : Handed → Content
content_of d = record { delivery_id = d.delivery_id; delivery_tag = d.delivery_tag; message_format = d.message_format; message = d.message }

-- the events of a part
abbrev pub past_in : Slot (Life Attached LinkEvent) → List LinkEvent
past_in Free = []
past_in (Live x) = x.1
past_in Waits = []

-- The messages are the first of the whole deliveries of a part, in order, each once, none skipped.
abbrev pub AreFirst : Slot (Life Attached LinkEvent) → List Handed → Type 0
AreFirst part taken = map content_of taken ≡ map content (take (length taken) (wholes (past_in part)))

-- A live link with this part of the history. In its life this much credit was granted, and these messages were taken. It is what that part results in.
pub record HasItsPart (config : Configured) (part : Slot (Life Attached LinkEvent)) (granted : ℕ) (taken : List Handed) (l : LiveLink) : Type 0 where
  pub attached : Attached
  pub past : List LinkEvent
  pub stands : part ≡ Live (attached, past)
  pub is : l ≡ session.live_state attached past
  -- the messages that were taken are the first of its whole deliveries, in order, each once, none skipped
  pub first : AreFirst (Live (attached, past)) taken
  -- each was settled or not as it was when it was taken
  pub stood : taken ≡ map handed_of (link.given attached.terms past)
  -- the deliveries that are ready to be taken are the other whole ones
  pub ready : l.link.ready ≡ map (shown attached.terms past) (drop (length taken) (wholes past))
  -- its credit is all that was granted, less what heads and advances used
  pub credit : l.link.credit + link.heads past + link.advances attached.terms past ≡ granted
  -- its delivery-count is the initial one plus what heads and advances added, modulo 2^32
  pub count : l.link.delivery_count ≡ (attached.terms.initial_delivery_count + link.heads past + link.advances attached.terms past) % 2 ^ 32
  -- its sender is asked to use its credit up if that was requested, and nothing since then ended it
  pub draining : l.link.draining ≡ link.draining attached.terms past
  -- those that were taken and are not settled await settlement, whether or not the sender was told of them
  pub awaiting : l.link.awaiting ≡ map (link.shown_awaiting attached.terms past) (filter (λ g. not (link.is_settled attached.terms past g)) (take (length taken) (wholes past)))
  -- its open deliveries are those that are neither given up nor both taken and settled
  pub opened : open_count l.link ≡ length (filter (link.is_open attached.terms past) (link.groups past))
  -- credit and open deliveries are together within what is allowed
  pub within : l.link.credit + open_count l.link ≤ (bounds_for config l.name).allowed

-- A link is live there, and no delivery of it is ready to be taken.
pub record HasNoneReady (s : ConnectionState) (channel handle : ℕ) : Type 0 where
  pub link : LiveLink
  pub stands : link_at s channel handle ≡ Live link
  pub none : link.link.ready ≡ []
