-- What the laws of a session use, besides its states and its history.
use Rattle.std.specs.Prelude.{◌*◌, ◌≡◌, ℕ, ◌+◌, ◌^◌, ◌<◌, not, nat_eq, if◌then◌else◌, List, [], ◌∷◌, ◌++◌, length, filter, sum_by, Some, None}
use Rattle.std.specs.List.{count_by}
use Rattle.amqp_link.specs.Bounds.{Bounds}
use Rattle.amqp_link.specs.Links.{LinkEvent, open_set, named_count}
use Rattle.amqp_link.specs.Laws.{is_named_by}
use Rattle.amqp_link.specs.Histories as link
use Rattle.amqp_session.specs.declared.slot.Slot.{Slot}
use Rattle.amqp_session.specs.declared.slot.Slot.TheVariants.{Free, Live, Waits}
use Rattle.amqp_session.specs.declared.terms.SessionTerms.{SessionTerms}
use Rattle.amqp_session.specs.Places.{Happens, Nothing, Begins, GoesOn, AllGoOn, Leaves, Gone, AllGone, Life, tabulate}
use Rattle.amqp_session.specs.Sessions.{Attached, LiveLink, SessionState, slot_at, SessionEvent, happens, stated_by, handles}
use Rattle.amqp_session.specs.Histories.{part}
use Rattle.amqp_session.specs.Faults.{is_free}
use Rattle.amqp_session.specs.Calls.{Call, Settle, SettleRange, SettleWith, SettleRangeWith}
use Rattle.amqp_session.specs.Frames.{Frame, Transfers}

-- the delivery-ids of a call have 32 bits [2.8.9]
abbrev pub IsCallInRange : Call → Type 0
IsCallInRange (Settle id outcome) = id < 2 ^ 32
IsCallInRange (SettleRange first last outcome) = (first < 2 ^ 32) × (last < 2 ^ 32)
IsCallInRange (SettleWith id r) = id < 2 ^ 32
IsCallInRange (SettleRangeWith first last r) = (first < 2 ^ 32) × (last < 2 ^ 32)
IsCallInRange c = Unit {0}

-- Parts. ------------------------------------------------------------------------------------------------------------------

-- the part of the history that each handle has
abbrev pub parts : SessionTerms → List SessionEvent → List (Slot (Life Attached LinkEvent))
parts terms h = tabulate 0 (handles terms) (λ handle. part handle h)

-- It is no event of place k: it happens at another place, or at none.
abbrev pub IsElsewhere : {B E : Type 0} → ℕ → Happens B E → Type 0
IsElsewhere k Nothing = Unit {0}
IsElsewhere k (Begins place begin) = place ≡ k → ⊥
IsElsewhere k (GoesOn place e) = place ≡ k → ⊥
IsElsewhere k (AllGoOn e) = ⊥
IsElsewhere k (Leaves place) = place ≡ k → ⊥
IsElsewhere k (Gone place) = place ≡ k → ⊥
IsElsewhere k AllGone = ⊥

-- the frame is a transfer
abbrev pub IsOfTransfer : Frame → Type 0
IsOfTransfer (Transfers handle t) = Unit {0}
IsOfTransfer f = ⊥

-- the credit of the link at a place; 0 if none is live there
abbrev pub credit_in : Slot LiveLink → ℕ
credit_in Free = 0
credit_in (Live l) = l.link.credit
credit_in Waits = 0

abbrev pub credit_at : SessionState → ℕ → ℕ
credit_at s handle = credit_in (slot_at s handle)

-- the credit that is granted at a place
abbrev pub granted_in : {B : Type 0} → ℕ → Happens B LinkEvent → ℕ
granted_in k Nothing = 0
granted_in k (Begins place begin) = 0
granted_in k (GoesOn place e) = if nat_eq place k then link.granted_by e else 0
granted_in k (AllGoOn e) = link.granted_by e
granted_in k (Leaves place) = 0
granted_in k (Gone place) = 0
granted_in k AllGone = 0

abbrev pub granted_at : ℕ → SessionEvent → ℕ
granted_at handle e = granted_in handle (happens e)

-- the most bytes held for a link with these bounds: 128 for itself, a name of 255, ends of 1024, and for each allowed delivery its message and 96
abbrev pub link_most : Bounds → ℕ
link_most b = 1407 + b.allowed * (b.max_message_size + 96)

-- The most bytes held for a handle: for a live link what its bounds allow. A link that waits for the peer's detach has 128 for itself. [2.6.6]
abbrev pub slot_most : Slot LiveLink → ℕ
slot_most Free = 0
slot_most (Live l) = link_most l.link.terms.bounds
slot_most Waits = 128

-- how many handles are in use: those of live links, and of links that wait for the peer's detach [2.6.2]
abbrev pub used_count : SessionState → ℕ
used_count s = count_by (λ x. not (is_free x)) s.links

-- The bytes held for a part: 128 for its link, its name, source and target, and what is held of each open delivery.
abbrev pub part_bytes : Slot (Life Attached LinkEvent) → ℕ
part_bytes Free = 0
part_bytes (Live l) =
    128 + length l.0.name + length l.0.source + length l.0.target + sum_by (link.kept_bytes l.1) (filter (link.is_open l.0.terms l.1) (link.groups l.1))
part_bytes Waits = 128

-- how many open deliveries of a part a disposition of the sender over these ids settles [2.7.6]
abbrev pub part_settled : ℕ → ℕ → Slot (Life Attached LinkEvent) → ℕ
part_settled first last Free = 0
part_settled first last (Live l) = length (filter (link.is_settled_by l.0.terms l.1 first last) (link.groups l.1))
part_settled first last Waits = 0

-- how many open deliveries at a handle a settle of these ids by this side names: they were handed up, and have one of the ids [2.7.6]
abbrev pub slot_named : ℕ → ℕ → Slot LiveLink → ℕ
slot_named first last Free = 0
slot_named first last (Live l) = named_count first last (open_set l.link)
slot_named first last Waits = 0

-- how many it names in the session
abbrev pub named_total : ℕ → ℕ → SessionState → ℕ
named_total first last s = sum_by (slot_named first last) s.links

-- how many it names of a part
abbrev pub part_named : ℕ → ℕ → Slot (Life Attached LinkEvent) → ℕ
part_named first last Free = 0
part_named first last (Live l) = length (filter (is_named_by l.0.terms l.1 first last) (link.groups l.1))
part_named first last Waits = 0

-- The next-outgoing-id. -------------------------------------------------------------------------------------------------------

-- none of these events states a next-outgoing-id
abbrev pub NoneStates : List SessionEvent → Type 0
NoneStates [] = Unit {0}
NoneStates (e ∷ h) = (stated_by e ≡ None) × NoneStates h

-- The peer stated this next-outgoing-id last, before these events, the newest first. [2.7.4]
pub record IsStatedBefore (next_id : ℕ) (later h : List SessionEvent) : Type 0 where
  pub event : SessionEvent
  pub before : List SessionEvent
  pub split : h ≡ later ++ event ∷ before
  pub states : stated_by event ≡ Some next_id
  pub since : NoneStates later
