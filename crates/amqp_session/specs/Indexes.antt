-- Where the open deliveries of a session are stored, by their ids: which links have them, and under which keys.
use Rattle.std.specs.Prelude.{◌≡◌, ℕ, ◌≤◌, ◌<◌, ◌^◌, Bool, true, false, ◌&&◌, nat_eq, nat_lt, if◌then◌else◌, List, [], ◌∷◌, map, Option, Some, None, is_none, option_map}
use Rattle.std.specs.List.{list_any}
use Rattle.std.specs.Map.{lookup}
use Rattle.std.specs.Ordering.{nat_cmp}
use Rattle.std.specs.BTreeMap.{is_at}
use Rattle.amqp_session.specs.declared.index.Kept.{Kept}
use Rattle.amqp_link.specs.declared.transfer.Verdict.{Verdict}
use Rattle.amqp_link.specs.declared.transfer.Verdict.TheVariants.{Begins, GoesOn, Passes, GivesUp, Fails}
use Rattle.amqp_link.specs.Links.{Sent, LinkState, ReceiverSettled, SenderSettled, deliveries, fault_of, open_set, IsOnce}
use Rattle.amqp_session.specs.declared.slot.Slot.{Slot}
use Rattle.amqp_session.specs.declared.slot.Slot.TheVariants.{Free, Live, Waits}
use Rattle.amqp_link.specs.Histories.{one_if}
use Rattle.amqp_session.specs.declared.report.Report.{Report}
use Rattle.amqp_session.specs.declared.report.Report.TheVariants as report
use Rattle.amqp_session.specs.Places.{live_in}
use Rattle.amqp_session.specs.Sessions.{LiveLink, SessionState, slot_at, slot_count, IsApart}
use Rattle.amqp_link.specs.declared.settlement.Standing.{Standing}
use Rattle.amqp_link.specs.declared.settlement.Standing.TheVariants.{Absent, Untaken, Told, Awaiting}
use Rattle.amqp_session.specs.Calls.{slot_standing, is_absent}
use Rattle.amqp_session.specs.Slots.{at_place, slot_called}

-- where the delivery with this id is stored
abbrev pub found : List (ℕ × Kept) → ℕ → Option Kept
found entries id = lookup (is_at (nat_cmp id)) entries

-- the delivery that began last, before the others
abbrev pub beside : Option (ℕ × Kept) → List (ℕ × Kept) → List (ℕ × Kept)
beside None older = older
beside (Some newest) older = newest ∷ older

-- none of the others has the id of the delivery that began last
abbrev pub IsBeside : Option (ℕ × Kept) → List (ℕ × Kept) → Type 0
IsBeside None older = Unit {0}
IsBeside (Some newest) older = found older newest.0 ≡ None

-- an id is less than that of another, if there is another
abbrev pub is_before : ℕ → Option (ℕ × Kept) → Bool
is_before id None = true
is_before id (Some other) = nat_lt id other.0

-- the entry of one id is put in or taken out, and the others stay
abbrev pub IsPut : List (ℕ × Kept) → List (ℕ × Kept) → ℕ → Option Kept → Type 0
IsPut old new id kept = (q : ℕ) → found new q ≡ (if nat_eq id q then kept else found old q)

-- the entry with the least id from `from` to `last`, if there is one
abbrev pub IsNext : List (ℕ × Kept) → ℕ → ℕ → Option (ℕ × Kept) → Type 0
IsNext entries from last None = (q : ℕ) → from ≤ q → q ≤ last → found entries q ≡ None
IsNext entries from last (Some e) = (from ≤ e.0) × (e.0 ≤ last) × (found entries e.0 ≡ Some e.1) × ((q : ℕ) → from ≤ q → q < e.0 → found entries q ≡ None)

-- the link at this handle has the delivery
abbrev pub is_kept_at : ℕ → Option Kept → Bool
is_kept_at handle None = false
is_kept_at handle (Some kept) = nat_eq kept.handle handle

-- what is left of an entry once the link at a handle is gone
abbrev pub left_of : ℕ → Option Kept → Option Kept
left_of handle None = None
left_of handle (Some kept) = if nat_eq kept.handle handle then None else Some kept

-- what is left of an entry once the delivery with id `gone` is closed, if it is
abbrev pub closed_of : Bool → ℕ → ℕ → Option Kept → Option Kept
closed_of closed gone id kept = if closed && nat_eq gone id then None else kept

-- the ids of the open deliveries of a link, if there is one
abbrev pub ids_of : Option LiveLink → List ℕ
ids_of None = []
ids_of (Some l) = map (λ d. d.delivery_id) (deliveries l.link)

-- what is left of an entry once the deliveries with these ids are open no longer
abbrev pub gone_of : List ℕ → ℕ → Option Kept → Option Kept
gone_of ids id kept = if list_any (λ gone. nat_eq gone id) ids then None else kept

-- the link that ended, if a failure is reported: the one at its handle
abbrev pub IsEnded : SessionState → Report → Option LiveLink → Type 0
IsEnded s (report.Failed handle condition dropped) ended = ended ≡ live_in (slot_at s handle)
IsEnded s report ended = Unit {0}

-- the link that ended, if a failure is reported: the one that was at this place
abbrev pub IsEndedAt : ℕ → Slot LiveLink → Report → Option LiveLink → Type 0
IsEndedAt at s (report.Failed handle condition dropped) ended = (handle ≡ at) × (ended ≡ live_in s)
IsEndedAt at s report ended = Unit {0}

-- what is left of an entry after this was reported of a flow of a link; `ended` is that link if it ended
abbrev pub told_of : Report → Option LiveLink → ℕ → Option Kept → Option Kept
told_of (report.Failed handle condition dropped) ended id kept = gone_of (ids_of ended) id kept
told_of report ended id kept = kept

-- a delivery with this standing was not handed up
abbrev pub is_untaken : Standing → Bool
is_untaken Absent = false
is_untaken Untaken = true
is_untaken Told = false
is_untaken (Awaiting mode) = false

-- what is left of an entry if those go that are not open in this session
abbrev pub swept : ℕ → SessionState → Option Kept → Option Kept
swept id s None = None
swept id s (Some kept) = if is_absent (slot_standing id (slot_at s kept.handle)) then None else Some kept

-- what is left of an entry then, if `so` is true
abbrev pub swept_if : Bool → ℕ → SessionState → Option Kept → Option Kept
swept_if so id s kept = if so then swept id s kept else kept

-- An id of 32 bits is in the index exactly if a link has it open, and then under the handle of that link. [2.6.12]
abbrev pub IsIndexed : List (ℕ × Kept) → List (Slot LiveLink) → Type 0
IsIndexed entries slots = (id place : ℕ) → id < 2 ^ 32 → slot_count id (at_place slots place) ≡ one_if (is_kept_at place (found entries id))

-- what holds for every session and its index
pub record IsKnown (entries : List (ℕ × Kept)) (s : SessionState) : Type 0 where
  pub apart : IsApart s
  pub indexed : IsIndexed entries s.links

-- at most one open delivery of the link at a place has this id
abbrev pub IsOnceAt : ℕ → Slot LiveLink → Type 0
IsOnceAt id Free = Unit {0}
IsOnceAt id (Live l) = IsOnce id id (open_set l.link)
IsOnceAt id Waits = Unit {0}

-- A transfer. -----------------------------------------------------------------------------------------------------------------

-- what a transfer without a fault results in on its link [2.6.14]
abbrev pub IsTaken : LinkState → Sent → Verdict → Type 0
IsTaken l t (Begins key) = (fault_of l t ≡ None) × (l.unfinished ≡ None) × (t.aborted ≡ false)
IsTaken l t GoesOn = (fault_of l t ≡ None) × (is_none l.unfinished ≡ false) × (t.aborted ≡ false)
IsTaken l t Passes = (fault_of l t ≡ None) × (l.unfinished ≡ None) × (t.aborted ≡ true)
IsTaken l t (GivesUp id) = (fault_of l t ≡ None) × (option_map (λ d. d.delivery_id) l.unfinished ≡ Some id) × (t.aborted ≡ true)
IsTaken l t (Fails fault) = ⊥

-- the transfer begins a delivery that stays open
abbrev pub is_begun : Verdict → Bool
is_begun (Begins key) = true
is_begun verdict = false

-- the index after a transfer on the link at this handle that states this id
abbrev pub IsKeptBehind : Verdict → ℕ → ℕ → List (ℕ × Kept) → List (ℕ × Kept) → Type 0
IsKeptBehind (Begins key) handle id old new = IsPut old new id (Some (record { handle = handle; key = key }))
IsKeptBehind (GivesUp gone) handle id old new = IsPut old new gone None
IsKeptBehind verdict handle id old new = new ≡ old

-- Dispositions. -------------------------------------------------------------------------------------------------------------

-- the session after the sender settled these ids
abbrev pub disposed : ℕ → ℕ → SessionState → SessionState
disposed first last s = record s { links = map (slot_called (SenderSettled first last)) s.links }

-- the session after its receiver settled these ids, or told of them
abbrev pub answered : ℕ → ℕ → SessionState → SessionState
answered first last s = record s { links = map (slot_called (ReceiverSettled first last)) s.links }

-- no place but the one at this handle has the id
abbrev pub IsAlone : ℕ → ℕ → List (Slot LiveLink) → Type 0
IsAlone id handle slots = (i : ℕ) → nat_eq handle i ≡ false → slot_count id (at_place slots i) ≡ 0

-- what `IsKnown` says, for the ids from the first to the last only
pub record IsKnownFrom (entries : List (ℕ × Kept)) (first last : ℕ) (s : SessionState) : Type 0 where
  pub apart : IsApart s
  pub indexed : (id place : ℕ) → first ≤ id → id ≤ last → slot_count id (at_place s.links place) ≡ one_if (is_kept_at place (found entries id))
