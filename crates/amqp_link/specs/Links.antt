-- One link of a sender as its calls show it, in plain numbers and lists, and what each call does to it (AMQP 1.0, part 2, sections 2.6.7 to 2.6.14).
use Rattle.std.specs.Prelude.{◌≡◌, ℕ, ◌+◌, ◌-◌, ◌%◌, ◌^◌, ◌≤◌, Bool, true, false, not, ◌&&◌, ◌||◌, if◌then◌else◌, nat_eq, nat_lt, nat_le, List, [], ◌∷◌, ◌++◌, length, drop, map, filter, find, sum_by}
use Rattle.std.specs.Prelude.{slice_get, Option, Some, None, is_none, is_some, option_map, option_to_list, unwrap_or, bytes_eq}
use Rattle.std.specs.List.{list_any, count_by}
use Rattle.amqp_serial.specs.Numbers.{distance_of}
use Rattle.amqp_perform.specs.declared.modes.ReceiverSettleMode.{ReceiverSettleMode}
use Rattle.amqp_perform.specs.declared.modes.ReceiverSettleMode.TheVariants.{First, Second}
use Rattle.amqp_link.specs.declared.terms.Terms.{Terms}
use Rattle.amqp_perform.specs.declared.performative.Transfer.{Transfer}
use Rattle.amqp_link.specs.declared.transfer.LinkFault.{LinkFault}
use Rattle.amqp_link.specs.declared.transfer.LinkFault.TheVariants.{TransferLimit, MessageSize, InvalidField, NotImplemented, NoMemory}
use Rattle.amqp_link.specs.declared.settlement.SettleFault.{SettleFault}
use Rattle.amqp_link.specs.declared.settlement.SettleFault.TheVariants.{NotTaken, AlreadyTold}
use Rattle.amqp_link.specs.declared.settlement.Standing.{Standing}
use Rattle.amqp_link.specs.declared.settlement.Standing.TheVariants.{Absent, Untaken, Told, Awaiting}
use Rattle.amqp_link.specs.declared.transfer.Step.{Step}
use Rattle.amqp_link.specs.declared.transfer.Step.TheVariants.{Unfinished, Ready, Aborted}
use Rattle.amqp_link.specs.declared.transfer.Verdict.{Verdict}
use Rattle.amqp_link.specs.declared.transfer.Verdict.TheVariants.{Begins, GoesOn, Passes, GivesUp, Fails}

-- a transfer with its payload [2.7.5]
pub record Sent : Type 0 where
  pub delivery_id : Option ℕ
  pub delivery_tag : Option (List ℕ)
  pub message_format : Option ℕ
  pub settled : Bool
  pub more : Bool
  pub rcv_settle_mode : Option ReceiverSettleMode
  pub resume : Bool
  pub aborted : Bool
  pub payload : List ℕ

-- what a link reads of a transfer: settled has no default, and an absent one counts as false [2.7.5]
abbrev pub sent_of : Transfer → List ℕ → Sent
sent_of t payload = record {
  delivery_id = t.delivery_id;
  delivery_tag = option_map (λ tag. tag.now) t.delivery_tag;
  message_format = t.message_format;
  settled = unwrap_or t.settled false;
  more = t.more;
  rcv_settle_mode = t.rcv_settle_mode;
  resume = t.resume;
  aborted = t.aborted;
  payload = payload;
}

-- its delivery goes on after it: aborted overrides more [2.6.14, 2.7.5]
abbrev pub goes_on : Sent → Bool
goes_on t = t.more && not t.aborted

-- its delivery is whole with it [2.6.14]
abbrev pub completes : Sent → Bool
completes t = not t.more && not t.aborted

-- what it adds to the message: the payload of an aborted transfer is ignored [2.7.5]
abbrev pub adds : Sent → List ℕ
adds t = if t.aborted then [] else t.payload

-- a delivery and how far it has come [2.6.12]
pub record Delivery : Type 0 where
  pub delivery_id : ℕ
  pub delivery_tag : List ℕ
  pub message_format : ℕ
  pub rcv_settle_mode : ReceiverSettleMode
  pub settled : Bool  -- by either end
  pub told : Bool  -- the sender was told what became of it
  pub message : List ℕ  -- what is held of it: nothing once it is handed up

-- A live link. Its open deliveries are, in the order in which they began: those that were handed up and await settlement, those that are ready to be handed up, and
-- the one whose last transfer hasn't come.
pub record LinkState : Type 0 where
  pub terms : Terms
  pub credit : ℕ
  pub delivery_count : ℕ
  pub draining : Bool  -- the sender was asked to use its credit up, and since then there was no grant and no flow of the sender that left no credit
  pub awaiting : List Delivery
  pub ready : List Delivery
  pub unfinished : Option Delivery

-- Only the open deliveries of a link.
pub record OpenSet : Type 0 where
  pub awaiting : List Delivery
  pub ready : List Delivery
  pub unfinished : Option Delivery

-- all open deliveries, in the order in which they began
abbrev pub in_order : OpenSet → List Delivery
in_order s = s.awaiting ++ s.ready ++ option_to_list s.unfinished

-- the open deliveries of a link
abbrev pub open_set : LinkState → OpenSet
open_set s = record { awaiting = s.awaiting; ready = s.ready; unfinished = s.unfinished }

-- how many open deliveries there are
abbrev pub how_many : OpenSet → ℕ
how_many s = length s.awaiting + length s.ready + length (option_to_list s.unfinished)

-- the open deliveries of a link, in the order in which they began
abbrev pub deliveries : LinkState → List Delivery
deliveries s = in_order (open_set s)

-- how many deliveries of a link are open
abbrev pub open_count : LinkState → ℕ
open_count s = how_many (open_set s)

-- those that were not handed up
abbrev pub untaken : OpenSet → List Delivery
untaken s = s.ready ++ option_to_list s.unfinished

-- the delivery that is handed up next
abbrev pub first_ready : LinkState → Option Delivery
first_ready s = slice_get s.ready 0

-- the delivery has this id
abbrev pub has_id : ℕ → Delivery → Bool
has_id id d = nat_eq d.delivery_id id

-- the bytes held for a delivery: 64 for itself, its tag, and its message
abbrev pub delivery_bytes : Delivery → ℕ
delivery_bytes d = 64 + length d.delivery_tag + length d.message

-- the bytes held for open deliveries
abbrev pub set_bytes : OpenSet → ℕ
set_bytes s = sum_by delivery_bytes (in_order s)

-- the bytes held for a link
abbrev pub link_bytes : LinkState → ℕ
link_bytes s = set_bytes (open_set s)

-- a link at its attach
abbrev pub link_begins : Terms → LinkState
link_begins terms = record { terms = terms; credit = 0; delivery_count = terms.initial_delivery_count; draining = false; awaiting = []; ready = []; unfinished = None }

-- The rcv-settle-mode of a delivery that this transfer begins: the transfer's own, unless it is absent or the transfer is settled; then that of the attach. [2.7.5]
abbrev pub mode_at : Terms → Sent → ReceiverSettleMode
mode_at terms t = if t.settled then terms.rcv_settle_mode else unwrap_or t.rcv_settle_mode terms.rcv_settle_mode

-- the delivery that this transfer begins [2.6.14]
abbrev pub begun : Terms → Sent → Delivery
begun terms t = record {
  delivery_id = unwrap_or t.delivery_id 0;
  delivery_tag = unwrap_or t.delivery_tag [];
  message_format = unwrap_or t.message_format 0;
  rcv_settle_mode = mode_at terms t;
  settled = t.settled;
  told = false;
  message = adds t;
}

-- the delivery with one more transfer: once settled it stays settled [2.7.5]
abbrev pub continued : Delivery → Sent → Delivery
continued d t = record d { settled = d.settled || t.settled; message = d.message ++ adds t }

-- the delivery after a transfer, where `unfinished` is the one before it
abbrev pub delivery_after : Terms → Option Delivery → Sent → Delivery
delivery_after terms None t = begun terms t
delivery_after terms (Some d) t = continued d t

-- Faults of a transfer, in this order. -----------------------------------------------------------------

-- the transfer requests mode second
abbrev pub states_second : Option ReceiverSettleMode → Bool
states_second None = false
states_second (Some First) = false
states_second (Some Second) = true

-- the mode is first [2.8.3]
abbrev pub is_first : ReceiverSettleMode → Bool
is_first First = true
is_first Second = false

-- a tag has at most 32 bytes [2.8.7]
abbrev pub is_tag : Option (List ℕ) → Bool
is_tag None = false
is_tag (Some tag) = nat_le (length tag) 32

-- A head is well formed: it states id and tag, and it requests mode second only if the attach did or the transfer is settled. [2.7.5]
abbrev pub is_formed_head : Terms → Sent → Bool
is_formed_head terms t = is_some t.delivery_id && is_tag t.delivery_tag && (t.settled || not (is_first terms.rcv_settle_mode && states_second t.rcv_settle_mode))

-- absent, or the same
abbrev pub agrees : {A : Type 0} → (A → A → Bool) → Option A → A → Bool
agrees same None here = true
agrees same (Some there) here = same there here

-- a continuation is well formed: it states id, tag and format as the head did, or not at all; its rcv-settle-mode says nothing [2.7.5]
abbrev pub is_formed_continuation : Delivery → Sent → Bool
is_formed_continuation d t = agrees nat_eq t.delivery_id d.delivery_id && agrees bytes_eq t.delivery_tag d.delivery_tag && agrees nat_eq t.message_format d.message_format

-- A transfer is well formed, given the unfinished delivery. One that isn't ends its link with amqp:invalid-field.
abbrev pub is_formed : Terms → Option Delivery → Sent → Bool
is_formed terms None t = is_formed_head terms t
is_formed terms (Some d) t = is_formed_continuation d t

-- a head, and no credit for it: amqp:link:transfer-limit-exceeded [2.6.7]
abbrev pub lacks_credit : LinkState → Bool
lacks_credit s = is_none s.unfinished && nat_eq s.credit 0

-- the message would be longer than the link's max-message-size allows: amqp:link:message-size-exceeded [2.7.3]; an aborted transfer adds nothing
abbrev pub is_too_long : LinkState → Sent → Bool
is_too_long s t = not t.aborted && nat_lt s.terms.bounds.max_message_size (length (delivery_after s.terms s.unfinished t).message)

-- The first fault of a transfer, if any. Deliveries are not resumed: amqp:not-implemented.
abbrev pub fault_of : LinkState → Sent → Option LinkFault
fault_of s t =
    if t.resume then Some NotImplemented
    else (if not (is_formed s.terms s.unfinished t) then Some InvalidField
    else (if lacks_credit s then Some TransferLimit
    else (if is_too_long s t then Some MessageSize else None)))

-- The first fault of a transfer, where `known` says whether an open delivery of the session has the id that it states: no delivery may begin under such an id.
-- [2.6.12]
abbrev pub known_fault : Bool → LinkState → Sent → Option LinkFault
known_fault known s t = if not t.resume && (is_none s.unfinished && known) then Some InvalidField else fault_of s t

-- what a transfer results in, before anything is done; the key is left open [2.6.14]
abbrev pub IsVerdict : Bool → LinkState → Sent → Verdict → Type 0
IsVerdict known s t (Begins key) = (known_fault known s t ≡ None) × (s.unfinished ≡ None) × (t.aborted ≡ false)
IsVerdict known s t GoesOn = (known_fault known s t ≡ None) × (is_none s.unfinished ≡ false) × (t.aborted ≡ false)
IsVerdict known s t Passes = (known_fault known s t ≡ None) × (s.unfinished ≡ None) × (t.aborted ≡ true)
IsVerdict known s t (GivesUp id) = (known_fault known s t ≡ None) × (option_map (λ d. d.delivery_id) s.unfinished ≡ Some id) × (t.aborted ≡ true)
IsVerdict known s t (Fails fault) = known_fault known s t ≡ Some fault

-- A transfer may need memory unless it is aborted, or goes on without a payload.
abbrev pub may_grow_at : Option Delivery → Sent → Bool
may_grow_at unfinished t = not t.aborted && (is_none unfinished || not (nat_eq (length t.payload) 0))

-- a transfer may need memory on this link
abbrev pub may_grow : LinkState → Sent → Bool
may_grow s t = may_grow_at s.unfinished t

-- Why a transfer is refused: its first fault, or, if it has none, memory that it needs.
abbrev pub IsRefusal : LinkState → Sent → LinkFault → Type 0
IsRefusal s t TransferLimit = fault_of s t ≡ Some TransferLimit
IsRefusal s t MessageSize = fault_of s t ≡ Some MessageSize
IsRefusal s t InvalidField = fault_of s t ≡ Some InvalidField
IsRefusal s t NotImplemented = fault_of s t ≡ Some NotImplemented
IsRefusal s t NoMemory = (fault_of s t ≡ None) × (may_grow s t ≡ true)

-- what an accepted transfer results in
abbrev pub step_of : Sent → Step
step_of t = if t.aborted then Aborted else (if t.more then Unfinished else Ready)

-- What happens to a link. ---------------------------------------------------------------------------------

-- one call or frame that was accepted
pub data LinkEvent : Type 0 where
  Granted : ℕ → LinkEvent  -- this much credit was granted
  DrainAsked : LinkEvent  -- the sender was asked to use its credit up
  Transferred : Sent → LinkEvent  -- a transfer came
  FlowStated : Option ℕ → LinkEvent  -- a flow of the sender stated this delivery-count, or none
  HandedUp : Delivery → LinkEvent  -- this delivery was handed up
  ReceiverSettled : ℕ → ℕ → LinkEvent  -- the receiver settled the ids from the first to the last, or told what became of them; the link may have none of them
  SenderSettled : ℕ → ℕ → LinkEvent  -- the sender settled the ids from the first to the last

-- how far the delivery-count of a flow moves the known one: by the distance it is ahead, if that is at most the credit, else by 0; an absent one by 0 [2.6.7]
abbrev pub advance_by : ℕ → ℕ → Option ℕ → ℕ
advance_by count credit None = 0
advance_by count credit (Some stated) = if nat_le (distance_of count stated) credit then distance_of count stated else 0

-- The sender stated a count that is ahead by more than its credit. A count at a distance of 2^31 or more is behind, and says nothing. [2.6.7]
abbrev pub is_beyond_credit : ℕ → ℕ → Option ℕ → Bool
is_beyond_credit count credit None = false
is_beyond_credit count credit (Some stated) = nat_lt credit (distance_of count stated) && nat_lt (distance_of count stated) (2 ^ 31)

-- a head takes one place of the credit, even if it is aborted itself; a continuation takes none [2.6.7]
abbrev pub cost : Option Delivery → ℕ
cost None = 1
cost (Some d) = 0

-- the open deliveries after an accepted transfer that leaves this delivery
abbrev pub with_delivery : OpenSet → Sent → Delivery → OpenSet
with_delivery o t d = record o { ready = o.ready ++ (if completes t then d ∷ [] else []); unfinished = if goes_on t then Some d else None }

-- the link with these open deliveries
abbrev pub with_open : LinkState → OpenSet → LinkState
with_open s o = record s { awaiting = o.awaiting; ready = o.ready; unfinished = o.unfinished }

-- the link's open deliveries after an accepted transfer that leaves this delivery
abbrev pub applied : LinkState → Sent → Delivery → LinkState
applied s t d = with_open s (with_delivery (open_set s) t d)

-- the link with its credit and delivery-count after an accepted transfer
abbrev pub charged : LinkState → LinkState
charged s = record s { credit = s.credit - cost s.unfinished; delivery_count = (s.delivery_count + cost s.unfinished) % 2 ^ 32 }

-- a delivery that is handed up stays open until it is settled [2.6.12]
abbrev pub left_open : Delivery → List Delivery
left_open d = if d.settled then [] else record d { message = [] } ∷ []

-- the id is one of those from `first` to `last`; there are none if `last` is before `first` [2.7.6, 2.8.10]
abbrev pub covers : ℕ → ℕ → ℕ → Bool
covers first last id = nat_lt (distance_of first last) (2 ^ 31) && nat_le (distance_of first id) (distance_of first last)

-- the delivery's id is one of those from `first` to `last`
abbrev pub is_covered : ℕ → ℕ → Delivery → Bool
is_covered first last d = covers first last d.delivery_id

-- A settle of these ids by the receiver settles a delivery in mode first. [2.7.5, 2.8.3]
abbrev pub receiver_settles : ℕ → ℕ → Delivery → Bool
receiver_settles first last d = is_first d.rcv_settle_mode && is_covered first last d

-- In mode second (rcv-settle-mode) such a settle tells the sender what became of the delivery, and leaves it to the sender to settle. [2.7.5, 2.8.3]
abbrev pub tells : ℕ → ℕ → Delivery → Bool
tells first last d = not (is_first d.rcv_settle_mode) && is_covered first last d

-- the delivery after a settle by the receiver, if it stays open
abbrev pub marked_told : ℕ → ℕ → Delivery → Delivery
marked_told first last d = record d { told = d.told || tells first last d }

-- The open deliveries after a settle of these ids by the receiver. It changes only those that were handed up; what it settles is open no longer. [2.6.12, 2.8.3]
abbrev pub receiver_settled_in : ℕ → ℕ → OpenSet → OpenSet
receiver_settled_in first last o = record o { awaiting = map (marked_told first last) (filter (λ d. not (receiver_settles first last d)) o.awaiting) }

-- At most one open delivery has one of these ids. [2.6.12, 2.8.9]
abbrev pub IsOnce : ℕ → ℕ → OpenSet → Type 0
IsOnce first last o = count_by (is_covered first last) (in_order o) ≤ 1

-- how many deliveries a settle by the receiver settles or tells of
abbrev pub named_count : ℕ → ℕ → OpenSet → ℕ
named_count first last o = count_by (is_covered first last) o.awaiting

-- one of these ids belongs to an open delivery that was not handed up
abbrev pub names_untaken : ℕ → ℕ → OpenSet → Bool
names_untaken first last o = list_any (is_covered first last) (untaken o)

-- one of these ids belongs to a delivery in mode second whose outcome the sender was told
abbrev pub names_told : ℕ → ℕ → OpenSet → Bool
names_told first last o = list_any (λ d. tells first last d && d.told) o.awaiting

-- Why the receiver can't settle these ids, if it can't. It settles what was handed up and is open, and tells the sender of a delivery in mode second once. Ids that
-- no open delivery has are no fault of the link.
abbrev pub settle_fault : ℕ → ℕ → OpenSet → Option SettleFault
settle_fault first last o = if names_untaken first last o then Some NotTaken else (if names_told first last o then Some AlreadyTold else None)

-- how a delivery that was handed up stands
abbrev pub standing_at : Option Delivery → Standing
standing_at None = Absent
standing_at (Some d) = if d.told then Told else Awaiting d.rcv_settle_mode

-- How the delivery with this id stands. No other open delivery has the id. [2.6.12]
abbrev pub standing_of : ℕ → OpenSet → Standing
standing_of id o = if list_any (has_id id) (untaken o) then Untaken else standing_at (find (has_id id) o.awaiting)

-- the delivery was handed up, and the receiver has neither settled it nor told of it
abbrev pub IsAwaiting : Standing → Type 0
IsAwaiting Absent = ⊥
IsAwaiting Untaken = ⊥
IsAwaiting Told = ⊥
IsAwaiting (Awaiting mode) = Unit {0}

-- the delivery after a disposition of the sender with settled true over these ids [2.7.6]
abbrev pub sender_settled_by : ℕ → ℕ → Delivery → Delivery
sender_settled_by first last d = record d { settled = d.settled || is_covered first last d }

-- The open deliveries after such a disposition. Those that were handed up are then open no longer; the others are open until they are handed up. [2.6.12, 2.7.6]
abbrev pub sender_settled_in : ℕ → ℕ → OpenSet → OpenSet
sender_settled_in first last o = record {
  awaiting = filter (λ d. not (is_covered first last d)) o.awaiting;
  ready = map (sender_settled_by first last) o.ready;
  unfinished = option_map (sender_settled_by first last) o.unfinished;
}

-- how many open deliveries such a disposition settles that were not settled, handed up or not
abbrev pub newly_settled : ℕ → ℕ → OpenSet → ℕ
newly_settled first last o = count_by (λ d. not d.settled && is_covered first last d) (in_order o)

-- the link after a flow of the sender that moves its delivery-count by `d`: the credit falls by as much [2.6.7]
abbrev pub advanced : LinkState → ℕ → LinkState
advanced s d = record s { credit = s.credit - d; delivery_count = (s.delivery_count + d) % 2 ^ 32; draining = if nat_eq (s.credit - d) 0 then false else s.draining }

-- a flow tells that the credit is used up, as the sender was asked to [2.6.7]
abbrev pub is_drained : LinkState → Option ℕ → Bool
is_drained s stated = s.draining && nat_eq (s.credit - advance_by s.delivery_count s.credit stated) 0

-- the link after an event
abbrev pub link_after : LinkState → LinkEvent → LinkState
link_after s (Granted n) = record s { credit = s.credit + n; draining = false }
link_after s DrainAsked = record s { draining = true }
link_after s (Transferred t) = applied (charged s) t (delivery_after s.terms s.unfinished t)
link_after s (FlowStated stated) = advanced s (advance_by s.delivery_count s.credit stated)
link_after s (HandedUp d) = record s { awaiting = s.awaiting ++ left_open d; ready = drop 1 s.ready }
link_after s (ReceiverSettled first last) = with_open s (receiver_settled_in first last (open_set s))
link_after s (SenderSettled first last) = with_open s (sender_settled_in first last (open_set s))

-- whether an event is accepted
abbrev pub LinkMay : LinkState → LinkEvent → Type 0
LinkMay s (Granted n) = s.credit + open_count s + n ≤ s.terms.bounds.allowed
LinkMay s DrainAsked = Unit {0}
LinkMay s (Transferred t) = fault_of s t ≡ None
LinkMay s (FlowStated stated) = is_beyond_credit s.delivery_count s.credit stated ≡ false
LinkMay s (HandedUp d) = first_ready s ≡ Some d
LinkMay s (ReceiverSettled first last) = settle_fault first last (open_set s) ≡ None
LinkMay s (SenderSettled first last) = Unit {0}
