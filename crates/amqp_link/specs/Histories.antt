-- The history of one link: a list of its events, newest first. The link's state follows from it by sums and selections over the whole list, in numbers without a limit (AMQP 1.0, part 2, sections
-- 2.6.7 to 2.6.14).
use Rattle.std.specs.Prelude.{◌≡◌, ℕ, suc, ◌+◌, ◌-◌, ◌%◌, ◌^◌, ◌≤◌, Bool, true, false, not, ◌&&◌, ◌||◌, if◌then◌else◌, nat_eq, List, [], ◌∷◌, ◌++◌, length, take, drop, map, filter, find, flat_map}
use Rattle.std.specs.Prelude.{sum_by, Option, Some, None, option_map, unwrap_or}
use Rattle.std.specs.List.{list_any, AllByRecursion}
use Rattle.amqp_link.specs.declared.terms.Terms.{Terms}
use Rattle.amqp_link.specs.Links.{Sent, goes_on, completes, adds, Delivery, mode_at, is_first, covers, LinkState, open_count, LinkEvent, Granted, DrainAsked, Transferred, FlowStated, HandedUp}
use Rattle.amqp_link.specs.Links.{ReceiverSettled, SenderSettled, advance_by, link_begins, link_after, LinkMay}

-- the credit that an event grants
abbrev pub granted_by : LinkEvent → ℕ
granted_by (Granted n) = n
granted_by e = 0

-- all credit that was granted
abbrev pub grants : List LinkEvent → ℕ
grants h = sum_by granted_by h

-- these, followed by the one that an event adds, if it adds one
abbrev pub followed_by : {A : Type 0} → List A → Option A → List A
followed_by xs None = xs
followed_by xs (Some x) = xs ++ x ∷ []

-- the transfer that an event is, if it is one
abbrev pub transfer_of : LinkEvent → Option Sent
transfer_of (Transferred t) = Some t
transfer_of e = None

-- the transfers, in the order in which they came
abbrev pub transfers : List LinkEvent → List Sent
transfers [] = []
transfers (e ∷ h) = followed_by (transfers h) (transfer_of e)

-- the delivery that an event hands up, if it hands up one
abbrev pub handed_up_by : LinkEvent → Option Delivery
handed_up_by (HandedUp d) = Some d
handed_up_by e = None

-- what was handed up, in order
abbrev pub handed_up : List LinkEvent → List Delivery
handed_up [] = []
handed_up (e ∷ h) = followed_by (handed_up h) (handed_up_by e)

-- Credit and count. -----------------------------------------------------------------------------------------

-- 1 if it is so, else 0
abbrev pub one_if : Bool → ℕ
one_if b = if b then 1 else 0

-- How many of these transfers are heads, where `starts` says whether the first one is. A transfer is a head if there is none before it on the link, or the one before it ends its delivery. [2.6.14]
abbrev pub heads_from : Bool → List Sent → ℕ
heads_from starts [] = 0
heads_from starts (t ∷ ts) = one_if starts + heads_from (not (goes_on t)) ts

-- how many heads came
abbrev pub heads : List LinkEvent → ℕ
heads h = heads_from true (transfers h)

-- the credit: all grants, less what heads and advances used [2.6.7]
abbrev pub credit_of : List LinkEvent → ℕ → ℕ
credit_of h advances = grants h - (heads h + advances)

-- the delivery-count: the initial one plus heads and advances, modulo 2^32 [2.6.7]
abbrev pub delivery_count_of : Terms → List LinkEvent → ℕ → ℕ
delivery_count_of terms h advances = (terms.initial_delivery_count + heads h + advances) % 2 ^ 32

-- how far flows moved the count ahead of the heads, in total [2.6.7]
abbrev pub advances : Terms → List LinkEvent → ℕ
advances terms [] = 0
advances terms (FlowStated stated ∷ h) = advances terms h + advance_by (delivery_count_of terms h (advances terms h)) (credit_of h (advances terms h)) stated
advances terms (e ∷ h) = advances terms h

-- the credit that is left
abbrev pub credit : Terms → List LinkEvent → ℕ
credit terms h = credit_of h (advances terms h)

-- the delivery-count
abbrev pub delivery_count : Terms → List LinkEvent → ℕ
delivery_count terms h = delivery_count_of terms h (advances terms h)

-- an event asks the sender to use its credit up [2.6.7]
abbrev pub asks_to_drain : LinkEvent → Bool
asks_to_drain DrainAsked = true
asks_to_drain e = false

-- a grant, or a flow of the sender that leaves no credit: the sender is no longer asked to use its credit up [2.6.7]
abbrev pub ends_draining : Terms → List LinkEvent → LinkEvent → Bool
ends_draining terms h (Granted n) = true
ends_draining terms h (FlowStated stated) = nat_eq (credit terms (FlowStated stated ∷ h)) 0
ends_draining terms h e = false

-- the sender was asked to use its credit up, and nothing since then ended that
abbrev pub draining : Terms → List LinkEvent → Bool
draining terms [] = false
draining terms (e ∷ h) = if asks_to_drain e then true else (if ends_draining terms h e then false else draining terms h)

-- Deliveries. -----------------------------------------------------------------------------------------------

-- The transfers of one delivery: the head and those after it. Deliveries of a link are numbered from 0 on.
pub record Group : Type 0 where
  pub number : ℕ
  pub head : Sent
  pub behind : List Sent

-- one more transfer before these, which doesn't end its delivery
abbrev pub joined : ℕ → Sent → List Group → List Group
joined number t [] = record { number = number; head = t; behind = [] } ∷ []
joined number t (g ∷ gs) = record { number = number; head = t; behind = g.head ∷ g.behind } ∷ gs

-- The deliveries that these transfers make, numbered from `number` on: the list is cut after each transfer that ends a delivery. [2.6.14]
abbrev pub groups_from : ℕ → List Sent → List Group
groups_from number [] = []
groups_from number (t ∷ ts) = if goes_on t then joined number t (groups_from number ts) else record { number = number; head = t; behind = [] } ∷ groups_from (suc number) ts

-- the deliveries of a history
abbrev pub groups : List LinkEvent → List Group
groups h = groups_from 0 (transfers h)

-- all transfers of a delivery
abbrev pub all_of : Group → List Sent
all_of g = g.head ∷ g.behind

-- the transfer that came last
abbrev pub last_of : Sent → List Sent → Sent
last_of t [] = t
last_of t (u ∷ us) = last_of u us

-- the last transfer of a delivery
abbrev pub latest : Group → Sent
latest g = last_of g.head g.behind

-- the message: the payloads of its transfers, joined [2.6.14]
abbrev pub message_of : Group → List ℕ
message_of g = flat_map adds (all_of g)

-- its sender gave it up
abbrev pub is_aborted : Group → Bool
is_aborted g = (latest g).aborted

-- its last transfer came, and it was not given up
abbrev pub is_whole : Group → Bool
is_whole g = completes (latest g)

-- its last transfer has not come
abbrev pub is_unfinished : Group → Bool
is_unfinished g = goes_on (latest g)

-- the whole deliveries, in the order in which they began
abbrev pub wholes : List LinkEvent → List Group
wholes h = filter is_whole (groups h)

-- how many deliveries were handed up
abbrev pub takes : List LinkEvent → ℕ
takes h = length (handed_up h)

-- the deliveries that were handed up: the first of the whole ones
abbrev pub handed_up_groups : List LinkEvent → List Group
handed_up_groups h = take (takes h) (wholes h)

-- the deliveries that are ready to be handed up: the other whole ones
abbrev pub ready_groups : List LinkEvent → List Group
ready_groups h = drop (takes h) (wholes h)

-- Settlement [2.6.12]. ----------------------------------------------------------------------------------------

-- the delivery with this number is among these
abbrev pub has_number : List Group → ℕ → Bool
has_number gs number = list_any (λ g. nat_eq g.number number) gs

-- it was handed up
abbrev pub is_handed_up : List LinkEvent → Group → Bool
is_handed_up h g = has_number (handed_up_groups h) g.number

-- one of its transfers says that its sender settled it [2.7.5]
abbrev pub comes_settled : Group → Bool
comes_settled g = list_any (λ t. t.settled) (all_of g)

-- open: neither given up, nor both handed up and settled, where `later` says whether something other than a transfer settled it
abbrev pub is_open_if : List LinkEvent → Bool → Group → Bool
is_open_if h later g = not (is_aborted g) && not (is_handed_up h g && (comes_settled g || later))

-- its delivery-id is that of its head
abbrev pub id_of : Group → ℕ
id_of g = unwrap_or g.head.delivery_id 0

-- the delivery with this number, if it has begun, passes a test
abbrev pub passes : (Group → Bool) → ℕ → List LinkEvent → Bool
passes test number h = list_any (λ g. nat_eq g.number number && test g) (groups h)

-- An event other than a transfer settles the delivery with this number, where `settled` says whether an earlier one did. That is so while the delivery is open, if a disposition of the sender covers
-- its id, or if it was handed up and the receiver settles it in mode first.
abbrev pub settles_at : Terms → List LinkEvent → Bool → ℕ → LinkEvent → Bool
settles_at terms h settled number (ReceiverSettled first last) = passes (λ g. is_handed_up h g && is_open_if h settled g && is_first (mode_at terms g.head) && covers first last (id_of g)) number h
settles_at terms h settled number (SenderSettled first last) = passes (λ g. is_open_if h settled g && covers first last (id_of g)) number h
settles_at terms h settled number e = false

-- something other than a transfer settled the delivery with this number
abbrev pub settled_later : Terms → List LinkEvent → ℕ → Bool
settled_later terms [] number = false
settled_later terms (e ∷ h) number = settles_at terms h (settled_later terms h number) number e || settled_later terms h number

-- An event tells the sender what became of the delivery with this number, where `settled` says whether something other than a transfer settled it. The delivery is in mode second, was handed up and is
-- open.
abbrev pub tells_at : Terms → List LinkEvent → Bool → ℕ → LinkEvent → Bool
tells_at terms h settled number (ReceiverSettled first last) = passes (λ g. is_handed_up h g && is_open_if h settled g && not (is_first (mode_at terms g.head)) && covers first last (id_of g)) number h
tells_at terms h settled number e = false

-- the sender was told what became of the delivery with this number
abbrev pub told_later : Terms → List LinkEvent → ℕ → Bool
told_later terms [] number = false
told_later terms (e ∷ h) number = tells_at terms h (settled_later terms h number) number e || told_later terms h number

-- its sender settled it in a transfer, or something else did later
abbrev pub is_settled : Terms → List LinkEvent → Group → Bool
is_settled terms h g = comes_settled g || settled_later terms h g.number

-- neither given up, nor both handed up and settled
abbrev pub is_open : Terms → List LinkEvent → Group → Bool
is_open terms h g = is_open_if h (settled_later terms h g.number) g

-- a disposition of the sender over these ids settles it while it is open [2.7.6]
abbrev pub is_settled_by : Terms → List LinkEvent → ℕ → ℕ → Group → Bool
is_settled_by terms h first last g = is_open terms h g && not (is_settled terms h g) && is_settled terms (SenderSettled first last ∷ h) g

-- The state that a history gives. -----------------------------------------------------------------------------

-- what the history says of a delivery
abbrev pub shown : Terms → List LinkEvent → Group → Delivery
shown terms h g = record {
  delivery_id = id_of g;
  delivery_tag = unwrap_or g.head.delivery_tag [];
  message_format = unwrap_or g.head.message_format 0;
  rcv_settle_mode = mode_at terms g.head;
  settled = is_settled terms h g;
  told = told_later terms h g.number;
  message = message_of g;
}

-- the delivery as it awaits settlement: once it is handed up its message is not held
abbrev pub shown_awaiting : Terms → List LinkEvent → Group → Delivery
shown_awaiting terms h g = record (shown terms h g) { message = [] }

-- what is held of a delivery while it is open
abbrev pub kept : Terms → List LinkEvent → Group → Delivery
kept terms h g = record (shown terms h g) { message = if is_handed_up h g then [] else message_of g }

-- the bytes held for it: 64 for itself, its tag, and its message unless that was handed up
abbrev pub kept_bytes : List LinkEvent → Group → ℕ
kept_bytes h g = 64 + length (unwrap_or g.head.delivery_tag []) + (if is_handed_up h g then 0 else length (message_of g))

-- the link that a history results in
abbrev pub state_of : Terms → List LinkEvent → LinkState
state_of terms h = record {
  terms = terms;
  credit = credit terms h;
  delivery_count = delivery_count terms h;
  draining = draining terms h;
  awaiting = map (shown_awaiting terms h) (filter (λ g. not (is_settled terms h g)) (handed_up_groups h));
  ready = map (shown terms h) (ready_groups h);
  unfinished = option_map (shown terms h) (find is_unfinished (groups h));
}

-- What the takes handed up, in order. Each is the first of the whole deliveries that were not handed up before, as the history up to then shows it, settled or not.
abbrev pub given : Terms → List LinkEvent → List Delivery
given terms [] = []
given terms (HandedUp d ∷ h) = given terms h ++ take 1 (map (shown terms h) (ready_groups h))
given terms (e ∷ h) = given terms h

-- the part of a delivery that never changes once it is whole
pub record Content : Type 0 where
  pub delivery_id : ℕ
  pub delivery_tag : List ℕ
  pub message_format : ℕ
  pub message : List ℕ

-- the content of a delivery of the state
abbrev pub content_of : Delivery → Content
content_of d = record { delivery_id = d.delivery_id; delivery_tag = d.delivery_tag; message_format = d.message_format; message = d.message }

-- the content of a delivery of the history
abbrev pub content : Group → Content
content g = record { delivery_id = id_of g; delivery_tag = unwrap_or g.head.delivery_tag []; message_format = unwrap_or g.head.message_format 0; message = message_of g }

-- What holds for every history of accepted events.
pub record Sound (terms : Terms) (h : List LinkEvent) : Type 0 where
  -- no more credit was used than granted
  pub spent : heads h + advances terms h ≤ grants h
  -- each head began a delivery
  pub begun : length (groups h) ≡ heads h
  -- what was handed up is the beginning of the whole deliveries, in order, each once
  pub front : map content_of (handed_up h) ≡ map content (handed_up_groups h)
  -- each of them as it was when it was handed up
  pub stood : handed_up h ≡ given terms h
  -- no more was handed up than came whole
  pub came : takes h ≤ length (wholes h)
  -- credit and open deliveries are within what is allowed
  pub within : credit terms h + open_count (state_of terms h) ≤ terms.bounds.allowed
  -- no message is longer than allowed
  pub small : AllByRecursion (λ g. length (message_of g) ≤ terms.bounds.max_message_size) (groups h)
  -- no tag is longer than 32 bytes [2.8.7]
  pub tagged : AllByRecursion (λ g. length (unwrap_or g.head.delivery_tag []) ≤ 32) (groups h)

-- the link after all these events, step by step
abbrev pub after_all : Terms → List LinkEvent → LinkState
after_all terms [] = link_begins terms
after_all terms (e ∷ h) = link_after (after_all terms h) e

-- each event was accepted
abbrev pub Accepted : Terms → List LinkEvent → Type 0
Accepted terms [] = Unit {0}
Accepted terms (e ∷ h) = Accepted terms h × LinkMay (after_all terms h) e
