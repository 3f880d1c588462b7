-- A sender and a receiving link, and the frames and flows on their way between them, in place of bytes. [2.5.6, 2.6.7, 2.6.14]
use Rattle.std.specs.Prelude.{◌≡◌, ℕ, ◌+◌, ◌-◌, ◌%◌, ◌^◌, ◌<◌, ◌≤◌, ◌&&◌, Bool, true, false, List, [], ◌∷◌, ◌++◌, length, map, take, drop, Option, Some, None, is_none, option_map, option_to_list, if◌then◌else◌, nat_lt, nat_le, nat_eq}
use Rattle.std.specs.List.{AllByRecursion, list_any}
use Rattle.byteorder.specs.Endian.{big_bytes}
use Rattle.amqp_serial.specs.Numbers.{sum_of}
use Rattle.amqp_link.specs.Links.{Sent, Delivery, LinkState, deliveries, open_count, has_id, fault_of, is_beyond_credit, link_after, link_begins, Granted, DrainAsked, Transferred, FlowStated, HandedUp, ReceiverSettled}
use Rattle.amqp_link.specs.declared.transfer.LinkFault.{LinkFault}
use Rattle.amqp_link.specs.declared.terms.Terms.{Terms}

-- from the endpoint: a flow, of the link or of the session alone
pub record Flow : Type 0 where
  pub of_link : Bool
  pub count : ℕ  -- delivery-count and link-credit [2.6.7]
  pub credit : ℕ
  pub next : ℕ  -- next-incoming-id and incoming-window [2.5.6]
  pub window : ℕ
  pub drain : Bool
  pub echo : Bool

-- to the endpoint: the first frame of a message, a later one, a flow that answers
pub data Frame : Type 0 where
  First : (id : ℕ) → (payload : List ℕ) → (more : Bool) → Frame
  Later : (payload : List ℕ) → (more : Bool) → Frame
  Told : (count next : ℕ) → Frame  -- its delivery-count and its next-outgoing-id

-- the sender: the part of its message that is not written, whether some of it is; its numbers, modulo 2 ^ 32; the limits it was told
pub record Sender : Type 0 where
  pub waiting : Option (List ℕ)
  pub begun : Bool
  pub id : ℕ
  pub count : ℕ
  pub next : ℕ
  pub credit_limit : ℕ
  pub window_limit : ℕ

-- how far a limit is ahead; 0 if that is 2 ^ 31 or more
abbrev pub ahead : ℕ → ℕ → ℕ
ahead limit own = let d = (limit + (2 ^ 32 - own)) % 2 ^ 32 in if nat_lt d (2 ^ 31) then d else 0

abbrev pub credit_of : Sender → ℕ
credit_of s = ahead s.credit_limit s.count

abbrev pub window_of : Sender → ℕ
window_of s = ahead s.window_limit s.next

-- Both sides, and what is on its way to each, the oldest first.
pub record World : Type 0 where
  pub sender : Sender
  pub to_end : List Frame
  pub to_sender : List Flow
  -- the receiving link, and the window of its session: the places that are left, and the next-incoming-id [2.5.6]
  pub link : LinkState
  pub places : ℕ
  pub next : ℕ
  -- the messages that were taken, and those that were taken over, in order
  pub given : List (List ℕ)
  pub offered : List (List ℕ)
  -- the receiver found a fault
  pub failed : Bool

-- The sender. -----------------------------------------------------------------------------------------------------------

-- a frame of the message with these bytes
abbrev pub frame_of : Sender → List ℕ → Bool → Frame
frame_of s payload more = if s.begun then Later payload more else First s.id payload more

-- how much credit the next frame of the message takes: one for its first frame, and none for a later one [2.6.7]
abbrev pub charge : Sender → ℕ
charge s = if s.begun then 0 else 1

-- a frame of the message was written, and this part of it is left
abbrev pub sent : Sender → Option (List ℕ) → Bool → Sender
sent s rest begun = record s { waiting = rest; begun = begun; id = (s.id + charge s) % 2 ^ 32; count = (s.count + charge s) % 2 ^ 32; next = (s.next + 1) % 2 ^ 32 }

abbrev pub puts : World → Sender → List ℕ → Bool → World
puts w s payload more = record w { sender = s; to_end = w.to_end ++ frame_of w.sender payload more ∷ [] }

-- n bytes of the message in a frame that is not its last, or all of it in its last
abbrev pub cuts : World → List ℕ → ℕ → Bool → World
cuts w rest n true = puts w (sent w.sender (Some (drop n rest)) true) (take n rest) true
cuts w rest n false = puts w (sent w.sender None false) rest false

-- A frame is written if the window has a place and there is credit; else nothing happens [2.5.6, 2.6.7].
abbrev pub writes : World → Option (List ℕ) → ℕ → Bool → World
writes w None n more = w
writes w (Some rest) n more = if nat_lt 0 (window_of w.sender) then (if nat_le (charge w.sender) (credit_of w.sender) then cuts w rest n more else w) else w

-- The sender writes a flow; it uses its credit up; it answers a flow that asks for either [2.6.7].
abbrev pub answers : World → World
answers w = record w { to_end = w.to_end ++ Told w.sender.count w.sender.next ∷ [] }

abbrev pub drained : Sender → Sender
drained s = record s { count = (s.count + credit_of s) % 2 ^ 32 }

abbrev pub answered : World → Bool → Bool → World
answered w true echo = answers (record w { sender = drained w.sender })
answered w false true = answers w
answered w false false = w

-- what a flow tells the sender: where the credit ends, if it is of the link, and where the window ends
abbrev pub told : Sender → Flow → Sender
told s f = record s { credit_limit = if f.of_link then sum_of f.count f.credit else s.credit_limit; window_limit = sum_of f.next f.window }

-- the first flow on its way comes
abbrev pub comes : World → List Flow → World
comes w [] = w
comes w (f ∷ fs) = answered (record w { sender = told w.sender f; to_sender = fs }) (f.of_link && f.drain && is_none w.sender.waiting) f.echo

-- A message is taken over if none waits.
abbrev pub offers : World → Option (List ℕ) → List ℕ → World
offers w None m = record w { offered = w.offered ++ m ∷ []; sender = record w.sender { waiting = Some m; begun = false } }
offers w (Some rest) m = w

-- The endpoint. ---------------------------------------------------------------------------------------------------------

-- a first frame and a later one as the link sees them [2.6.14]
abbrev pub first_sent : ℕ → List ℕ → Bool → Sent
first_sent id payload more = record { delivery_id = Some id; delivery_tag = Some (big_bytes 4 id); message_format = Some 0; settled = false; more = more; rcv_settle_mode = None; resume = false; aborted = false; payload = payload }

abbrev pub later_sent : List ℕ → Bool → Sent
later_sent payload more = record { delivery_id = None; delivery_tag = None; message_format = None; settled = false; more = more; rcv_settle_mode = None; resume = false; aborted = false; payload = payload }

abbrev pub fails : World → World
fails w = record w { failed = true }

-- A transfer ends the link if the link finds a fault in it. Else it takes a place, and the link goes on with it [2.5.6, 2.6.14].
abbrev pub judged : World → List Frame → Sent → Option LinkFault → World
judged w q t (Some f) = fails w
judged w q t None = record w { to_end = q; link = link_after w.link (Transferred t); places = w.places - 1; next = (w.next + 1) % 2 ^ 32 }

-- It is a fault too if no place is left, or if the id of its delivery is open.
abbrev pub takes_in : World → List Frame → Sent → Bool → World
takes_in w q t used = if nat_eq w.places 0 then fails w else (if used then fails w else judged w q t (fault_of w.link t))

abbrev pub id_open : LinkState → ℕ → Bool
id_open s id = is_none s.unfinished && list_any (has_id id) (deliveries s)

-- A flow of the sender raises the delivery-count; it is a fault if it goes beyond the credit [2.6.7].
abbrev pub counts : World → List Frame → ℕ → ℕ → World
counts w q count next = if is_beyond_credit w.link.delivery_count w.link.credit (Some count) then fails w else record w { to_end = q; link = link_after w.link (FlowStated (Some count)); next = next }

-- the first frame on its way is acted upon
abbrev pub acts : World → List Frame → World
acts w [] = w
acts w (First id payload more ∷ q) = takes_in w q (first_sent id payload more) (id_open w.link id)
acts w (Later payload more ∷ q) = takes_in w q (later_sent payload more) false
acts w (Told count next ∷ q) = counts w q count next

-- the flow that states the credit of the link and the window of the session
abbrev pub flow_of : World → Bool → Flow
flow_of w of_link = record { of_link = of_link; count = w.link.delivery_count; credit = w.link.credit; next = w.next; window = w.places; drain = w.link.draining; echo = false }

abbrev pub flows : World → Bool → World
flows w of_link = record w { to_sender = w.to_sender ++ flow_of w of_link ∷ [] }

-- the first ready message is taken
abbrev pub takes : World → List Delivery → World
takes w [] = w
takes w (d ∷ ds) = record w { link = link_after w.link (HandedUp d); given = w.given ++ d.message ∷ [] }

-- Turns. ----------------------------------------------------------------------------------------------------------------

-- an offer, a frame that is written, the first of what is on its way to either side, and the calls of the endpoint
pub data Turn : Type 0 where
  Offer : (m : List ℕ) → Turn
  Write : (n : ℕ) → (more : Bool) → Turn
  To_end : Turn
  To_sender : Turn
  Grant : (n : ℕ) → Turn
  Widen : (n : ℕ) → Turn
  Drain : Turn
  Take : Turn
  Settle : (id : ℕ) → Turn

abbrev pub happens : World → Turn → World
happens w (Offer m) = offers w w.sender.waiting m
happens w (Write n more) = writes w w.sender.waiting n more
happens w To_end = acts w w.to_end
happens w To_sender = comes w w.to_sender
happens w (Grant n) = if nat_le (w.link.credit + open_count w.link + n) w.link.terms.bounds.allowed then flows (record w { link = link_after w.link (Granted n) }) true else w
happens w (Widen n) = if nat_lt (w.places + n) (2 ^ 31) then flows (record w { places = w.places + n }) false else w
happens w Drain = flows (record w { link = link_after w.link DrainAsked }) true
happens w Take = takes w w.link.ready
happens w (Settle id) = record w { link = link_after w.link (ReceiverSettled id id) }

-- What holds after each turn. -------------------------------------------------------------------------------------------

-- the part of a message that has come
abbrev pub text : Option (List ℕ) → List ℕ
text None = []
text (Some m) = m

abbrev pub grown : Option (List ℕ) → List ℕ → Bool → Option (List ℕ)
grown part payload more = if more then Some (text part ++ payload) else None

abbrev pub done : Option (List ℕ) → List ℕ → Bool → List (List ℕ)
done part payload more = if more then [] else (text part ++ payload) ∷ []

-- the messages that these frames complete
abbrev pub wholes : Option (List ℕ) → List Frame → List (List ℕ)
wholes part [] = []
wholes part (First id payload more ∷ q) = done None payload more ++ wholes (grown None payload more) q
wholes part (Later payload more ∷ q) = done part payload more ++ wholes (grown part payload more) q
wholes part (Told count next ∷ q) = wholes part q

-- the message that waits: what is written of it, and the rest
abbrev pub tail : Option (List ℕ) → Option (List ℕ) → List (List ℕ)
tail last None = []
tail last (Some rest) = (text last ++ rest) ∷ []

abbrev pub IsDeliveryBegun : Option (List ℕ) → Type 0
IsDeliveryBegun None = ⊥
IsDeliveryBegun (Some m) = Unit {0}

abbrev pub BegunAs : Bool → Option (List ℕ) → Type 0
BegunAs true last = IsDeliveryBegun last
BegunAs false last = last ≡ None

-- The frames lead from the endpoint's part of a message and its plain count, transfers and heads to the sender's.
abbrev pub Walk : List Frame → Option (List ℕ) → ℕ → ℕ → ℕ → Option (List ℕ) → ℕ → ℕ → ℕ → Type 0
Walk [] part c n k last cs ns ks = (part ≡ last) × (c ≡ cs) × (n ≡ ns) × (k ≡ ks)
Walk (First id payload more ∷ q) part c n k last cs ns ks = (part ≡ None) × (id ≡ k % 2 ^ 32) × Walk q (grown None payload more) (c + 1) (n + 1) (k + 1) last cs ns ks
Walk (Later payload more ∷ q) part c n k last cs ns ks = IsDeliveryBegun part × Walk q (grown part payload more) c (n + 1) k last cs ns ks
Walk (Told count next ∷ q) part c n k last cs ns ks = (d : ℕ) × (count ≡ d % 2 ^ 32) × (next ≡ n % 2 ^ 32) × (c ≤ d) × Walk q part d n k last cs ns ks

-- The limits that the flows state only rise, up to the endpoint's.
abbrev pub TellsCredit : Bool → Flow → ℕ → ℕ → Type 0
TellsCredit true f l m = (f.count + f.credit) % 2 ^ 32 ≡ m % 2 ^ 32
TellsCredit false f l m = m ≡ l

abbrev pub Tells : Flow → ℕ → ℕ → ℕ → Type 0
Tells f l m p = TellsCredit f.of_link f l m × ((f.next + f.window) % 2 ^ 32 ≡ p % 2 ^ 32)

abbrev pub Climb : List Flow → ℕ → ℕ → ℕ → ℕ → Type 0
Climb [] l p le pe = (l ≤ le) × (p ≤ pe)
Climb (f ∷ fs) l p le pe = (m : ℕ) × (q : ℕ) × (l ≤ m) × (p ≤ q) × Tells f l m q × Climb fs m q le pe

abbrev pub part_text : LinkState → Option (List ℕ)
part_text s = option_map (λ d. d.message) s.unfinished

abbrev pub messages : List Delivery → List (List ℕ)
messages ds = map (λ d. d.message) ds

abbrev pub waits_first : Sender → ℕ
waits_first s = if is_none s.waiting then 0 else charge s

-- The numbers that wrap around at 2 ^ 32, without wrapping: those that the endpoint has acted upon, and those of the sender.
pub record Plain : Type 0 where
  pub ce : ℕ  -- heads and advances at the endpoint
  pub ue : ℕ  -- transfers at the endpoint
  pub ke : ℕ  -- heads at the endpoint
  pub cs : ℕ  -- heads and advances of the sender
  pub ns : ℕ  -- its transfers
  pub ks : ℕ  -- its heads
  pub ls : ℕ  -- the limits that the sender was told: how far heads and advances may come, and how far transfers
  pub ws : ℕ
  pub last : Option (List ℕ)  -- what is written of the message that waits

-- Nothing has failed. What is on its way leads from the numbers of the endpoint to those of the sender. The limits lead from those
-- that the sender was told to the endpoint's. The messages that were taken over are, in order: those that were taken, those that are
-- ready, those on their way, and the one that waits.
pub record Inv (w : World) (x : Plain) : Type 0 where
  pub fine : w.failed ≡ false
  -- the sender's numbers
  pub id : w.sender.id ≡ x.ks % 2 ^ 32
  pub count : w.sender.count ≡ x.cs % 2 ^ 32
  pub next : w.sender.next ≡ x.ns % 2 ^ 32
  pub begun : BegunAs w.sender.begun x.last
  pub goes_on : w.sender.waiting ≡ None → w.sender.begun ≡ false
  pub told_credit : w.sender.credit_limit % 2 ^ 32 ≡ x.ls % 2 ^ 32
  pub told_window : w.sender.window_limit % 2 ^ 32 ≡ x.ws % 2 ^ 32
  pub spent : x.cs ≤ x.ls
  pub used : x.ns ≤ x.ws
  -- what is on its way
  pub climb : Climb w.to_sender x.ls x.ws (x.ce + w.link.credit) (x.ue + w.places)
  pub walk : Walk w.to_end (part_text w.link) x.ce x.ue x.ke x.last x.cs x.ns x.ks
  -- the endpoint's
  pub end_count : w.link.delivery_count ≡ x.ce % 2 ^ 32
  pub end_next : w.next ≡ x.ue % 2 ^ 32
  pub narrow : w.places < 2 ^ 31
  pub within : w.link.credit ≤ w.link.terms.bounds.allowed
  pub few : w.link.terms.bounds.allowed < 2 ^ 31
  -- the messages
  pub stream : w.given ++ (messages w.link.ready ++ (wholes (part_text w.link) w.to_end ++ tail x.last w.sender.waiting)) ≡ w.offered
  pub small : AllByRecursion (λ m. length m ≤ w.link.terms.bounds.max_message_size) w.offered
  pub ids_taken : AllByRecursion (λ d. d.delivery_id < x.ke) w.link.awaiting
  pub ids_ready : AllByRecursion (λ d. d.delivery_id < x.ke) w.link.ready
  pub ids_part : AllByRecursion (λ d. d.delivery_id < x.ke) (option_to_list w.link.unfinished)
  pub numbered : x.ks + waits_first w.sender ≡ length w.offered
  pub messages : length w.offered ≤ 2 ^ 32

-- The sender's credit, with the heads and advances on their way, is at most the endpoint's; its window, with the transfers on their way, is at most the places that are left [2.5.6, 2.6.7].
pub record IsWithin (w : World) (x : Plain) : Type 0 where
  pub credit : credit_of w.sender + (x.cs - x.ce) ≤ w.link.credit
  pub window : window_of w.sender + (x.ns - x.ue) ≤ w.places

-- each message that is offered fits, and at most 2 ^ 32 are taken over
abbrev pub IsFair : World → Turn → Type 0
IsFair w (Offer m) = (length m ≤ w.link.terms.bounds.max_message_size) × (length w.offered < 2 ^ 32)
IsFair w turn = Unit {0}

-- a new sender and a new link, in a session with these places
abbrev pub start : Terms → ℕ → World
start terms window = record {
  sender = record { waiting = None; begun = false; id = 0; count = 0; next = 0; credit_limit = 0; window_limit = 0 };
  to_end = [];
  to_sender = [];
  link = link_begins terms;
  places = window;
  next = 0;
  given = [];
  offered = [];
  failed = false;
}

-- Laws. -----------------------------------------------------------------------------------------------------------------

abbrev pub StepLaw : Type 0
StepLaw = (w : World) (x : Plain) (turn : Turn) → IsFair w turn → Inv w x → (y : Plain) × Inv (happens w turn) y

abbrev pub BeginLaw : Type 0
BeginLaw = (terms : Terms) (window : ℕ) → terms.initial_delivery_count ≡ 0 → terms.bounds.allowed < 2 ^ 31 → window < 2 ^ 31 → (x : Plain) × Inv (start terms window) x

abbrev pub run : List Turn → World → World
run [] w = w
run (turn ∷ turns) w = run turns (happens w turn)

abbrev pub AreFair : List Turn → World → Type 0
AreFair [] w = Unit {0}
AreFair (turn ∷ turns) w = IsFair w turn × AreFair turns (happens w turn)

-- what is on its way: first frames, and transfers
abbrev pub heads_of : List Frame → ℕ
heads_of [] = 0
heads_of (First id payload more ∷ q) = heads_of q + 1
heads_of (Later payload more ∷ q) = heads_of q
heads_of (Told count next ∷ q) = heads_of q

abbrev pub transfers_of : List Frame → ℕ
transfers_of [] = 0
transfers_of (First id payload more ∷ q) = transfers_of q + 1
transfers_of (Later payload more ∷ q) = transfers_of q + 1
transfers_of (Told count next ∷ q) = transfers_of q

pub record IsServed (w : World) : Type 0 where
  pub never_failed : w.failed ≡ false
  pub in_order : (rest : List (List ℕ)) × (w.given ++ rest ≡ w.offered)
  pub credit : credit_of w.sender + heads_of w.to_end ≤ w.link.credit
  pub window : window_of w.sender + transfers_of w.to_end ≤ w.places

abbrev pub WorldLaw : Type 0
WorldLaw = (terms : Terms) (window : ℕ) (turns : List Turn) → terms.initial_delivery_count ≡ 0 → terms.bounds.allowed < 2 ^ 31 → window < 2 ^ 31 → AreFair turns (start terms window) → IsServed (run turns (start terms window))
