-- Of a delivery that was not handed up the sender was told nothing.
use Rattle.std.proofs.Common.{◌≡◌, ℕ, zero, suc, Bool, true, false, List, [], ◌∷◌, ◌++◌, drop, map, refl, subst, Option, Some, None}
use Rattle.std.specs.Prelude.{if◌then◌else◌, IfSome, nat_eq, option_map, slice_get, unwrap_or}
use Rattle.std.specs.List.{AllByRecursion}
use Rattle.amqp_link.specs.declared.terms.Terms.{Terms}
use Rattle.amqp_link.specs.Links.{Sent, Delivery, LinkState, LinkEvent, Granted, DrainAsked, Transferred, FlowStated, HandedUp, ReceiverSettled, SenderSettled, link_after, delivery_after, sender_settled_by, completes, goes_on}
use Rattle.amqp_session.specs.declared.slot.Slot.{Slot}
use Rattle.amqp_session.specs.declared.slot.Slot.TheVariants.{Free, Live, Waits}
use Rattle.amqp_session.specs.declared.terms.SessionTerms.{SessionTerms}
use Rattle.amqp_session.specs.Places.{Happens, Nothing, Begins, GoesOn, AllGoOn, Leaves, Gone, AllGone, slot_map, slot_after, places_from, tabulate, IfLive}
use Rattle.amqp_session.specs.Sessions as session
use Rattle.amqp_session.specs.Sessions.{Attached, LiveLink, live_begins, live_after, SessionState, SessionEvent, session_begins, session_after}
use Rattle.amqp_endpoint.specs.Configs.{Configured}
use Rattle.amqp_endpoint.specs.Connections as connection
use Rattle.amqp_endpoint.specs.Connections.{ConnectionState, ConnectionEvent, channels, slot_at}
use Rattle.amqp_endpoint.specs.Histories.{after_all}

-- A fact of every life in a table. ----------------------------------------------------------------------------------------

abbrev pub AllLive : {T : Type 0} → (T → Type 0) → List (Slot T) → Type 0
AllLive fact slots = AllByRecursion (IfLive fact) slots

none_live : {T : Type 0} (fact : T → Type 0) (k n : ℕ) → AllLive fact (tabulate k n (λ j. Free))
none_live fact k zero = tt
none_live fact k (suc n) = (tt, none_live fact (suc k) n)

live_at : {T : Type 0} (fact : T → Type 0) (slots : List (Slot T)) (i : ℕ) → AllLive fact slots → IfLive fact (unwrap_or (slice_get slots i) Free)
live_at fact [] i all = tt
live_at fact (s ∷ slots) zero all = all.0
live_at fact (s ∷ slots) (suc i) all = live_at fact slots i all.1

module _ {B E T : Type 0} (start : B → T) (next : T → E → T) (fact : T → Type 0) (begins : (b : B) → fact (start b)) (goes : (t : T) (e : E) → fact t → fact (next t e)) where
  either : (b : Bool) (x y : Slot T) → IfLive fact x → IfLive fact y → IfLive fact (if b then x else y)
  either true x y a c = a
  either false x y a c = c

  mapped : (e : E) (s : Slot T) → IfLive fact s → IfLive fact (slot_map (λ t. next t e) s)
  mapped e Free a = tt
  mapped e (Live t) a = goes t e a
  mapped e Waits a = tt

  slot_keeps : (k : ℕ) (x : Happens B E) (s : Slot T) → IfLive fact s → IfLive fact (slot_after start next k x s)
  slot_keeps k Nothing s a = a
  slot_keeps k (Begins place b) s a = either (nat_eq place k) (Live (start b)) s (begins b) a
  slot_keeps k (GoesOn place e) s a = either (nat_eq place k) (slot_map (λ t. next t e) s) s (mapped e s a) a
  slot_keeps k (AllGoOn e) s a = mapped e s a
  slot_keeps k (Leaves place) s a = either (nat_eq place k) Waits s tt a
  slot_keeps k (Gone place) s a = either (nat_eq place k) Free s tt a
  slot_keeps k AllGone s a = tt

  places_keep : (k : ℕ) (x : Happens B E) (slots : List (Slot T)) → AllLive fact slots → AllLive fact (places_from start next k x slots)
  places_keep k x [] all = tt
  places_keep k x (s ∷ slots) all = (slot_keeps k x s all.0, places_keep (suc k) x slots all.1)

-- A link. -----------------------------------------------------------------------------------------------------------------

abbrev pub IsUntold : Delivery → Type 0
IsUntold d = d.told ≡ false

pub record AreUntold (l : LinkState) : Type 0 where
  pub ready : AllByRecursion IsUntold l.ready
  pub unfinished : IfSome l.unfinished IsUntold

delivery_untold : (terms : Terms) (o : Option Delivery) (t : Sent) → IfSome o IsUntold → IsUntold (delivery_after terms o t)
delivery_untold terms None t a = refl
delivery_untold terms (Some d) t a = a

behind_untold : (ds es : List Delivery) → AllByRecursion IsUntold ds → AllByRecursion IsUntold es → AllByRecursion IsUntold (ds ++ es)
behind_untold [] es a b = b
behind_untold (d ∷ ds) es a b = (a.0, behind_untold ds es a.1 b)

one_untold : (b : Bool) (d : Delivery) → IsUntold d → AllByRecursion IsUntold (if b then d ∷ [] else [])
one_untold true d a = (a, tt)
one_untold false d a = tt

left_untold : (b : Bool) (d : Delivery) → IsUntold d → IfSome (if b then Some d else None) IsUntold
left_untold true d a = a
left_untold false d a = tt

rest_untold : (ds : List Delivery) → AllByRecursion IsUntold ds → AllByRecursion IsUntold (drop 1 ds)
rest_untold [] a = tt
rest_untold (d ∷ ds) a = a.1

settled_untold : (first last : ℕ) (ds : List Delivery) → AllByRecursion IsUntold ds → AllByRecursion IsUntold (map (sender_settled_by first last) ds)
settled_untold first last [] a = tt
settled_untold first last (d ∷ ds) a = (a.0, settled_untold first last ds a.1)

part_settled_untold : (first last : ℕ) (o : Option Delivery) → IfSome o IsUntold → IfSome (option_map (sender_settled_by first last) o) IsUntold
part_settled_untold first last None a = tt
part_settled_untold first last (Some d) a = a

link_untold : (l : LinkState) (e : LinkEvent) → AreUntold l → AreUntold (link_after l e)
link_untold l (Granted n) a = record { ready = a.ready; unfinished = a.unfinished }
link_untold l DrainAsked a = record { ready = a.ready; unfinished = a.unfinished }
link_untold l (Transferred t) a =
    let d = delivery_after l.terms l.unfinished t in
    let one = delivery_untold l.terms l.unfinished t a.unfinished in
    record { ready = behind_untold l.ready (if completes t then d ∷ [] else []) a.ready (one_untold (completes t) d one); unfinished = left_untold (goes_on t) d one }
link_untold l (FlowStated stated) a = record { ready = a.ready; unfinished = a.unfinished }
link_untold l (HandedUp d) a = record { ready = rest_untold l.ready a.ready; unfinished = a.unfinished }
link_untold l (ReceiverSettled first last) a = record { ready = a.ready; unfinished = a.unfinished }
link_untold l (SenderSettled first last) a = record { ready = settled_untold first last l.ready a.ready; unfinished = part_settled_untold first last l.unfinished a.unfinished }

-- All links. --------------------------------------------------------------------------------------------------------------

abbrev pub LinkUntold : LiveLink → Type 0
LinkUntold l = AreUntold l.link

abbrev pub SessionUntold : SessionState → Type 0
SessionUntold s = AllLive LinkUntold s.links

abbrev pub ConnectionUntold : ConnectionState → Type 0
ConnectionUntold s = AllLive SessionUntold s.sessions

live_untold : (a : Attached) → LinkUntold (live_begins a)
live_untold a = record { ready = tt; unfinished = tt }

session_untold : (s : SessionState) (e : SessionEvent) → SessionUntold s → SessionUntold (session_after s e)
session_untold s e a = places_keep live_begins live_after LinkUntold live_untold (λ l x b. link_untold l.link x b) 0 (session.happens e) s.links a

begun_untold : (terms : SessionTerms) → SessionUntold (session_begins terms)
begun_untold terms = none_live LinkUntold 0 (session.handles terms)

-- so it is of each link after any events
pub all_untold : (config : Configured) (h : List ConnectionEvent) → ConnectionUntold (after_all config h)
all_untold config [] = none_live SessionUntold 0 (channels config)
all_untold config (e ∷ h) = places_keep session_begins session_after SessionUntold begun_untold session_untold 0 (connection.happens e) (after_all config h).sessions (all_untold config h)

-- of one in hand
pub untold_at : (s : ConnectionState) (channel handle : ℕ) (t : SessionState) (l : LiveLink) → ConnectionUntold s → slot_at s channel ≡ Live t → session.slot_at t handle ≡ Live l → AreUntold l.link
untold_at s channel handle t l all here there =
    let links : SessionUntold t = subst (IfLive SessionUntold) here (live_at SessionUntold s.sessions channel all) in subst (IfLive LinkUntold) there (live_at LinkUntold t.links handle links)
