-- A table of places at which one life follows another: the links of a session by handle, the sessions of a connection by channel (AMQP 1.0, part 2, sections
-- 2.5.1, 2.5.3, 2.6.2, 2.6.4). An event changes what is at one place, or goes on with all lives. The same events result in the history of each place.
use Rattle.std.specs.Prelude.{◌≡◌, ℕ, zero, suc, ◌<◌, nat_eq, if◌then◌else◌, List, [], ◌∷◌, slice_get, Option, Some, None}
use Rattle.amqp_session.specs.declared.slot.Slot.{Slot}
use Rattle.amqp_session.specs.declared.slot.Slot.TheVariants.{Free, Live, Waits}

-- What happens in a table. A life begins with a value of B, and goes on by events of E.
pub data Happens (B E : Type 0) : Type 0 where
  Nothing : Happens B E
  -- a life begins at this place
  Begins : ℕ → B → Happens B E
  -- the life at this place goes on
  GoesOn : ℕ → E → Happens B E
  -- every life goes on
  AllGoOn : E → Happens B E
  -- this side ends what lives at this place, or lets nothing live there: the place waits for the peer
  Leaves : ℕ → Happens B E
  -- the peer ends what is at this place, and the place is free
  Gone : ℕ → Happens B E
  -- all places are free
  AllGone : Happens B E

-- a life: how it began, and its events, newest first
abbrev pub Life : Type 0 → Type 0 → Type 0
Life B E = B × List E

abbrev pub slot_map : {S T : Type 0} → (S → T) → Slot S → Slot T
slot_map f Free = Free
slot_map f (Live s) = Live (f s)
slot_map f Waits = Waits

-- what lives at a place, if anything does
abbrev pub live_in : {T : Type 0} → Slot T → Option T
live_in Free = None
live_in (Live t) = Some t
live_in Waits = None

-- a fact about what lives at a place, if something does
abbrev pub IfLive : {T : Type 0} → (T → Type 0) → Slot T → Type 0
IfLive fact Free = Unit {0}
IfLive fact (Live t) = fact t
IfLive fact Waits = Unit {0}

-- What is at place k after an event, where `start` begins a life and `next` goes on with it.
abbrev pub slot_after : {B E T : Type 0} → (B → T) → (T → E → T) → ℕ → Happens B E → Slot T → Slot T
slot_after start next k Nothing s = s
slot_after start next k (Begins place begin) s = if nat_eq place k then Live (start begin) else s
slot_after start next k (GoesOn place e) s = if nat_eq place k then slot_map (λ t. next t e) s else s
slot_after start next k (AllGoOn e) s = slot_map (λ t. next t e) s
slot_after start next k (Leaves place) s = if nat_eq place k then Waits else s
slot_after start next k (Gone place) s = if nat_eq place k then Free else s
slot_after start next k AllGone s = Free

-- the table after an event, where its first place is k
abbrev pub places_from : {B E T : Type 0} → (B → T) → (T → E → T) → ℕ → Happens B E → List (Slot T) → List (Slot T)
places_from start next k x [] = []
places_from start next k x (s ∷ slots) = slot_after start next k x s ∷ places_from start next (suc k) x slots

abbrev pub places_after : {B E T : Type 0} → (B → T) → (T → E → T) → List (Slot T) → Happens B E → List (Slot T)
places_after start next slots x = places_from start next 0 x slots

-- a life that begins, and one with one more event
abbrev pub new_life : {B E : Type 0} → B → Life B E
new_life begin = (begin, [])

abbrev pub lived_on : {B E : Type 0} → Life B E → E → Life B E
lived_on l e = (l.0, e ∷ l.1)

-- the life at place k after an event: the one that is there now, and nothing of earlier ones
abbrev pub life_after : {B E : Type 0} → ℕ → Happens B E → Slot (Life B E) → Slot (Life B E)
life_after k x l = slot_after new_life lived_on k x l

-- the given number of values of a function, from k on
abbrev pub tabulate : {A : Type 0} → ℕ → ℕ → (ℕ → A) → List A
tabulate k zero f = []
tabulate k (suc n) f = f k ∷ tabulate (suc k) n f

-- the state of a life
abbrev pub life_state : {B E T : Type 0} → (B → List E → T) → Slot (Life B E) → Slot T
life_state state l = slot_map (λ life. state life.0 life.1) l

-- the table of n places with these lives
abbrev pub states : {B E T : Type 0} → (B → List E → T) → ℕ → (ℕ → Slot (Life B E)) → List (Slot T)
states state n lives = tabulate 0 n (λ k. life_state state (lives k))

-- something lives at a place, or waits there
abbrev pub IsInUse : {T : Type 0} → Slot T → Type 0
IsInUse Free = ⊥
IsInUse (Live t) = Unit {0}
IsInUse Waits = Unit {0}

-- nothing waits at a place
abbrev pub IsNoWaiting : {T : Type 0} → Slot T → Type 0
IsNoWaiting Free = Unit {0}
IsNoWaiting (Live t) = Unit {0}
IsNoWaiting Waits = ⊥

-- Whether an event is accepted, where `Begin` says it of a beginning and `May` of an event of one life.
abbrev pub places_may : {B E T : Type 0} → (B → Type 0) → (T → E → Type 0) → List (Slot T) → Happens B E → Type 0
places_may Begin May slots Nothing = Unit {0}
places_may Begin May slots (Begins place begin) = (slice_get slots place ≡ Some Free) × Begin begin
places_may {T} Begin May slots (GoesOn place e) = (t : T) × (slice_get slots place ≡ Some (Live t)) × May t e
places_may {T} Begin May slots (AllGoOn e) = (place : ℕ) (t : T) → slice_get slots place ≡ Some (Live t) → May t e
places_may {T} Begin May slots (Leaves place) = (s : Slot T) × (slice_get slots place ≡ Some s) × IsNoWaiting s
places_may {T} Begin May slots (Gone place) = (s : Slot T) × (slice_get slots place ≡ Some s) × IsInUse s
places_may Begin May slots AllGone = Unit {0}

-- every life of n places is sound
abbrev pub AreSound : {B E : Type 0} → (B → List E → Type 0) → ℕ → (ℕ → Slot (Life B E)) → Type 0
AreSound Sound n lives = (k : ℕ) → k < n → IfLive (λ life. Sound life.0 life.1) (lives k)
