-- One event more: what the connection shows stays what its history gives.
use Rattle.std.proofs.Common.{arith, ◌≡◌, ℕ, ◌^◌, ◌<◌, ◌≤◌, subst, Bool, true, false, List, [], ◌∷◌, refl, sym, ap, ◌∙◌, Option}
use Rattle.std.specs.Prelude.{nat_eq, unwrap_or, if◌then◌else◌}
use Rattle.std.specs.List.{list_any}
use Rattle.amqp_session.specs.declared.slot.Slot.{Slot}
use Rattle.amqp_session.specs.declared.slot.Slot.TheVariants.{Free, Live, Waits}
use Rattle.amqp_session.specs.declared.terms.SessionTerms.{SessionTerms}
use Rattle.amqp_session.specs.Places.{Happens, Nothing, Begins, GoesOn, AllGoOn, Leaves, Gone, AllGone, Life, IfLive, slot_map, new_life, lived_on, life_after}
use Rattle.amqp_session.specs.Sessions.{SessionState, SessionEvent, SessionMay}
use Rattle.amqp_session.specs.Sessions as one
use Rattle.amqp_session.specs.Histories as session
use Rattle.amqp_session.proofs.Places.{places_step}
use Rattle.amqp_endpoint.specs.declared.phase.Phase.{Phase}
use Rattle.amqp_endpoint.specs.declared.introduction.Introduction.{Introduction}
use Rattle.amqp_endpoint.specs.declared.phase.Phase.TheVariants as phase
use Rattle.amqp_endpoint.specs.Configs.{Configured}
use Rattle.amqp_endpoint.specs.Connections as event
use Rattle.amqp_endpoint.specs.Connections.{ConnectionState, ConnectionEvent, channels, channel_limit, is_dead, is_open, is_end, is_own_close, opened_by, phase_after, happens, connection_begins}
use Rattle.amqp_endpoint.specs.Connections.{connection_after}
use Rattle.amqp_endpoint.specs.Connections.{IsTimely, IsOffered, MayBeginWith, HasBounds, IsLimited, MayIn, ConnectionMay}
use Rattle.amqp_endpoint.specs.Histories.{opening_in, phase_of, part, state_of, IsSoundPart, Sound, after_all, Accepted}

-- what a session owes
abbrev pub SessionBegins : Type 0
SessionBegins = (terms : SessionTerms) → terms.incoming_window < 2 ^ 31 → terms.next_outgoing_id < 2 ^ 32 → (one.session_begins terms ≡ session.state_of terms []) × session.Sound terms []

-- the law that a session goes on by its history, which stands in its crate
abbrev pub SessionGoesOn : Type 0
SessionGoesOn = (terms : SessionTerms) (h : List SessionEvent) (e : SessionEvent) → session.Sound terms h → SessionMay (session.state_of terms h) e →
    (one.session_after (session.state_of terms h) e ≡ session.state_of terms (e ∷ h)) × session.Sound terms (e ∷ h)

-- what a connection owes
abbrev pub ConnectionBegins : Type 0
ConnectionBegins = (config : Configured) → (connection_begins config ≡ state_of config []) × Sound config []

-- the same law of a connection
abbrev pub ConnectionGoesOn : Type 0
ConnectionGoesOn = (config : Configured) (h : List ConnectionEvent) (e : ConnectionEvent) → config.window < 2 ^ 31 → Sound config h → ConnectionMay (state_of config h) e →
    (connection_after (state_of config h) e ≡ state_of config (e ∷ h)) × Sound config (e ∷ h)

-- Parts. ----------------------------------------------------------------------------------------------------------------

part_begins : SessionBegins → (config : Configured) → config.window < 2 ^ 31 → (terms : SessionTerms) → MayBeginWith config terms →
    (one.session_begins terms ≡ session.state_of terms []) × IsSoundPart config terms []
part_begins law config narrow terms begun =
    let first = law terms (subst (λ (n : ℕ). n < 2 ^ 31) (sym begun.window) narrow) begun.first in (first.0, record { begun = begun; session = first.1; limited = λ handle. tt })

-- What holds of how each life begins holds of all that live.
abbrev BeginsSo : {B E : Type 0} → (B → Type 0) → Happens B E → Type 0
BeginsSo P (Begins place begin) = P begin
BeginsSo P x = Unit {0}

module _ {B E : Type 0} (P : B → Type 0) where
  abbrev Kept : Slot (Life B E) → Type 0
  Kept l = IfLive (λ (life : Life B E). P life.0) l

  pick : (b : Bool) (l m : Slot (Life B E)) → Kept l → Kept m → Kept (if b then l else m)
  pick true l m x y = x
  pick false l m x y = y

  lives_on : (e : E) (l : Slot (Life B E)) → Kept l → Kept (slot_map (λ life. lived_on life e) l)
  lives_on e Free x = tt
  lives_on e (Live life) x = x
  lives_on e Waits x = tt

  keeps : (k : ℕ) (x : Happens B E) (l : Slot (Life B E)) → BeginsSo P x → Kept l → Kept (life_after k x l)
  keeps k Nothing l so was = was
  keeps k (Begins place begin) l so was = pick (nat_eq place k) (Live (new_life begin)) l so was
  keeps k (GoesOn place e) l so was = pick (nat_eq place k) (slot_map (λ life. lived_on life e) l) l (lives_on e l was) was
  keeps k (AllGoOn e) l so was = lives_on e l was
  keeps k (Leaves place) l so was = pick (nat_eq place k) Waits l tt was
  keeps k (Gone place) l so was = pick (nat_eq place k) Free l tt was
  keeps k AllGone l so was = tt

limit_of : (config : Configured) (e : SessionEvent) → IsLimited config e → BeginsSo (HasBounds config) (one.happens e)
limit_of config (one.LinkAttached handle a) so = so
limit_of config e so = tt

part_goes_on : SessionGoesOn → (config : Configured) (terms : SessionTerms) (h : List SessionEvent) (e : SessionEvent) → IsSoundPart config terms h → MayIn config (session.state_of terms h) e →
    (one.session_after (session.state_of terms h) e ≡ session.state_of terms (e ∷ h)) × IsSoundPart config terms (e ∷ h)
part_goes_on law config terms h e sound may =
    let next = law terms h e sound.session may.0 in (
      next.0,
      record {
        begun = sound.begun;
        session = next.1;
        limited = λ handle. keeps (HasBounds config) handle (one.happens e) (session.part handle h) (limit_of config e may.1) (sound.limited handle);
      },
    )

-- The phase. ------------------------------------------------------------------------------------------------------------

abbrev chosen : Bool → Bool → Phase → Phase
chosen over closing p = if over then phase.Dead else (if closing then phase.Closing else p)

-- nothing ended it where it is not dead, and nothing closed it where it is neither dead nor closing
not_over : (over closing : Bool) (p : Phase) → is_dead (chosen over closing p) ≡ false → over ≡ false
not_over true closing p e = absurd (grind (arith, e))
not_over false closing p e = refl

open_not_dead : (p : Phase) → is_open p ≡ true → is_dead p ≡ false
open_not_dead phase.Unopened e = refl
open_not_dead (phase.Open m c) e = refl
open_not_dead phase.Closing e = refl
open_not_dead phase.Dead e = absurd (grind (arith, e))

unopened_parts : (over closing : Bool) (p : Phase) → chosen over closing p ≡ phase.Unopened → (over ≡ false) × (closing ≡ false)
unopened_parts true closing p e = absurd (grind (arith, e))
unopened_parts false true p e = absurd (grind (arith, e))
unopened_parts false false p e = (refl, refl)

opened_on : (over closing : Bool) (q : Phase) → over ≡ false → closing ≡ false → q ≡ chosen over closing q
opened_on over closing q a b = ap (λ (x : Bool). chosen x false q) (sym a) ∙ ap (λ (x : Bool). chosen over x q) (sym b)

closed_on : (over : Bool) (q : Phase) → over ≡ false → phase.Closing ≡ chosen over true q
closed_on over q a = ap (λ (x : Bool). chosen x true q) (sym a)

phase_on : (h : List ConnectionEvent) (e : ConnectionEvent) → IsTimely (phase_of h) e → phase_after (phase_of h) e ≡ phase_of (e ∷ h)
phase_on h (event.Opened m c said) timely =
    let p = unopened_parts (list_any is_end h) (list_any is_own_close h) (unwrap_or (opening_in h) phase.Unopened) timely in
    opened_on (list_any is_end h) (list_any is_own_close h) (phase.Open m c) p.0 p.1
phase_on h event.Failed timely =
    closed_on (list_any is_end h) (unwrap_or (opening_in h) phase.Unopened) (not_over (list_any is_end h) (list_any is_own_close h) (unwrap_or (opening_in h) phase.Unopened) timely.0)
phase_on h event.CloseAsked timely =
    closed_on (list_any is_end h) (unwrap_or (opening_in h) phase.Unopened)
    (not_over (list_any is_end h) (list_any is_own_close h) (unwrap_or (opening_in h) phase.Unopened) (open_not_dead (phase_of h) timely))
phase_on h e timely = refl

limit_on : (config : Configured) (p : Phase) (e : ConnectionEvent) → channel_limit p ≤ config.channel_max → IsOffered config e → channel_limit (phase_after p e) ≤ config.channel_max
limit_on config p event.HeaderCame limit offered = limit
limit_on config p (event.Opened m c said) limit offered = offered
limit_on config p (event.Begun channel terms) limit offered = limit
limit_on config p (event.InSession channel e) limit offered = limit
limit_on config p (event.SessionFailed channel) limit offered = limit
limit_on config p (event.SessionEnded channel) limit offered = limit
limit_on config p event.Ignored limit offered = limit
limit_on config p e limit offered = omega arith

both : {A : Type 0} (b : Bool) → b ≡ true → b ≡ false → A
both true a b = absurd (grind (arith, b))
both false a b = absurd (grind (arith, a))

-- no session stands where the connection is not open
none_on : (h : List ConnectionEvent) (e : ConnectionEvent) → IsTimely (phase_of h) e → (is_open (phase_of h) ≡ false → (channel : ℕ) → part channel h ≡ Free) →
    is_open (phase_after (phase_of h) e) ≡ false → (channel : ℕ) → part channel (e ∷ h) ≡ Free
none_on h event.HeaderCame timely none shut channel = none shut channel
none_on h event.Ignored timely none shut channel = none shut channel
none_on h (event.Opened m c said) timely none shut channel = absurd (grind (arith, shut))
none_on h (event.Begun place terms) timely none shut channel = both (is_open (phase_of h)) timely shut
none_on h (event.InSession place e) timely none shut channel = both (is_open (phase_of h)) timely shut
none_on h (event.SessionFailed place) timely none shut channel = both (is_open (phase_of h)) timely shut
none_on h (event.SessionEnded place) timely none shut channel = both (is_open (phase_of h)) timely shut
none_on h e timely none shut channel = refl

-- One step. -------------------------------------------------------------------------------------------------------------

made : Configured → Phase → Bool → Bool → Option Introduction → List (Slot SessionState) → ConnectionState
made config p failed closed peer slots = record { config = config; phase = p; failed = failed; closed = closed; peer = peer; sessions = slots }

-- a new connection has the state of the empty history
pub begins_sound : ConnectionBegins
begins_sound config = (refl, record { limit = omega arith; sessions = λ k l. tt; none = λ shut channel. refl })

-- one more event leaves the state of the longer history
pub goes_on_sound : SessionBegins → SessionGoesOn → ConnectionGoesOn
unfolding made
goes_on_sound begins step config h e narrow sound may =
    let life = places_step one.session_begins one.session_after session.state_of (MayBeginWith config) (MayIn config) (IsSoundPart config) (channels config) (λ channel. part channel h) in
    let table = life (happens e) (part_begins begins config narrow) (part_goes_on step config) sound.sessions may.2 in
    let p = phase_on h e may.0 in
    let after = connection_after (state_of config h) e in
    let failed = after.failed in
    let closed = after.closed in
    let peer = after.peer in (
      ap (λ (q : Phase). made config q failed closed peer after.sessions) p ∙ ap (λ (slots : List (Slot SessionState)). made config (phase_of (e ∷ h)) failed closed peer slots) table.0,
      record {
        limit = subst (λ (q : Phase). channel_limit q ≤ config.channel_max) p (limit_on config (phase_of h) e sound.limit may.1);
        sessions = table.1;
        none = λ shut channel. none_on h e may.0 sound.none (subst (λ (q : Phase). is_open q ≡ false) (sym p) shut) channel;
      },
    )

-- after any accepted events a connection has the state of the history
pub all_sound : ConnectionBegins → ConnectionGoesOn → (config : Configured) (h : List ConnectionEvent) → config.window < 2 ^ 31 → Accepted config h →
    (after_all config h ≡ state_of config h) × Sound config h
all_sound begins step config [] narrow all = begins config
all_sound begins step config (e ∷ h) narrow all =
    let before = all_sound begins step config h narrow all.0 in
    let next = step config h e narrow before.1 (subst (λ (s : ConnectionState). ConnectionMay s e) before.0 all.1) in
    (ap (λ (s : ConnectionState). connection_after s e) before.0 ∙ next.0, next.1)
