-- Credit rises by an accepted grant alone, over the history of an endpoint.
use Rattle.std.proofs.Common.{arith, ◌≡◌, ℕ, zero, suc, ◌+◌, ◌<◌, ◌≤◌, inl, inr, Bool, true, false, List, [], ◌∷◌, refl, ap, ◌∙◌, subst, Option, Some, None}
use Rattle.std.specs.Prelude.{if◌then◌else◌, nat_eq, unwrap_or, slice_get}
use Rattle.std.proofs.lemmas.Bool.{cases_lt, eq-eqb}
use Rattle.amqp_link.specs.Links.{Delivery, first_ready, Granted}
use Rattle.amqp_session.specs.declared.slot.Slot.{Slot}
use Rattle.amqp_session.specs.declared.slot.Slot.TheVariants.{Free, Live, Waits}
use Rattle.amqp_session.specs.declared.terms.SessionTerms.{SessionTerms}
use Rattle.amqp_session.specs.Calls as asks
use Rattle.amqp_session.specs.Calls.{call_event, take_event, first_taken}
use Rattle.amqp_session.specs.Histories as lived
use Rattle.amqp_session.specs.Laws.{credit_in, credit_at, granted_at}
use Rattle.amqp_session.specs.Places.{Life, IfLive, slot_map, lived_on, life_after, life_state, tabulate}
use Rattle.amqp_session.specs.Sessions as one
use Rattle.amqp_session.specs.Sessions.{LiveLink, SessionState, SessionEvent}
use Rattle.amqp_link.proofs.Groups.{same_either}
use Rattle.amqp_session.proofs.FrameEvents.{IsOfFrames, of_frame}
use Rattle.amqp_session.proofs.Places.{get_at, none_above}
use Rattle.amqp_endpoint.specs.Calls as calls
use Rattle.amqp_endpoint.specs.Configs.{Configured}
use Rattle.amqp_endpoint.specs.Connections as event
use Rattle.amqp_endpoint.specs.Connections.{ConnectionEvent, happens, channels, slot_at}
use Rattle.amqp_endpoint.specs.Credits.{credit_on, granted_by, granted_to, granted_on}
use Rattle.amqp_endpoint.specs.Histories.{part, state_of, IsSoundPart, Sound}
use Rattle.amqp_endpoint.specs.Lines as line
use Rattle.amqp_endpoint.specs.Lines.{Line, line_of, event_on}
use Rattle.amqp_endpoint.specs.Runs.{Happened, Acted, Called, Closed, ClosedWith, Beat, Over, events}
use Rattle.amqp_endpoint.specs.Takings.{link_in, link_at}
use Rattle.amqp_endpoint.proofs.Messages.{has_life}

-- what is owed of one session
abbrev pub SessionGranted : Type 0
SessionGranted = (terms : SessionTerms) (h : List SessionEvent) (handle n : ℕ) (l : LiveLink) → lived.Sound terms h → one.slot_at (lived.state_of terms h) handle ≡ Live l →
    credit_at (lived.state_of terms (one.Called handle (Granted n) ∷ h)) handle ≡ l.link.credit + n

-- the law that nothing but a grant raises the credit of a session's link
abbrev pub SessionMost : Type 0
SessionMost = (terms : SessionTerms) (h : List SessionEvent) (e : SessionEvent) (handle : ℕ) →
    credit_at (lived.state_of terms (e ∷ h)) handle ≤ credit_at (lived.state_of terms h) handle + granted_at handle e

-- Events that grant nothing. --------------------------------------------------------------------------------------------

module _ (handle : ℕ) where
  -- no frame grants
  frames_none : IsOfFrames (λ e. granted_at handle e) 0
  frames_none = record {
    flows = record { ignored = refl; of_session = λ n. refl; of_link = λ place n count. same_either (nat_eq place handle) 0; ended = λ place n. refl };
    attached = λ place a. refl;
    refused = λ place. refl;
    came = λ place t. same_either (nat_eq place handle) 0;
    ended = λ place. refl;
    dropped = λ place. refl;
    settled = λ first last. refl;
    detached = λ place. refl;
  }

  -- a call grants what it asks for at most
  first_none : (place : ℕ) (o : Option Delivery) → granted_at handle (first_taken place o) ≡ 0
  first_none place None = refl
  first_none place (Some d) = same_either (nat_eq place handle) 0

  take_none : (place : ℕ) (x : Slot LiveLink) → granted_at handle (take_event place x) ≡ 0
  take_none place Free = refl
  take_none place (Live l) = first_none place (first_ready l.link)
  take_none place Waits = refl

  call_most : (s : SessionState) (c : asks.Call) → granted_at handle (call_event s c) ≤ granted_by handle c
  call_most s (asks.Grant place n) = omega arith
  call_most s (asks.Take place) = omega (arith, take_none place (one.slot_at s place))
  call_most s (asks.Drain place) = omega (arith, same_either {X = ℕ} (nat_eq place handle) 0)
  call_most s (asks.Widen n) = omega arith
  call_most s (asks.Settle id o) = omega arith
  call_most s (asks.SettleRange first last o) = omega arith
  call_most s (asks.Detach place) = omega arith
  call_most s (asks.Refuse place r) = omega arith
  call_most s (asks.SettleWith id r) = omega arith
  call_most s (asks.SettleRangeWith first last r) = omega arith

-- One event of the connection. ------------------------------------------------------------------------------------------

abbrev Lived : Type 0
Lived = Slot (Life SessionTerms SessionEvent)

abbrev credit_of : ℕ → Lived → ℕ
credit_of handle x = credit_in (link_in handle (life_state lived.state_of x))

nothing_at : (k n i : ℕ) → credit_in (unwrap_or (slice_get (tabulate k n (λ j. Free)) i) Free) ≡ 0
nothing_at k zero i = refl
nothing_at k (suc n) zero = refl
nothing_at k (suc n) (suc i) = nothing_at (suc k) n i

module _ (law : SessionMost) (channel handle : ℕ) where
  in_session : (b : Bool) (e : SessionEvent) (x : Lived) → credit_of handle (if b then slot_map (λ l. lived_on l e) x else x) ≤ credit_of handle x + (if b then granted_at handle e else 0)
  in_session true e Free = omega arith
  in_session true e (Live l) = law l.0 l.1 e handle
  in_session true e Waits = omega arith
  in_session false e x = omega arith

  anew : (b : Bool) (y x : Lived) → credit_of handle y ≡ 0 → credit_of handle (if b then y else x) ≤ credit_of handle x + 0
  anew true y x e = omega (arith, e)
  anew false y x e = omega arith

  one_event : (e : ConnectionEvent) (x : Lived) → credit_of handle (life_after channel (happens e) x) ≤ credit_of handle x + granted_on channel handle e
  one_event (event.InSession place e) x = in_session (nat_eq place channel) e x
  one_event (event.Begun place terms) x = anew (nat_eq place channel) (Live (terms, [])) x (nothing_at 0 (suc terms.handle_max) handle)
  one_event (event.SessionFailed place) x = anew (nat_eq place channel) Waits x refl
  one_event (event.SessionEnded place) x = anew (nat_eq place channel) Free x refl
  one_event event.HeaderCame x = omega arith
  one_event (event.Opened m c said) x = omega arith
  one_event event.Ignored x = omega arith
  one_event event.HeaderRefused x = omega arith
  one_event event.Broken x = omega arith
  one_event event.Failed x = omega arith
  one_event event.CloseAsked x = omega arith
  one_event event.PeerClosed x = omega arith
  one_event event.Lost x = omega arith
  one_event event.Finished x = omega arith

slot_of_part : (config : Configured) (h : List ConnectionEvent) (channel : ℕ) → channel < channels config → slot_at (state_of config h) channel ≡ life_state lived.state_of (part channel h)
slot_of_part config h channel l = ap (λ (o : Option (Slot SessionState)). unwrap_or o Free) (get_at (channels config) (λ k. life_state lived.state_of (part k h)) channel l)

slot_above : (config : Configured) (h : List ConnectionEvent) (channel : ℕ) → channels config ≤ channel → slot_at (state_of config h) channel ≡ Free
slot_above config h channel l = ap (λ (o : Option (Slot SessionState)). unwrap_or o Free) (none_above 0 (channels config) (λ k. life_state lived.state_of (part k h)) channel l)

credit_part : (config : Configured) (h : List ConnectionEvent) (channel handle : ℕ) → channel < channels config → credit_on (state_of config h) channel handle ≡ credit_of handle (part channel h)
credit_part config h channel handle l = ap (λ (x : Slot SessionState). credit_in (link_in handle x)) (slot_of_part config h channel l)

event_most : SessionMost → (config : Configured) (h : List ConnectionEvent) (e : ConnectionEvent) (channel handle : ℕ) →
    credit_on (state_of config (e ∷ h)) channel handle ≤ credit_on (state_of config h) channel handle + granted_on channel handle e
event_most law config h e channel handle =
    elim (cases_lt channel (channels config)) [
      | inl l ↦ omega (arith, one_event law channel handle e (part channel h), credit_part config (e ∷ h) channel handle l, credit_part config h channel handle l)
      | inr l ↦ omega (arith, ap (λ (x : Slot SessionState). credit_in (link_in handle x)) (slot_above config (e ∷ h) channel l))
    ]

-- One entry of the history. ---------------------------------------------------------------------------------------------

-- no unit grants
pub unit_none : (channel handle : ℕ) (s : event.ConnectionState) (l : Line) → granted_on channel handle (event_on s l) ≡ 0
unit_none channel handle s (line.SessionFrame place live f) =
    ap (λ (n : ℕ). if nat_eq place channel then n else 0) (of_frame (λ e. granted_at handle e) 0 (frames_none handle) live f) ∙ same_either (nat_eq place channel) 0
unit_none channel handle s _ = refl

either_most : (b : Bool) (m n : ℕ) → m ≤ n → (if b then m else 0) ≤ (if b then n else 0)
either_most true m n l = l
either_most false m n l = omega arith

-- a call grants what it asks for at most
pub slot_most : (channel handle place : ℕ) (x : Slot SessionState) (c : asks.Call) → granted_on channel handle (calls.slot_event place x c) ≤ granted_to channel handle (Called place c)
slot_most channel handle place Free c = omega arith
slot_most channel handle place (Live s) c = either_most (nat_eq place channel) (granted_at handle (call_event s c)) (granted_by handle c) (call_most handle s c)
slot_most channel handle place Waits c = omega arith

-- the same of a connection
pub credit_most : SessionMost → (config : Configured) (h : List Happened) (x : Happened) (channel handle : ℕ) →
    credit_on (state_of config (events config (x ∷ h))) channel handle ≤ credit_on (state_of config (events config h)) channel handle + granted_to channel handle x
credit_most law config h (Acted u) channel handle =
    let past = events config h in
    let s = state_of config past in
    omega (arith, event_most law config past (event_on s (line_of s u)) channel handle, unit_none channel handle s (line_of s u))
credit_most law config h (Called place c) channel handle =
    let past = events config h in
    let s = state_of config past in
    omega (arith, event_most law config past (calls.call_event s place c) channel handle, slot_most channel handle place (slot_at s place) c)
credit_most law config h Closed channel handle = event_most law config (events config h) event.CloseAsked channel handle
credit_most law config h (ClosedWith r) channel handle = event_most law config (events config h) event.CloseAsked channel handle
credit_most law config h Beat channel handle = omega arith
credit_most law config h Over channel handle = event_most law config (events config h) event.Finished channel handle

-- an accepted grant raises credit by exactly as much
pub credit_granted : SessionGranted → (config : Configured) (h : List Happened) (channel handle n : ℕ) (l : LiveLink) → Sound config (events config h) →
    link_at (state_of config (events config h)) channel handle ≡ Live l →
    credit_on (state_of config (events config (Called channel (asks.Grant handle n) ∷ h))) channel handle ≡ l.link.credit + n
credit_granted law config h channel handle n l sound here = by (slot_at (state_of config (events config h)) channel) refl here
  where
    by : (x : Slot SessionState) → slot_at (state_of config (events config h)) channel ≡ x → link_in handle x ≡ Live l →
        credit_on (state_of config (events config (Called channel (asks.Grant handle n) ∷ h))) channel handle ≡ l.link.credit + n
    by Free is at = absurd (grind (arith, at))
    by (Live s) is at =
        let past = events config h in
        let e = event.InSession channel (one.Called handle (Granted n)) in
        let life = has_life lived.state_of (channels config) (λ k. part k past) channel s is in
        let well = subst (λ (p : Lived). IfLive (λ life. IsSoundPart config life.0 life.1) p) life.stands (sound.sessions channel life.below) in
        let there = subst (λ (t : SessionState). one.slot_at t handle ≡ Live l) life.is at in
        ap (λ (x : Slot SessionState). credit_on (state_of config (calls.slot_event channel x (asks.Grant handle n) ∷ past)) channel handle) is
        ∙ credit_part config (e ∷ past) channel handle life.below
        ∙ ap (λ (b : Bool). credit_of handle (if b then slot_map (λ l. lived_on l (one.Called handle (Granted n))) (part channel past) else part channel past)) (eq-eqb channel channel refl)
        ∙ ap (λ (x : Lived). credit_of handle (slot_map (λ l. lived_on l (one.Called handle (Granted n))) x)) life.stands
        ∙ law life.begin life.past handle n l well.session there
    by Waits is at = absurd (grind (arith, at))
