-- Once all supplies were topped up, topping up again changes nothing: each lacks nothing, or is refused what it lacks.
use Rattle.std.proofs.Common.{arith, ◌≡◌, ℕ, zero, suc, ◌+◌, ◌-◌, ◌*◌, ◌⊎◌, inl, inr, Bool, true, false, ◌||◌, List, [], ◌∷◌, refl, sym, ap, subst, ◌∙◌, Option, Some, None}
use Rattle.std.specs.Prelude.{if◌then◌else◌, nat_eq, nat_le, nat_lt, min, slice_get, unwrap_or}
use Rattle.std.proofs.lemmas.Bool.{true≢false, eq-eqb, eqb-true}
use Rattle.amqp_link.specs.Links.{Granted, open_count}
use Rattle.amqp_session.specs.declared.slot.Slot.{Slot}
use Rattle.amqp_session.specs.declared.slot.Slot.TheVariants.{Free, Live, Waits}
use Rattle.amqp_session.specs.Calls as session
use Rattle.amqp_session.specs.declared.fault.CallFault.TheVariants as of_session
use Rattle.amqp_session.specs.Faults.{or_else, where_so}
use Rattle.amqp_session.specs.Places.{GoesOn, slot_map, places_from}
use Rattle.amqp_session.specs.Sessions as one
use Rattle.amqp_session.specs.Sessions.{LiveLink, SessionState, SessionEvent, session_begins, session_after, live_begins, live_after}
use Rattle.amqp_session.proofs.Lives.{slot_elsewhere}
use Rattle.amqp_endpoint.specs.declared.fault.CallFault.{CallFault}
use Rattle.amqp_endpoint.specs.declared.fault.CallFault.TheVariants as refused
use Rattle.amqp_endpoint.specs.declared.phase.Phase.{Phase}
use Rattle.amqp_serve.specs.declared.rules.Rule.{Rule}
use Rattle.amqp_endpoint.specs.Calls.{at_session, of_option, writes, full_fault, call_fault, call_event, slot_event}
use Rattle.amqp_endpoint.specs.Configs.{Configured}
use Rattle.amqp_endpoint.specs.Connections.{ConnectionState, InSession, connection_after, slot_at, is_dead, is_closing}
use Rattle.amqp_serve.specs.Cuts.{Made, called_by, called, supply_channel, call_for, topped_by, topped, all_topped}
use Rattle.amqp_endpoint.specs.Takings.{link_in}
use Rattle.amqp_serve.specs.Serving.{window_lack, credit_lack, lack}
use Rattle.amqp_serve.specs.declared.supplies.Supply.{Supply}
use Rattle.amqp_serve.specs.declared.supplies.Supply.TheVariants.{WindowOf, CreditOf}

-- Places of a table. --------------------------------------------------------------------------------------------------

two_same : {X : Type 0} (b : Bool) (x : X) → (if b then x else x) ≡ x
two_same true x = refl
two_same false x = refl

module _ {B E T : Type 0} (start : B → T) (next : T → E → T) where
  abbrev pub on : Bool → E → Slot T → Slot T
  on b e x = if b then slot_map (λ t. next t e) x else x

  abbrev pub at : List (Slot T) → ℕ → Slot T
  at slots i = unwrap_or (slice_get slots i) Free

  -- what stands at a place, once a life went on
  got_on : (k i place : ℕ) (e : E) (slots : List (Slot T)) → at (places_from start next k (GoesOn place e) slots) i ≡ on (nat_eq place (k + i)) e (at slots i)
  got_on k i place e [] = sym (two_same (nat_eq place (k + i)) Free)
  got_on k zero place e (s ∷ slots) = let same : k ≡ k + 0 = omega arith in ap (λ (j : ℕ). on (nat_eq place j) e s) same
  got_on k (suc i) place e (s ∷ slots) =
      let same : suc k + i ≡ k + suc i = omega arith in got_on (suc k) i place e slots ∙ ap (λ (j : ℕ). on (nat_eq place j) e (at slots i)) same

  pub got_at : (i place : ℕ) (e : E) (slots : List (Slot T)) → at (places_from start next 0 (GoesOn place e) slots) i ≡ on (nat_eq place i) e (at slots i)
  got_at i place e slots = let same : 0 + i ≡ i = omega arith in got_on 0 i place e slots ∙ ap (λ (j : ℕ). on (nat_eq place j) e (at slots i)) same

-- the session on a channel, once something happened to one
abbrev pub went : Bool → SessionEvent → Slot SessionState → Slot SessionState
went b e x = if b then slot_map (λ t. session_after t e) x else x

pub slot_went : (s : ConnectionState) (channel place : ℕ) (e : SessionEvent) → slot_at (connection_after s (InSession place e)) channel ≡ went (nat_eq place channel) e (slot_at s channel)
slot_went s channel place e = got_at session_begins session_after channel place e s.sessions

-- What a supply lacks. -------------------------------------------------------------------------------------------------

-- by what stands at its channel
abbrev pub lack_in : Rule → Configured → Slot SessionState → Supply → ℕ
lack_in p config x (WindowOf channel) = window_lack config.window x
lack_in p config x (CreditOf channel handle) = credit_lack p (link_in handle x)

abbrev fault_in : Phase → Slot SessionState → session.Call → Option CallFault
fault_in phase x c = or_else (where_so (is_dead phase || is_closing phase) refused.Dead) (or_else (at_session x c) (if writes c then full_fault [] else None))

-- it lacks nothing, or is refused it
abbrev StillIn : Rule → Configured → Phase → Slot SessionState → Supply → Type 0
StillIn p config phase x supply = (lack_in p config x supply ≡ 0) ⊎ ((fault : CallFault) × (fault_in phase x (call_for supply (lack_in p config x supply)) ≡ Some fault))

pub lack_is : (p : Rule) (s : ConnectionState) (supply : Supply) → lack p s supply ≡ lack_in p s.config (slot_at s (supply_channel supply)) supply
lack_is p s (WindowOf channel) = refl
lack_is p s (CreditOf channel handle) = refl

-- it is so on a connection
abbrev pub Still : Rule → ConnectionState → Supply → Type 0
Still p s supply = StillIn p s.config s.phase (slot_at s (supply_channel supply)) supply

-- Gifts. --------------------------------------------------------------------------------------------------------------

zero_if : (b : Bool) (n : ℕ) → n ≡ 0 → (if b then n else 0) ≡ 0
zero_if true n e = e
zero_if false n e = refl

window_enough : (w window n : ℕ) → (if nat_le (2 * w) window then window - w else 0) ≡ suc n → (if nat_le (2 * (w + suc n - 0)) window then window - (w + suc n - 0) else 0) ≡ 0
window_enough w window n e = by (nat_le (2 * w) window) e
  where
    by : (b : Bool) → (if b then window - w else 0) ≡ suc n → (if nat_le (2 * (w + suc n - 0)) window then window - (w + suc n - 0) else 0) ≡ 0
    by true f = zero_if (nat_le (2 * (w + suc n - 0)) window) (window - (w + suc n - 0)) (omega (arith, f))
    by false f = absurd (omega (arith, f))

credit_enough : (credit mark allowed had opened n : ℕ) → (if nat_le had mark then min (credit - had) (allowed - had - opened) else 0) ≡ suc n →
    (if nat_le (had + suc n) mark then min (credit - (had + suc n)) (allowed - (had + suc n) - opened) else 0) ≡ 0
credit_enough credit mark allowed had opened n e = by (nat_le had mark) e
  where
    by : (b : Bool) → (if b then min (credit - had) (allowed - had - opened) else 0) ≡ suc n →
        (if nat_le (had + suc n) mark then min (credit - (had + suc n)) (allowed - (had + suc n) - opened) else 0) ≡ 0
    by true f = zero_if (nat_le (had + suc n) mark) (min (credit - (had + suc n)) (allowed - (had + suc n) - opened)) (omega (arith, f))
    by false f = absurd (omega (arith, f))

-- what a call for a supply does to its session
abbrev pub gift : Supply → ℕ → SessionEvent
gift (WindowOf channel) n = one.Widened n
gift (CreditOf channel handle) n = one.Called handle (Granted n)

abbrev pub given_in : Slot SessionState → Supply → ℕ → Slot SessionState
given_in x supply n = slot_map (λ t. session_after t (gift supply n)) x

-- where a supply lacks something, a session lives
pub lives_there : (p : Rule) (config : Configured) (x : Slot SessionState) (supply : Supply) (n : ℕ) → lack_in p config x supply ≡ suc n → (s : SessionState) × (x ≡ Live s)
lives_there p config Free (WindowOf channel) n e = absurd (omega (arith, e))
lives_there p config Free (CreditOf channel handle) n e = absurd (omega (arith, e))
lives_there p config (Live s) supply n e = (s, refl)
lives_there p config Waits (WindowOf channel) n e = absurd (omega (arith, e))
lives_there p config Waits (CreditOf channel handle) n e = absurd (omega (arith, e))

pub event_is : (s : ConnectionState) (supply : Supply) (t : SessionState) (n : ℕ) → slot_at s (supply_channel supply) ≡ Live t →
    call_event s (supply_channel supply) (call_for supply n) ≡ InSession (supply_channel supply) (gift supply n)
event_is s (WindowOf channel) t n e = ap (λ (x : Slot SessionState). slot_event channel x (session.Widen n)) e
event_is s (CreditOf channel handle) t n e = ap (λ (x : Slot SessionState). slot_event channel x (session.Grant handle n)) e

-- A supply that was given what it lacked lacks nothing.
pub lack_after : (p : Rule) (config : Configured) (x : Slot SessionState) (supply : Supply) (n : ℕ) → lack_in p config x supply ≡ suc n → lack_in p config (given_in x supply (suc n)) supply ≡ 0
lack_after p config Free supply n e = absurd (absent (lives_there p config Free supply n e).1)
  where
    absent : {s : SessionState} → Free ≡ Live s → ⊥
    absent f = absurd (grind (arith, f))
lack_after p config (Live s) (WindowOf channel) n e = window_enough s.window config.window n e
lack_after p config (Live s) (CreditOf channel handle) n e =
    ap (λ (y : Slot LiveLink). credit_lack p y)
    (got_at live_begins live_after handle handle (Granted (suc n)) s.links
    ∙ ap (λ (b : Bool). if b then slot_map (λ l. live_after l (Granted (suc n))) (one.slot_at s handle) else one.slot_at s handle) (eq-eqb handle handle refl))
    ∙ by (one.slot_at s handle) e
  where
    by : (y : Slot LiveLink) → credit_lack p y ≡ suc n → credit_lack p (slot_map (λ l. live_after l (Granted (suc n))) y) ≡ 0
    by Free f = absurd (omega (arith, f))
    by (Live l) f = credit_enough p.credit p.mark l.link.terms.bounds.allowed l.link.credit (open_count l.link) n f
    by Waits f = absurd (omega (arith, f))
lack_after p config Waits supply n e = absurd (absent (lives_there p config Waits supply n e).1)
  where
    absent : {s : SessionState} → Waits ≡ Live s → ⊥
    absent f = absurd (grind (arith, f))

-- What is still there stays so. ---------------------------------------------------------------------------------------

-- a call for a supply that is still is refused, where it lacks something
not_given : (p : Rule) (config : Configured) (phase : Phase) (x : Slot SessionState) (supply : Supply) (n : ℕ) → StillIn p config phase x supply → lack_in p config x supply ≡ suc n →
    fault_in phase x (call_for supply (suc n)) ≡ None → ⊥
not_given p config phase x supply n (inl z) e none = absurd (omega (arith, z, e))
not_given p config phase x supply n (inr f) e none =
    let bad : Some f.0 ≡ None = sym f.1 ∙ ap (λ (m : ℕ). fault_in phase x (call_for supply m)) e ∙ none in absurd (grind (arith, bad))

-- the same of a link
abbrev StillLink : Rule → Configured → Phase → Slot LiveLink → Type 0
StillLink p config phase y =
    (credit_lack p y ≡ 0)
    ⊎ ((fault : CallFault)
    × (or_else (where_so (is_dead phase || is_closing phase) refused.Dead)
    (or_else (of_option (session.at_link y (λ l. where_so (nat_lt l.terms.bounds.allowed (l.credit + open_count l + credit_lack p y)) of_session.TooMuchCredit)))
    (full_fault []))
    ≡ Some fault))

module _ (p : Rule) (config : Configured) (phase : Phase) where
  still_live : (s : SessionState) (supply other : Supply) (n : ℕ) → lack_in p config (Live s) other ≡ suc n → fault_in phase (Live s) (call_for other (suc n)) ≡ None →
      StillIn p config phase (Live s) supply → StillIn p config phase (given_in (Live s) other (suc n)) supply
  still_live s (WindowOf channel) (WindowOf there) n e none still = absurd (not_given p config phase (Live s) (WindowOf there) n still e none)
  still_live s (WindowOf channel) (CreditOf there handle) n e none still =
      let same : s.window ≡ s.window + 0 - 0 = omega arith in subst (λ (w : ℕ). StillIn p config phase (Live (record s { window = w })) (WindowOf channel)) same still
  still_live s (CreditOf channel handle) (WindowOf there) n e none still =
      subst (λ (y : Slot LiveLink). StillLink p config phase y) (sym (slot_elsewhere s handle (one.Widened (suc n)) tt)) still
  still_live s (CreditOf channel handle) (CreditOf there supply) n e none still = by (nat_eq supply handle) refl
    where
      by : (b : Bool) → nat_eq supply handle ≡ b → StillIn p config phase (given_in (Live s) (CreditOf there supply) (suc n)) (CreditOf channel handle)
      by true so =
          absurd (not_given p config phase (Live s) (CreditOf there supply) n
          (subst (λ (h : ℕ). StillLink p config phase (one.slot_at s h)) (sym (eqb-true supply handle so)) still) e none)
      by false so =
          subst (λ (y : Slot LiveLink). StillLink p config phase y)
          (sym (slot_elsewhere s handle (one.Called supply (Granted (suc n))) (λ same. true≢false (sym (eq-eqb supply handle same) ∙ so)))) still

  still_went : (b : Bool) (x : Slot SessionState) (supply other : Supply) (n : ℕ) → (b ≡ true → lack_in p config x other ≡ suc n) → (b ≡ true → fault_in phase x (call_for other (suc n)) ≡ None) →
      StillIn p config phase x supply → StillIn p config phase (went b (gift other (suc n)) x) supply
  still_went false x supply other n e none still = still
  still_went true Free supply other n e none still = still
  still_went true (Live s) supply other n e none still = still_live s supply other n (e refl) (none refl) still
  still_went true Waits supply other n e none still = still

-- A call that was accepted for another supply.
stays : (p : Rule) (s : ConnectionState) (supply other : Supply) (n : ℕ) (t : SessionState) → slot_at s (supply_channel other) ≡ Live t →
    StillIn p s.config s.phase (went (nat_eq (supply_channel other) (supply_channel supply)) (gift other n) (slot_at s (supply_channel supply))) supply →
    Still p (connection_after s (call_event s (supply_channel other) (call_for other n))) supply
stays p s supply other n t live still =
    subst (λ (e : _). Still p (connection_after s e) supply) (sym (event_is s other t n live))
    (subst (λ (x : Slot SessionState). StillIn p s.config s.phase x supply) (sym (slot_went s (supply_channel supply) (supply_channel other) (gift other n))) still)

module _ (p : Rule) (m : Made) (supply : Supply) where
  abbrev here : Slot SessionState
  here = slot_at m.connection (supply_channel supply)

  lacks : (n : ℕ) → lack p m.connection supply ≡ n → lack_in p m.connection.config here supply ≡ n
  lacks n e = sym (lack_is p m.connection supply) ∙ e

  -- A supply is still once it was topped up.
  after_topped : Still p (topped p m supply).connection supply
  after_topped = by (lack p m.connection supply) refl
    where
      by_fault : (n : ℕ) → lack p m.connection supply ≡ suc n → (o : Option CallFault) → call_fault m.connection [] (supply_channel supply) (call_for supply (suc n)) ≡ o →
          Still p (called_by o m (supply_channel supply) (call_for supply (suc n))).connection supply
      by_fault n e (Some fault) is = inr (fault, ap (λ (k : ℕ). fault_in m.connection.phase here (call_for supply k)) (lacks (suc n) e) ∙ is)
      by_fault n e None is =
          let live = lives_there p m.connection.config here supply n (lacks (suc n) e) in
          stays p m.connection supply supply (suc n) live.0 live.1
          (subst (λ (b : Bool). StillIn p m.connection.config m.connection.phase (went b (gift supply (suc n)) here) supply) (sym (eq-eqb (supply_channel supply) (supply_channel supply) refl))
          (inl (lack_after p m.connection.config here supply n (lacks (suc n) e))))

      by : (n : ℕ) → lack p m.connection supply ≡ n → Still p (topped_by n m supply).connection supply
      by zero e = inl (lacks 0 e)
      by (suc n) e = by_fault n e (call_fault m.connection [] (supply_channel supply) (call_for supply (suc n))) refl

  -- It stays so while another one is topped up.
  still_topped : (other : Supply) → Still p m.connection supply → Still p (topped p m other).connection supply
  still_topped other still = by (lack p m.connection other) refl
    where
      by_fault : (n : ℕ) → lack p m.connection other ≡ suc n → (o : Option CallFault) → call_fault m.connection [] (supply_channel other) (call_for other (suc n)) ≡ o →
          Still p (called_by o m (supply_channel other) (call_for other (suc n))).connection supply
      by_fault n e (Some fault) is = still
      by_fault n e None is =
          let lack_there : lack_in p m.connection.config (slot_at m.connection (supply_channel other)) other ≡ suc n = sym (lack_is p m.connection other) ∙ e in
          let live = lives_there p m.connection.config (slot_at m.connection (supply_channel other)) other n lack_there in
          stays p m.connection supply other (suc n) live.0 live.1
          (still_went p m.connection.config m.connection.phase (nat_eq (supply_channel other) (supply_channel supply)) here supply other n
          (λ so. subst (λ (k : ℕ). lack_in p m.connection.config (slot_at m.connection k) other ≡ suc n) (eqb-true (supply_channel other) (supply_channel supply) so) lack_there)
          (λ so. subst (λ (k : ℕ). fault_in m.connection.phase (slot_at m.connection k) (call_for other (suc n)) ≡ None) (eqb-true (supply_channel other) (supply_channel supply) so) is) still)

      by : (n : ℕ) → lack p m.connection other ≡ n → Still p (topped_by n m other).connection supply
      by zero e = still
      by (suc n) e = by_fault n e (call_fault m.connection [] (supply_channel other) (call_for other (suc n))) refl

  -- Topping up a supply that is still changes nothing.
  topped_still : Still p m.connection supply → topped p m supply ≡ m
  topped_still still = by (lack p m.connection supply) refl
    where
      by_fault : (n : ℕ) → lack p m.connection supply ≡ suc n → (o : Option CallFault) → call_fault m.connection [] (supply_channel supply) (call_for supply (suc n)) ≡ o →
          called_by o m (supply_channel supply) (call_for supply (suc n)) ≡ m
      by_fault n e (Some fault) is = refl
      by_fault n e None is = absurd (not_given p m.connection.config m.connection.phase here supply n still (lacks (suc n) e) is)

      by : (n : ℕ) → lack p m.connection supply ≡ n → topped_by n m supply ≡ m
      by zero e = refl
      by (suc n) e = by_fault n e (call_fault m.connection [] (supply_channel supply) (call_for supply (suc n))) refl

-- All supplies. ---------------------------------------------------------------------------------------------------------

-- each of them is
abbrev pub AreStill : Rule → ConnectionState → List Supply → Type 0
AreStill p s [] = Unit {0}
AreStill p s (supply ∷ supplies) = Still p s supply × AreStill p s supplies

one_through : (p : Rule) (m : Made) (supply : Supply) (supplies : List Supply) → Still p m.connection supply → Still p (all_topped p supplies m).connection supply
one_through p m supply [] still = still
one_through p m supply (other ∷ supplies) still = one_through p (topped p m other) supply supplies (still_topped p m supply other still)

-- All that were topped up are still.
pub all_still : (p : Rule) (m : Made) (supplies : List Supply) → AreStill p (all_topped p supplies m).connection supplies
all_still p m [] = tt
all_still p m (supply ∷ supplies) = (one_through p (topped p m supply) supply supplies (after_topped p m supply), all_still p (topped p m supply) supplies)

-- Topping up supplies that are still changes nothing.
pub all_unchanged : (p : Rule) (m : Made) (supplies : List Supply) → AreStill p m.connection supplies → all_topped p supplies m ≡ m
all_unchanged p m [] still = refl
all_unchanged p m (supply ∷ supplies) still =
    ap (λ (x : Made). all_topped p supplies x) (topped_still p m supply still.0) ∙ all_unchanged p m supplies still.1

-- The configuration is never changed. -----------------------------------------------------------------------------------

config_called : (o : Option CallFault) (m : Made) (channel : ℕ) (c : session.Call) → (called_by o m channel c).connection.config ≡ m.connection.config
config_called None m channel c = refl
config_called (Some fault) m channel c = refl

config_call : (m : Made) (channel : ℕ) (c : session.Call) → (called m channel c).connection.config ≡ m.connection.config
config_call m channel c = config_called (call_fault m.connection [] channel c) m channel c

config_topped : (p : Rule) (m : Made) (supply : Supply) → (topped p m supply).connection.config ≡ m.connection.config
config_topped p m supply = by (lack p m.connection supply)
  where
    by : (n : ℕ) → (topped_by n m supply).connection.config ≡ m.connection.config
    by zero = refl
    by (suc n) = config_call m (supply_channel supply) (call_for supply (suc n))

-- Topping up does not change it.
pub config_all : (p : Rule) (supplies : List Supply) (m : Made) → (all_topped p supplies m).connection.config ≡ m.connection.config
config_all p [] m = refl
config_all p (supply ∷ supplies) m = config_all p supplies (topped p m supply) ∙ config_topped p m supply
