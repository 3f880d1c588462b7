-- What calls and feeds leave lacking nothing.
use Rattle.std.proofs.Common.{arith, ◌≡◌, ◌↔◌, ℕ, zero, suc, ◌+◌, ◌-◌, ◌<◌, ◌≤◌, Bool, true, false, List, Option, Some, None, Result, Ok, Err, refl, sym, ap, subst, ◌∙◌}
use Rattle.std.specs.Prelude.{◌&&◌, if◌then◌else◌, min, nat_eq, nat_le, nat_lt, slice_get, option_map, unwrap_or}
use Rattle.std.proofs.lemmas.Bool.{eq-eqb, eqb-true, leb-true, ltb-true, ltb-false, true≢false}
use Rattle.amqp_link.specs.Links.{Granted, open_count}
use Rattle.amqp_session.specs.declared.slot.Slot.{Slot}
use Rattle.amqp_session.specs.declared.slot.Slot.TheVariants.{Free, Live, Waits as Awaits}
use Rattle.amqp_session.specs.Calls as session
use Rattle.amqp_session.specs.Lacking.{wants_credit}
use Rattle.amqp_session.specs.Laws.{IsElsewhere}
use Rattle.amqp_session.specs.Places.{slot_after}
use Rattle.amqp_session.specs.Sessions as one
use Rattle.amqp_session.specs.Sessions.{LiveLink, SessionState, session_begins, session_after}
use Rattle.amqp_session.proofs.Lives as lives
use Rattle.amqp_session.proofs.Tables.{elsewhere, get_after}
use Rattle.amqp_endpoint.specs.declared.fault.CallFault.{CallFault}
use Rattle.amqp_endpoint.specs.Calls.{slot_event}
use Rattle.amqp_endpoint.specs.Configs.{Configured}
use Rattle.amqp_endpoint.specs.Connections as event
use Rattle.amqp_endpoint.specs.Connections.{ConnectionState, ConnectionEvent, connection_after, happens, slot_at, channels}
use Rattle.amqp_endpoint.specs.Endpoints.{accepted_by}
use Rattle.amqp_endpoint.specs.Runs.{Answer, Accepted, CallDone, IsWritten, Refused, Fed, Dropped, Named, HandedUp, MovedOut, Holds, Ended}
use Rattle.amqp_endpoint.specs.Steps.{EndpointState}
use Rattle.amqp_endpoint.specs.Takings.{link_in}
use Rattle.amqp_serve.specs.declared.rules.Rule.{Rule}
use Rattle.amqp_serve.specs.Cuts.{supply_channel, call_for}
use Rattle.amqp_serve.specs.Deeds.{most, topped_as}
use Rattle.amqp_serve.specs.Serving.{window_lack, credit_lack, lack}
use Rattle.amqp_serve.specs.declared.supplies.Supply.{Supply}
use Rattle.amqp_serve.specs.declared.supplies.Supply.TheVariants.{WindowOf, CreditOf}
use Rattle.amqp_serve.specs.declared.supplies.Look.{Look}
use Rattle.amqp_serve.specs.declared.supplies.Look.TheVariants as look
use Rattle.amqp_serve.specs.Supplied.{IsListed, IsSuppliedAt, IsOnlyAt, IsOnlyOf}
use Rattle.amqp_serve.proofs.CutTops.{went, slot_went, lack_in, lack_is, gift, lives_there, event_is, lack_after}

-- One channel. --------------------------------------------------------------------------------------------------------------

-- a lack is of its session alone
pub lack_same : (p : Rule) (s t : ConnectionState) (x : Supply) → t.config ≡ s.config → slot_at t (supply_channel x) ≡ slot_at s (supply_channel x) → lack p t x ≡ lack p s x
lack_same p s t (WindowOf c) config same = ap (λ (k : Configured). window_lack k.window (slot_at t c)) config ∙ ap (window_lack s.config.window) same
lack_same p s t (CreditOf c h) config same = ap (λ (y : Slot SessionState). credit_lack p (link_in h y)) same

-- what happens elsewhere leaves what stands at a channel
pub elsewhere_at : (s : ConnectionState) (e : ConnectionEvent) (k : ℕ) → IsElsewhere k (happens e) → slot_at (connection_after s e) k ≡ slot_at s k
elsewhere_at s e k away =
    ap (λ (o : Option (Slot SessionState)). unwrap_or o Free) (get_after session_begins session_after 0 k (happens e) s.sessions) ∙ by (slice_get s.sessions k)
  where
    same : 0 + k ≡ k
    same = omega arith

    by : (o : Option (Slot SessionState)) → unwrap_or (option_map (slot_after session_begins session_after (0 + k) (happens e)) o) Free ≡ unwrap_or o Free
    by None = refl
    by (Some x) = elsewhere session_begins session_after (0 + k) (happens e) x (subst (λ (j : ℕ). IsElsewhere j (happens e)) (sym same) away)

pub event_only : (p : Rule) (s : ConnectionState) (channel : ℕ) (e : ConnectionEvent) → ((k : ℕ) → (channel ≡ k → ⊥) → IsElsewhere k (happens e)) → IsOnlyAt p (look.Session channel) s (connection_after s e)
event_only p s channel e away = record {
  config = refl;
  others = λ x other. lack_same p s (connection_after s e) x refl (elsewhere_at s e (supply_channel x) (away (supply_channel x) (λ same. other (sym same))));
}

-- nothing has changed
pub only_same : (p : Rule) (l : Look) (s t : ConnectionState) → t ≡ s → IsOnlyAt p l s t
only_same p l s t same = record { config = ap (λ (c : ConnectionState). c.config) same; others = λ x other. ap (λ (c : ConnectionState). lack p c x) same }

-- one change after another
pub only_on : {p : Rule} {l : Look} {s t u : ConnectionState} → IsOnlyAt p l s t → IsOnlyAt p l t u → IsOnlyAt p l s u
only_on x y = record { config = y.config ∙ x.config; others = λ supply other. y.others supply other ∙ x.others supply other }

slot_only : (p : Rule) (s : ConnectionState) (channel : ℕ) (x : Slot SessionState) (c : session.Call) → IsOnlyAt p (look.Session channel) s (connection_after s (slot_event channel x c))
slot_only p s channel Free c = event_only p s channel event.Ignored (λ k away. tt)
slot_only p s channel (Live u) c = event_only p s channel (event.InSession channel (session.call_event u c)) (λ k away. away)
slot_only p s channel Awaits c = event_only p s channel event.Ignored (λ k away. tt)

written_only : (p : Rule) (s t : EndpointState) (channel : ℕ) (c : session.Call) (bytes : List ℕ) → IsWritten s t (slot_event channel (slot_at s.connection channel) c) bytes →
    IsOnlyAt p (look.Session channel) s.connection t.connection
written_only p s t channel c bytes w = subst (λ (x : ConnectionState). IsOnlyAt p (look.Session channel) s.connection x) (sym w.connection) (slot_only p s.connection channel (slot_at s.connection channel) c)

-- a call for a session
pub call_only : (p : Rule) (s t : EndpointState) (channel : ℕ) (c : session.Call) (a : Answer) → CallDone s t channel c a → IsOnlyAt p (look.Session channel) s.connection t.connection
call_only p s t channel c (Refused fault) d = only_same p (look.Session channel) s.connection t.connection d.1.connection
call_only p s t channel c (Fed used told) d = written_only p s t channel c _ d.1
call_only p s t channel c Accepted d = written_only p s t channel c _ d.1
call_only p s t channel c (Dropped n) d = written_only p s t channel c _ d.1
call_only p s t channel c (Named n) d = written_only p s t channel c _ d.1
call_only p s t channel c (HandedUp h) d = written_only p s t channel c _ d.1
call_only p s t channel c (MovedOut bytes) d = written_only p s t channel c _ d.1
call_only p s t channel c (Holds n) d = written_only p s t channel c _ d.1
call_only p s t channel c (Ended end) d = written_only p s t channel c _ d.1

-- One supply. -----------------------------------------------------------------------------------------------------------------

-- what is given to one supply of a session leaves what the others lack
given_other : (p : Rule) (config : Configured) (u : SessionState) (supply other : Supply) (n : ℕ) → supply_channel supply ≡ supply_channel other → (other ≡ supply → ⊥) →
    lack_in p config (Live (session_after u (gift supply n))) other ≡ lack_in p config (Live u) other
given_other p config u (WindowOf c) (WindowOf k) n same away = absurd (away (ap (λ (i : ℕ). WindowOf i) (sym same)))
given_other p config u (WindowOf c) (CreditOf k h) n same away = ap (λ (y : Slot LiveLink). credit_lack p y) (lives.slot_elsewhere u h (one.Widened n) tt)
given_other p config u (CreditOf c h) (WindowOf k) n same away =
    let window : u.window + 0 - 0 ≡ u.window = omega arith in ap (λ (w : ℕ). window_lack config.window (Live (record u { window = w }))) window
given_other p config u (CreditOf c h) (CreditOf k j) n same away =
    ap (λ (y : Slot LiveLink). credit_lack p y)
    (lives.slot_elsewhere u j (one.Called h (Granted n)) (λ e. away (ap (λ (i : ℕ). CreditOf i j) (sym same) ∙ ap (λ (i : ℕ). CreditOf c i) (sym e))))

pub went_other : (p : Rule) (config : Configured) (b : Bool) (x : Slot SessionState) (supply other : Supply) (n : ℕ) → (b ≡ true → supply_channel supply ≡ supply_channel other) →
    (other ≡ supply → ⊥) → lack_in p config (went b (gift supply n) x) other ≡ lack_in p config x other
went_other p config false x supply other n same away = refl
went_other p config true Free supply other n same away = refl
went_other p config true (Live u) supply other n same away = given_other p config u supply other n (same refl) away
went_other p config true Awaits supply other n same away = refl

supply_event : (p : Rule) (s : ConnectionState) (supply : Supply) (n : ℕ) (x : Slot SessionState) → slot_at s (supply_channel supply) ≡ x →
    IsOnlyOf p supply s (connection_after s (slot_event (supply_channel supply) x (call_for supply n)))
supply_event p s supply n Free is = record { config = refl; others = λ y away. lack_same p s (connection_after s event.Ignored) y refl (elsewhere_at s event.Ignored (supply_channel y) tt) }
supply_event p s supply n (Live u) is = record {
  config = refl;
  others = λ y away.
      let c = supply_channel supply in
      let k = supply_channel y in
      let t = connection_after s (event.InSession c (gift supply n)) in
      let e : slot_event c (Live u) (call_for supply n) ≡ event.InSession c (gift supply n) = gift_is supply in
      ap (λ (e : ConnectionEvent). lack p (connection_after s e) y) e ∙ lack_is p t y ∙ ap (λ (z : Slot SessionState). lack_in p s.config z y) (slot_went s k c (gift supply n))
      ∙ went_other p s.config (nat_eq c k) (slot_at s k) supply y n (λ b. eqb-true c k b) away ∙ sym (lack_is p s y);
}
  where
    gift_is : (x : Supply) → slot_event (supply_channel x) (Live u) (call_for x n) ≡ event.InSession (supply_channel x) (gift x n)
    gift_is (WindowOf channel) = refl
    gift_is (CreditOf channel handle) = refl
supply_event p s supply n Awaits is = record { config = refl; others = λ y away. lack_same p s (connection_after s event.Ignored) y refl (elsewhere_at s event.Ignored (supply_channel y) tt) }

-- A call that gives a supply something leaves what the others lack.
pub given_only : (p : Rule) (s t : EndpointState) (supply : Supply) (n : ℕ) (r : Result (Unit {0}) CallFault) → CallDone s t (supply_channel supply) (call_for supply n) (accepted_by r) →
    IsOnlyOf p supply s.connection t.connection
given_only p s t supply n (Ok x) d =
    subst (λ (x : ConnectionState). IsOnlyOf p supply s.connection x) (sym d.1.connection)
    (supply_event p s.connection supply n (slot_at s.connection (supply_channel supply)) refl)
given_only p s t supply n (Err fault) d = record {
  config = ap (λ (c : ConnectionState). c.config) d.1.connection;
  others = λ x away. ap (λ (c : ConnectionState). lack p c x) d.1.connection;
}

-- Accepted, it lacks nothing then.
pub given_enough : (p : Rule) (s t : EndpointState) (supply : Supply) (n : ℕ) → 0 < n → n ≡ lack p s.connection supply → CallDone s t (supply_channel supply) (call_for supply n) Accepted →
    lack p t.connection supply ≡ 0
given_enough p s t supply zero some is d = absurd (omega (arith, some))
given_enough p s t supply (suc n) some is d =
    let c = supply_channel supply in
    let config = s.connection.config in
    let lacks : lack_in p config (slot_at s.connection c) supply ≡ suc n = sym (lack_is p s.connection supply) ∙ sym is in
    let live = lives_there p config (slot_at s.connection c) supply n lacks in
    let u = connection_after s.connection (event.InSession c (gift supply (suc n))) in
    ap (λ (x : ConnectionState). lack p x supply) (d.1.connection ∙ ap (λ (e : ConnectionEvent). connection_after s.connection e) (event_is s.connection supply live.0 (suc n) live.1))
    ∙ lack_is p u supply
    ∙ ap (λ (x : Slot SessionState). lack_in p config x supply) (slot_went s.connection c c (gift supply (suc n)))
    ∙ ap (λ (b : Bool). lack_in p config (went b (gift supply (suc n)) (slot_at s.connection c)) supply) (eq-eqb c c refl)
    ∙ lack_after p config (slot_at s.connection c) supply n lacks

-- Lists of them. ----------------------------------------------------------------------------------------------------------------

-- what lacks nothing as a supply of the list does so as one of its session
pub supplied_at : (p : Rule) (s : ConnectionState) (handles channel : ℕ) → handles ≡ suc s.config.handle_max → channel < channels s.config →
    ((x : Supply) → IsListed s.config x → supply_channel x ≡ channel → lack p s x ≡ 0) → IsSuppliedAt p handles channel s
supplied_at p s handles channel all low none = record {
  window = none (WindowOf channel) low refl;
  credit = λ handle l. none (CreditOf channel handle) (low, (omega (arith, all, l))) refl;
}

-- and the other way round
at_supplied : (p : Rule) (s : ConnectionState) (handles : ℕ) (x : Supply) → handles ≡ suc s.config.handle_max → IsListed s.config x → IsSuppliedAt p handles (supply_channel x) s → lack p s x ≡ 0
at_supplied p s handles (WindowOf c) all listed at = at.window
at_supplied p s handles (CreditOf c h) all listed at = at.credit h (omega (arith, all, listed.1))

-- a change of one supply is one of its session
pub of_at : {p : Rule} {s t : ConnectionState} (supply : Supply) → IsOnlyOf p supply s t → IsOnlyAt p (look.Session (supply_channel supply)) s t
of_at supply x = record { config = x.config; others = λ y other. x.others y (λ same. other (ap (λ (z : Supply). supply_channel z) same)) }

-- nothing has changed
pub nothing_of : (p : Rule) (supply : Supply) (s : ConnectionState) → IsOnlyOf p supply s s
nothing_of p supply s = record { config = refl; others = λ x away. refl }

-- Before the first handle the window alone counts.
pub first_at : (p : Rule) (t : ConnectionState) (channel : ℕ) → lack p t (WindowOf channel) ≡ 0 → IsSuppliedAt p 0 channel t
first_at p t channel none = record { window = none; credit = λ h l. absurd (omega (arith, l)) }

abbrev is_window : Supply → Bool
is_window (WindowOf c) = true
is_window (CreditOf c h) = false

abbrev handle_in : Supply → ℕ
handle_in (WindowOf c) = 0
handle_in (CreditOf c h) = h

-- one handle more
pub next_at : (p : Rule) (s t : ConnectionState) (channel i : ℕ) → IsOnlyOf p (CreditOf channel i) s t → IsSuppliedAt p i channel s → lack p t (CreditOf channel i) ≡ 0 →
    IsSuppliedAt p (i + 1) channel t
next_at p s t channel i x at none = record {
  window = x.others (WindowOf channel) (λ e. true≢false (ap (λ (y : Supply). is_window y) e)) ∙ at.window;
  credit = λ h l. by h l (nat_eq h i) refl;
}
  where
    by : (h : ℕ) → h < i + 1 → (b : Bool) → nat_eq h i ≡ b → lack p t (CreditOf channel h) ≡ 0
    by h l true is = ap (λ (k : ℕ). lack p t (CreditOf channel k)) (eqb-true h i is) ∙ none
    by h l false is =
        let away : h ≡ i → ⊥ = λ same. true≢false (sym (eq-eqb h i same) ∙ is) in
        x.others (CreditOf channel h) (λ e. away (ap (λ (y : Supply). handle_in y) e)) ∙ at.credit h (omega (arith, l, away))

-- and one less
pub back_at : (p : Rule) (s t : ConnectionState) (channel i : ℕ) → IsOnlyOf p (CreditOf channel i) s t → IsSuppliedAt p (i + 1) channel t → IsSuppliedAt p i channel s
back_at p s t channel i x at = record {
  window = sym (x.others (WindowOf channel) (λ e. true≢false (ap (λ (y : Supply). is_window y) e))) ∙ at.window;
  credit = λ h l. sym (x.others (CreditOf channel h) (λ e. absurd (omega (arith, l, ap (λ (y : Supply). handle_in y) e)))) ∙ at.credit h (omega (arith, l));
}

-- fewer handles
pub fewer_at : (p : Rule) (t : ConnectionState) (channel a b : ℕ) → a ≤ b → IsSuppliedAt p b channel t → IsSuppliedAt p a channel t
fewer_at p t channel a b few at = record { window = at.window; credit = λ h l. at.credit h (omega (arith, few, l)) }

-- A link that is not told of as lacking credit lacks none, where it is asked for as much as makes one lack it.
pub none_lacking : (p : Rule) (asked : ℕ) (x : Slot LiveLink) → min p.credit (suc p.mark) ≤ asked → wants_credit asked x ≡ false → credit_lack p x ≡ 0
none_lacking p asked Free most is = refl
none_lacking p asked (Live l) most is =
    by (nat_lt l.link.credit asked) (nat_lt (l.link.credit + open_count l.link) l.link.terms.bounds.allowed) (nat_le l.link.credit p.mark) refl refl refl is
  where
    by : (a b low : Bool) → nat_lt l.link.credit asked ≡ a → nat_lt (l.link.credit + open_count l.link) l.link.terms.bounds.allowed ≡ b → nat_le l.link.credit p.mark ≡ low → a && b ≡ false
        → (if low then min (p.credit - l.link.credit) (l.link.terms.bounds.allowed - l.link.credit - open_count l.link) else 0) ≡ 0
    by a b false x y z both = refl
    by true true true x y z both = absurd (true≢false both)
    by true false true x y z both = omega (arith, ltb-false (l.link.credit + open_count l.link) l.link.terms.bounds.allowed y)
    by false b true x y z both = omega (arith, most, ltb-false l.link.credit asked x, leb-true l.link.credit p.mark z)
none_lacking p asked Awaits most is = refl

-- handles whose links lack nothing are passed
pub more_at : (p : Rule) (t : ConnectionState) (channel i j : ℕ) → ((h : ℕ) → i ≤ h → h < j → lack p t (CreditOf channel h) ≡ 0) → IsSuppliedAt p i channel t → IsSuppliedAt p j channel t
more_at p t channel i j none at = record { window = at.window; credit = λ h l. by h l (nat_lt h i) refl }
  where
    by : (h : ℕ) → h < j → (b : Bool) → nat_lt h i ≡ b → lack p t (CreditOf channel h) ≡ 0
    by h l true is = at.credit h (ltb-true h i is)
    by h l false is = none h (ltb-false h i is) l

-- one channel more
pub next_channel : (p : Rule) (s t : ConnectionState) (handles i : ℕ) → IsOnlyAt p (look.Session i) s t → handles ≡ suc t.config.handle_max → IsSuppliedAt p handles i t →
    ((x : Supply) → IsListed s.config x → supply_channel x < i → lack p s x ≡ 0) → (x : Supply) → IsListed t.config x → supply_channel x < i + 1 → lack p t x ≡ 0
next_channel p s t handles i only all at before x listed l = by (nat_eq (supply_channel x) i) refl
  where
    by : (b : Bool) → nat_eq (supply_channel x) i ≡ b → lack p t x ≡ 0
    by true is = at_supplied p t handles x all listed (subst (λ (k : ℕ). IsSuppliedAt p handles k t) (sym (eqb-true (supply_channel x) i is)) at)
    by false is =
        let away : supply_channel x ≡ i → ⊥ = λ same. true≢false (sym (eq-eqb (supply_channel x) i same) ∙ is) in
        only.others x away ∙ before x (subst (λ (k : Configured). IsListed k x) only.config listed) (omega (arith, l, away))

-- and one less
pub back_channel : (p : Rule) (s t : ConnectionState) (i : ℕ) → IsOnlyAt p (look.Session i) s t → ((x : Supply) → IsListed t.config x → supply_channel x < i + 1 → lack p t x ≡ 0) → (x : Supply) →
    IsListed s.config x → supply_channel x < i → lack p s x ≡ 0
back_channel p s t i only before x listed l =
    sym (only.others x (λ same. absurd (omega (arith, l, same)))) ∙ before x (subst (λ (k : Configured). IsListed k x) (sym only.config) listed) (omega (arith, l))

-- those further on are left as they were
pub further_on : (p : Rule) (s t : ConnectionState) (i end : ℕ) → IsOnlyAt p (look.Session i) s t → i < end → ((x : Supply) → IsListed s.config x → end ≤ supply_channel x → lack p s x ≡ 0) →
    (x : Supply) → IsListed t.config x → end ≤ supply_channel x → lack p t x ≡ 0
further_on p s t i end only less before x listed l =
    only.others x (λ same. absurd (omega (arith, less, l, same))) ∙ before x (subst (λ (k : Configured). IsListed k x) only.config listed) l

-- what was refused in two goes
pub both_fine : (a b : ℕ) → most (a + b) ≡ 0 → (a ≡ 0) × (b ≡ 0)
both_fine a b is = (omega (arith, is), omega (arith, is))

pub both_set : (a b : ℕ) → a ≡ 0 → b ≡ 0 → most (a + b) ≡ 0
both_set a b first second = omega (arith, first, second)

-- A supply that was given what it lacked lacks something exactly where that was refused.
pub given_supplied : (p : Rule) (s t : EndpointState) (supply : Supply) (n : ℕ) (r : Result (Unit {0}) CallFault) → 0 < n → n ≡ lack p s.connection supply
    → CallDone s t (supply_channel supply) (call_for supply n) (accepted_by r) → ((topped_as supply n r).refused ≡ 0) ↔ (lack p t.connection supply ≡ 0)
given_supplied p s t supply n (Ok x) some is done = (λ fine. given_enough p s t supply n some is done, λ none. fine supply)
  where
    fine : (supply : Supply) → (topped_as supply n (Ok x)).refused ≡ 0
    fine (WindowOf channel) = refl
    fine (CreditOf channel handle) = refl
given_supplied p s t supply n (Err f) some is done = (
  λ none. absurd (refused supply none),
  λ none. let same = ap (λ (c : ConnectionState). lack p c supply) done.1.connection in absurd (omega (arith, some, is, same, none)),
)
  where
    refused : (supply : Supply) → (topped_as supply n (Err f)).refused ≡ 0 → ⊥
    refused (WindowOf channel) none = absurd (grind (arith, none))
    refused (CreditOf channel handle) none = absurd (grind (arith, none))
