-- Topping up while serving, and what else asks something of a session.
use Rattle.std.proofs.Common.{◌≡◌, ℕ, zero, suc, ◌+◌, ◌-◌, ◌<◌, ◌≤◌, ◌^◌, false, List, [], ◌∷◌, ◌++◌, Option, Result, Ok, Err, refl, sym, ap, subst, ◌∙◌, arith, add-one, option_map, is_some}
use Rattle.std.proofs.lemmas.Bool.{true≢false}
use Rattle.std.proofs.KnownBytes.{Appends-nil}
use Rattle.std.specs.Io.KnownBytes.{Appends}
use Rattle.std.specs.List.{flat_map}
use Rattle.amqp_frame.specs.Splits.{IsUnchanged}
use Rattle.amqp_session.specs.declared.slot.Slot.{Slot}
use Rattle.amqp_session.specs.declared.slot.Slot.TheVariants.{Free, Live, Waits as Awaits}
use Rattle.amqp_session.specs.Calls as session
use Rattle.amqp_session.specs.Places.{tabulate, live_in}
use Rattle.amqp_session.specs.Sessions.{SessionState}
use Rattle.amqp_endpoint.specs.declared.fault.CallFault.{CallFault}
use Rattle.amqp_serve.specs.declared.rules.Rule.{Rule}
use Rattle.amqp_endpoint.specs.Configs.{Configured}
use Rattle.amqp_endpoint.specs.Connections.{ConnectionState, slot_at}
use Rattle.amqp_endpoint.specs.Endpoints.{accepted_by}
use Rattle.amqp_endpoint.specs.Runs.{Answer, Fed, Accepted, Dropped, Named, HandedUp, Refused, MovedOut, Holds, Ended, CallDone, Does}
use Rattle.amqp_endpoint.specs.Takings.{link_in}
use Rattle.amqp_endpoint.specs.Traces.{moved_by, taken_by}
use Rattle.amqp_serve.specs.Serving.{window_lack, credit_lack, lack, session_supplies, all_supplies_from, ToppingUp, all_supplies, Serves, Rests, TopsUp, Passes, top_up_by, recorded_by}
use Rattle.amqp_serve.specs.declared.supplies.Supply.{Supply}
use Rattle.amqp_serve.specs.declared.supplies.Supply.TheVariants.{WindowOf, CreditOf}
use Rattle.amqp_endpoint.specs.Steps.{EndpointState}
use Rattle.amqp_serve.specs.Supplied.{IsSuppliedAt}
use Rattle.amqp_serve.specs.Cuts.{supply_channel, call_for}
use Rattle.amqp_serve.specs.Deeds.{topped_deeds, topped_as, Ends, AreOpen, WentOn}
use Rattle.amqp_serve.proofs.Servings.{serves_on}
use Rattle.amqp_serve.proofs.Deeds.{went_call, topped_done}

-- a call for a session leaves the bytes that came
pub call_keeps : (s t : EndpointState) (channel : ℕ) (c : session.Call) (answer : Answer) → CallDone s t channel c answer → IsUnchanged s.input t.input
call_keeps s t channel c (Refused fault) d = d.1.input
call_keeps s t channel c (Fed used told) d = d.1.input
call_keeps s t channel c Accepted d = d.1.input
call_keeps s t channel c (Dropped n) d = d.1.input
call_keeps s t channel c (Named n) d = d.1.input
call_keeps s t channel c (HandedUp h) d = d.1.input
call_keeps s t channel c (MovedOut bytes) d = d.1.input
call_keeps s t channel c (Holds n) d = d.1.input
call_keeps s t channel c (Ended end) d = d.1.input

-- such an answer moves nothing out
pub accepted_silent : (r : Result (Unit {0}) CallFault) → moved_by (accepted_by r) ≡ []
accepted_silent (Ok x) = refl
accepted_silent (Err fault) = refl

-- a supply is given what it lacks
pub supply_topped : (p : Rule) (rest : List Supply) (s t : EndpointState) (supply : Supply) (n : ℕ) (r : Result (Unit {0}) CallFault) (x : Ends) → s.unsent ≡ [] → 0 < n → n < 2 ^ 32 → n ≡ lack p s.connection supply
    → CallDone s t (supply_channel supply) (call_for supply n) (accepted_by r) → AreOpen x → WentOn p (topped_deeds (topped_as supply n r)) (ToppingUp (supply ∷ rest)) (ToppingUp rest) s t x x
supply_topped p rest s t supply n r x none some small is done fit =
    went_call p _ _ s t x (topped_deeds (topped_as supply n r)) (record { call = top_up_by supply n; answer = accepted_by r })
    (subst (λ (m : ℕ). Serves p (ToppingUp (supply ∷ rest)) s (record { call = top_up_by supply m; answer = accepted_by r } ∷ []) (ToppingUp rest) t) (sym is)
    (TopsUp t supply rest (accepted_by r) none (subst (λ (m : ℕ). 0 < m) is some) (does supply (subst (λ (m : ℕ). CallDone s t (supply_channel supply) (call_for supply m) (accepted_by r)) is done)) Rests))
    (silent_call supply n) (accepted_silent r) (noted_call supply n r x.sink) (call_keeps s t (supply_channel supply) (call_for supply n) (accepted_by r) done) (topped_done supply n r small) fit
  where
    does : (supply : Supply) → CallDone s t (supply_channel supply) (call_for supply (lack p s.connection supply)) (accepted_by r) → Does s t (top_up_by supply (lack p s.connection supply)) (accepted_by r)
    does (WindowOf channel) d = d
    does (CreditOf channel handle) d = d

    silent_call : (supply : Supply) (n : ℕ) → taken_by (top_up_by supply n) (accepted_by r) ≡ []
    silent_call (WindowOf channel) n = refl
    silent_call (CreditOf channel handle) n = refl

    noted_call : (supply : Supply) (n : ℕ) (r : Result (Unit {0}) CallFault) (k : Option (List ℕ)) → Appends k k (recorded_by (top_up_by supply n) (accepted_by r))
    noted_call (WindowOf channel) n (Ok y) k = Appends-nil k
    noted_call (WindowOf channel) n (Err f) k = Appends-nil k
    noted_call (CreditOf channel handle) n (Ok y) k = Appends-nil k
    noted_call (CreditOf channel handle) n (Err f) k = Appends-nil k

-- no session is live here
abbrev pub IsNotLive : Slot SessionState → Type 0
IsNotLive Free = Unit {0}
IsNotLive (Live s) = ⊥
IsNotLive Awaits = Unit {0}

no_window : (window : ℕ) (x : Slot SessionState) → IsNotLive x → window_lack window x ≡ 0
no_window window Free h = refl
no_window window (Live s) h = absurd h
no_window window Awaits h = refl

no_credit : (p : Rule) (handle : ℕ) (x : Slot SessionState) → IsNotLive x → credit_lack p (link_in handle x) ≡ 0
no_credit p handle Free h = refl
no_credit p handle (Live s) h = absurd h
no_credit p handle Awaits h = refl

-- where no session is live nothing is lacking
pub not_live_supplied : (p : Rule) (handles channel : ℕ) (s : ConnectionState) → IsNotLive (slot_at s channel) → IsSuppliedAt p handles channel s
not_live_supplied p handles channel s h = record {
  window = no_window s.config.window (slot_at s channel) h;
  credit = λ handle l. no_credit p handle (slot_at s channel) h;
}

credits_passed : (p : Rule) (rest : List Supply) (s : EndpointState) (channel i n : ℕ) → ((h : ℕ) → h < i + n → lack p s.connection (CreditOf channel h) ≡ 0)
    → Serves p (ToppingUp (tabulate i n (λ handle. CreditOf channel handle) ++ rest)) s [] (ToppingUp rest) s
credits_passed p rest s channel i zero none = Rests
credits_passed p rest s channel i (suc n) none =
    Passes (CreditOf channel i) (tabulate (suc i) n (λ handle. CreditOf channel handle) ++ rest) (none i (omega arith))
    (credits_passed p rest s channel (suc i) n (λ h l. none h (omega (arith, l))))

-- a session that lacks nothing, and whose links lack nothing
pub session_serves : (p : Rule) (rest : List Supply) (s : EndpointState) (handles channel : ℕ) → IsSuppliedAt p handles channel s.connection
    → Serves p (ToppingUp (session_supplies handles channel ++ rest)) s [] (ToppingUp rest) s
session_serves p rest s handles channel x =
    Passes (WindowOf channel) (tabulate 0 handles (λ handle. CreditOf channel handle) ++ rest) x.window (credits_passed p rest s channel 0 handles (λ h l. x.credit h (omega (arith, l))))

-- the first of those that are left
pub tabulate_step : {A : Type 0} (f : ℕ → A) (i n : ℕ) → i < n → tabulate i (n - i) f ≡ f i ∷ tabulate (i + 1) (n - (i + 1)) f
tabulate_step f i n l =
    let left : n - i ≡ suc (n - (i + 1)) = omega arith in
    ap (λ (m : ℕ). tabulate i m f) left ∙ ap (λ (j : ℕ). f i ∷ tabulate j (n - (i + 1)) f) (sym (add-one i))

-- where none is left
pub tabulate_none : {A : Type 0} (f : ℕ → A) (i n : ℕ) → n ≤ i → tabulate i (n - i) f ≡ []
tabulate_none f i n l = let none : n - i ≡ 0 = omega arith in ap (λ (m : ℕ). tabulate i m f) none

-- the supplies of the first channel that is left, and of the others
pub places_step : (handles i n : ℕ) → i < n → all_supplies_from handles i (n - i) ≡ session_supplies handles i ++ all_supplies_from handles (i + 1) (n - (i + 1))
unfolding all_supplies_from
places_step handles i n l = ap (λ (ks : List ℕ). flat_map (λ k. session_supplies handles k) ks) (tabulate_step (λ (k : ℕ). k) i n l)

-- where no channel is left
pub places_none : (handles i n : ℕ) → n ≤ i → all_supplies_from handles i (n - i) ≡ []
unfolding all_supplies_from
places_none handles i n l = ap (λ (ks : List ℕ). flat_map (λ k. session_supplies handles k) ks) (tabulate_none (λ (k : ℕ). k) i n l)

channels_serve : (p : Rule) (s : EndpointState) (handles n i d : ℕ) → i + d ≤ n → ((k : ℕ) → i ≤ k → k < i + d → IsSuppliedAt p handles k s.connection)
    → Serves p (ToppingUp (all_supplies_from handles i (n - i))) s [] (ToppingUp (all_supplies_from handles (i + d) (n - (i + d)))) s
channels_serve p s handles n i zero l x =
    let same : i ≡ i + 0 = omega arith in
    subst (λ (j : ℕ). Serves p (ToppingUp (all_supplies_from handles i (n - i))) s [] (ToppingUp (all_supplies_from handles j (n - j))) s) same Rests
channels_serve p s handles n i (suc d) l x =
    let on : i + 1 + d ≡ i + suc d = omega arith in
    let rest = all_supplies_from handles (i + 1) (n - (i + 1)) in
    let others : Serves p (ToppingUp rest) s [] (ToppingUp (all_supplies_from handles (i + suc d) (n - (i + suc d)))) s =
    subst (λ (j : ℕ). Serves p (ToppingUp rest) s [] (ToppingUp (all_supplies_from handles j (n - j))) s) on
    (channels_serve p s handles n (i + 1) d (omega (arith, l)) (λ k a b. x k (omega (arith, a)) (omega (arith, b)))) in
    subst (λ (xs : List Supply). Serves p (ToppingUp xs) s [] (ToppingUp (all_supplies_from handles (i + suc d) (n - (i + suc d)))) s) (sym (places_step handles i n (omega (arith, l))))
    (serves_on (session_serves p rest s handles i (x i (omega arith) (omega arith))) others)

-- the sessions of channels that lack nothing
pub channels_passed : (p : Rule) (s : EndpointState) (handles n i j : ℕ) → i ≤ j → j ≤ n → ((c : ℕ) → i ≤ c → c < j → IsSuppliedAt p handles c s.connection)
    → Serves p (ToppingUp (all_supplies_from handles i (n - i))) s [] (ToppingUp (all_supplies_from handles j (n - j))) s
channels_passed p s handles n i j few within x =
    let end : i + (j - i) ≡ j = omega (arith, few) in
    subst (λ (m : ℕ). Serves p (ToppingUp (all_supplies_from handles i (n - i))) s [] (ToppingUp (all_supplies_from handles m (n - m))) s) end
    (channels_serve p s handles n i (j - i) (omega (arith, few, within)) (λ c a b. x c a (omega (arith, few, b))))

credits_serve : (p : Rule) (rest : List Supply) (s : EndpointState) (channel n i d : ℕ) → i + d ≤ n → ((h : ℕ) → i ≤ h → h < i + d → lack p s.connection (CreditOf channel h) ≡ 0)
    → Serves p (ToppingUp (tabulate i (n - i) (λ handle. CreditOf channel handle) ++ rest)) s [] (ToppingUp (tabulate (i + d) (n - (i + d)) (λ handle. CreditOf channel handle) ++ rest)) s
credits_serve p rest s channel n i zero l none =
    let same : i ≡ i + 0 = omega arith in
    subst (λ (j : ℕ). Serves p (ToppingUp (tabulate i (n - i) (λ handle. CreditOf channel handle) ++ rest)) s [] (ToppingUp (tabulate j (n - j) (λ handle. CreditOf channel handle) ++ rest)) s) same Rests
credits_serve p rest s channel n i (suc d) l none =
    let on : i + 1 + d ≡ i + suc d = omega arith in
    let credit = λ (h : ℕ). CreditOf channel h in
    let left = tabulate (i + 1) (n - (i + 1)) credit ++ rest in
    let others : Serves p (ToppingUp left) s [] (ToppingUp (tabulate (i + suc d) (n - (i + suc d)) credit ++ rest)) s =
    subst (λ (j : ℕ). Serves p (ToppingUp left) s [] (ToppingUp (tabulate j (n - j) credit ++ rest)) s) on
    (credits_serve p rest s channel n (i + 1) d (omega (arith, l)) (λ h a b. none h (omega (arith, a)) (omega (arith, b)))) in
    subst (λ (xs : List Supply). Serves p (ToppingUp (xs ++ rest)) s [] (ToppingUp (tabulate (i + suc d) (n - (i + suc d)) credit ++ rest)) s) (sym (tabulate_step credit i n (omega (arith, l))))
    (Passes (CreditOf channel i) left (none i (omega arith) (omega arith)) others)

-- the links of handles that lack nothing
pub links_passed : (p : Rule) (rest : List Supply) (s : EndpointState) (channel n i j : ℕ) → i ≤ j → j ≤ n → ((h : ℕ) → i ≤ h → h < j → lack p s.connection (CreditOf channel h) ≡ 0)
    → Serves p (ToppingUp (tabulate i (n - i) (λ handle. CreditOf channel handle) ++ rest)) s [] (ToppingUp (tabulate j (n - j) (λ handle. CreditOf channel handle) ++ rest)) s
links_passed p rest s channel n i j few within none =
    let end : i + (j - i) ≡ j = omega (arith, few) in
    let credit = λ (h : ℕ). CreditOf channel h in
    subst (λ (m : ℕ). Serves p (ToppingUp (tabulate i (n - i) credit ++ rest)) s [] (ToppingUp (tabulate m (n - m) credit ++ rest)) s) end
    (credits_serve p rest s channel n i (j - i) (omega (arith, few, within)) (λ h a b. none h a (omega (arith, few, b))))

-- all of them are left at first
pub tabulate_all : {A : Type 0} (f : ℕ → A) (n : ℕ) → tabulate 0 n f ≡ tabulate 0 (n - 0) f
tabulate_all f n = let all : n ≡ n - 0 = omega arith in ap (λ (m : ℕ). tabulate 0 m f) all

-- all supplies, where the highest handle and channel are these
pub all_from : (config : Configured) (h n : ℕ) → h ≡ config.handle_max → n ≡ config.channel_max → all_supplies config ≡ all_supplies_from (h + 1) 0 (n + 1 - 0)
unfolding all_supplies
all_from config h n handles channels =
    let hs : suc config.handle_max ≡ h + 1 = omega arith in
    let cs : suc config.channel_max ≡ n + 1 - 0 = omega arith in
    ap (λ (i : ℕ). all_supplies_from i 0 (suc config.channel_max)) hs ∙ ap (λ (i : ℕ). all_supplies_from (h + 1) 0 i) cs

-- where no window is shown no session is live
pub none_live : (f : SessionState → ℕ) (x : Slot SessionState) (shown : Option ℕ) → shown ≡ option_map f (live_in x) → is_some shown ≡ false → IsNotLive x
none_live f Free shown is none = tt
none_live f (Live s) shown is none = absurd (true≢false (sym (ap (λ (o : Option ℕ). is_some o) is) ∙ none))
none_live f Awaits shown is none = tt
