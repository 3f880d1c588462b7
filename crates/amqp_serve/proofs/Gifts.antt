-- What a session and its links are given by calls of a host.
use Rattle.std.proofs.Common.{arith, ◌≡◌, ℕ, zero, suc, ◌+◌, ◌-◌, ◌<◌, ◌≤◌, Bool, true, false, List, [], ◌∷◌, ◌++◌, Result, Ok, Err, refl, sym, ap, subst, ◌∙◌, Option, option_map}
use Rattle.std.specs.Prelude.{◌≢◌, nat_eq, nat_lt, is_none}
use Rattle.std.proofs.lemmas.Bool.{eq-eqb, eqb-true, ltb-true, ltb-false, true≢false}
use Rattle.amqp_session.specs.declared.slot.Slot.{Slot}
use Rattle.amqp_session.specs.declared.slot.Slot.TheVariants.{Free, Live, Waits as Awaits}
use Rattle.amqp_session.specs.Places.{tabulate, live_in}
use Rattle.amqp_session.specs.Sessions.{SessionState}
use Rattle.amqp_endpoint.specs.declared.fault.CallFault.{CallFault}
use Rattle.amqp_endpoint.specs.Calls.{slot_event}
use Rattle.amqp_endpoint.specs.Configs.{Configured}
use Rattle.amqp_endpoint.specs.Connections as event
use Rattle.amqp_endpoint.specs.Connections.{ConnectionState, ConnectionEvent, connection_after, slot_at}
use Rattle.amqp_endpoint.specs.Runs.{Accepted, Refused, Answer, CallDone, Does}
use Rattle.amqp_endpoint.specs.Steps.{EndpointState}
use Rattle.amqp_serve.specs.declared.rules.Rule.{Rule}
use Rattle.amqp_serve.specs.declared.supplies.Supply.{Supply}
use Rattle.amqp_serve.specs.declared.supplies.Supply.TheVariants.{WindowOf, CreditOf}
use Rattle.amqp_serve.specs.Cuts.{supply_channel, call_for}
use Rattle.amqp_serve.specs.Serving.{Step, session_supplies, top_up_by}
use Rattle.amqp_serve.specs.Supplying.{lack_by, Supplies, Rests, Passes, Gives, GaveSome, Gave, GaveIn, LacksNothing}
use Rattle.amqp_serve.proofs.CutTops.{went, slot_went, lack_in, gift, lives_there, event_is, lack_after}
use Rattle.amqp_serve.proofs.ServingTops.{tabulate_step, tabulate_none, tabulate_all}
use Rattle.amqp_serve.proofs.Supplied.{elsewhere_at, went_other}

-- What a supply lacks. ------------------------------------------------------------------------------------------------------

abbrev handle_of : Supply → ℕ
handle_of (WindowOf channel) = 0
handle_of (CreditOf channel handle) = handle

-- by what stands at its channel
by_slot : (p : Rule) (config : Configured) (s : ConnectionState) (x : Supply) → lack_by p config.window s x ≡ lack_in p config (slot_at s (supply_channel x)) x
by_slot p config s (WindowOf channel) = refl
by_slot p config s (CreditOf channel handle) = refl

-- A call for one supply leaves what the others lack.
other_slots : (p : Rule) (config : Configured) (s : ConnectionState) (x : Supply) (n : ℕ) (u : Slot SessionState) → slot_at s (supply_channel x) ≡ u → (y : Supply) → (y ≡ x → ⊥)
    → lack_in p config (slot_at (connection_after s (slot_event (supply_channel x) u (call_for x n))) (supply_channel y)) y ≡ lack_in p config (slot_at s (supply_channel y)) y
other_slots p config s x n Free is y away = ap (λ (z : Slot SessionState). lack_in p config z y) (elsewhere_at s event.Ignored (supply_channel y) tt)
other_slots p config s x n (Live u) is y away =
    let c = supply_channel x in
    let k = supply_channel y in
    ap (λ (e : ConnectionEvent). lack_in p config (slot_at (connection_after s e) k) y) (gift_is x)
    ∙ ap (λ (z : Slot SessionState). lack_in p config z y) (slot_went s k c (gift x n))
    ∙ went_other p config (nat_eq c k) (slot_at s k) x y n (λ b. eqb-true c k b) away
  where
    gift_is : (x : Supply) → slot_event (supply_channel x) (Live u) (call_for x n) ≡ event.InSession (supply_channel x) (gift x n)
    gift_is (WindowOf channel) = refl
    gift_is (CreditOf channel handle) = refl
other_slots p config s x n Awaits is y away = ap (λ (z : Slot SessionState). lack_in p config z y) (elsewhere_at s event.Ignored (supply_channel y) tt)

pub others_left : (p : Rule) (window : ℕ) (s t : EndpointState) (x : Supply) (n : ℕ) → CallDone s t (supply_channel x) (call_for x n) Accepted → (y : Supply) → (y ≡ x → ⊥)
    → lack_by p window t.connection y ≡ lack_by p window s.connection y
others_left p window s t x n d y away =
    let config = record s.connection.config { window = window } in
    by_slot p config t.connection y
    ∙ ap (λ (k : ConnectionState). lack_in p config (slot_at k (supply_channel y)) y) d.1.connection
    ∙ other_slots p config s.connection x n (slot_at s.connection (supply_channel x)) refl y away
    ∙ sym (by_slot p config s.connection y)

-- A supply that was given what it lacked lacks nothing.
pub given_all : (p : Rule) (window : ℕ) (s t : EndpointState) (x : Supply) (n : ℕ) → 0 < n → n ≡ lack_by p window s.connection x → CallDone s t (supply_channel x) (call_for x n) Accepted
    → lack_by p window t.connection x ≡ 0
given_all p window s t x zero some is d = absurd (omega (arith, some))
given_all p window s t x (suc n) some is d =
    let c = supply_channel x in
    let config = record s.connection.config { window = window } in
    let there = slot_at s.connection c in
    let lacks : lack_in p config there x ≡ suc n = sym (by_slot p config s.connection x) ∙ sym is in
    let live = lives_there p config there x n lacks in
    by_slot p config t.connection x
    ∙ ap (λ (k : ConnectionState). lack_in p config (slot_at k c) x) (d.1.connection ∙ ap (λ (e : ConnectionEvent). connection_after s.connection e) (event_is s.connection x live.0 (suc n) live.1))
    ∙ ap (λ (z : Slot SessionState). lack_in p config z x) (slot_went s.connection c c (gift x (suc n)))
    ∙ ap (λ (b : Bool). lack_in p config (went b (gift x (suc n)) there) x) (eq-eqb c c refl)
    ∙ lack_after p config there x n lacks

-- Supplies one after the other. -----------------------------------------------------------------------------------------------

pub supplies_on : {p : Rule} {window : ℕ} {a b c : List Supply} {s t u : EndpointState} {steps more : List Step} → Supplies p window a s steps b t → Supplies p window b t more c u
    → Supplies p window a s (steps ++ more) c u
supplies_on Rests y = y
supplies_on (Passes supply supplies none rest) y = Passes supply supplies none (supplies_on rest y)
supplies_on (Gives next supply supplies some does rest) y = Gives next supply supplies some does (supplies_on rest y)

-- the call that gives a supply something
pub does_give : (s t : EndpointState) (x : Supply) (n : ℕ) (a : Answer) → CallDone s t (supply_channel x) (call_for x n) a → Does s t (top_up_by x n) a
does_give s t (WindowOf channel) n a d = d
does_give s t (CreditOf channel handle) n a d = d

-- these lead from one list of supplies to another
pub record GaveTo (p : Rule) (window : ℕ) (a : List Supply) (s : EndpointState) (b : List Supply) (t : EndpointState) : Type 0 where
  pub steps : List Step
  pub given : Supplies p window a s steps b t

pub to_itself : (p : Rule) (window : ℕ) (a : List Supply) (s : EndpointState) → GaveTo p window a s a s
to_itself p window a s = record { steps = []; given = Rests }

pub then_to : {p : Rule} {window : ℕ} {a b c : List Supply} {s t u : EndpointState} → GaveTo p window a s b t → GaveTo p window b t c u → GaveTo p window a s c u
then_to x y = record { steps = x.steps ++ y.steps; given = supplies_on x.given y.given }

-- the first supply is given what it lacks
pub gave_first : (p : Rule) (window : ℕ) (x : Supply) (xs : List Supply) (s t : EndpointState) (n : ℕ) → n ≡ lack_by p window s.connection x → (n ≡ 0 → t ≡ s)
    → (0 < n → CallDone s t (supply_channel x) (call_for x n) Accepted) → GaveTo p window (x ∷ xs) s xs t
gave_first p window x xs s t zero is none some = record {
  steps = [];
  given = subst (λ (u : EndpointState). Supplies p window (x ∷ xs) s [] xs u) (sym (none refl)) (Passes x xs (sym is) Rests);
}
gave_first p window x xs s t (suc n) is none some =
    let done = subst (λ (m : ℕ). CallDone s t (supply_channel x) (call_for x m) Accepted) is (some (omega arith)) in
    record {
      steps = record { call = top_up_by x (lack_by p window s.connection x); answer = Accepted } ∷ [];
      given = Gives t x xs (subst (λ (m : ℕ). 0 < m) is (omega arith)) (does_give s t x (lack_by p window s.connection x) Accepted done) Rests;
    }

-- it is refused it
pub first_refused : (p : Rule) (window : ℕ) (a xs : List Supply) (x : Supply) (f : CallFault) (s t u : EndpointState) (n : ℕ) → n ≡ lack_by p window t.connection x → 0 < n
    → CallDone t u (supply_channel x) (call_for x n) (Refused f) → GaveTo p window a s (x ∷ xs) t → GaveSome p window a f s u
first_refused p window a xs x f s t u n is some done before = record {
  steps = before.steps;
  supply = x;
  left = xs;
  last = t;
  given = before.given;
  lacks = subst (λ (m : ℕ). 0 < m) is some;
  refused = does_give t u x (lack_by p window t.connection x) (Refused f) (subst (λ (m : ℕ). CallDone t u (supply_channel x) (call_for x m) (Refused f)) is done);
}

-- links that lack nothing are passed
passes_from : (p : Rule) (window : ℕ) (s : EndpointState) (channel n i k : ℕ) → i + k ≤ n → ((h : ℕ) → i ≤ h → h < i + k → lack_by p window s.connection (CreditOf channel h) ≡ 0)
    → Supplies p window (tabulate i (n - i) (λ handle. CreditOf channel handle)) s [] (tabulate (i + k) (n - (i + k)) (λ handle. CreditOf channel handle)) s
passes_from p window s channel n i zero within none =
    let credit = λ (h : ℕ). CreditOf channel h in
    let same : i ≡ i + 0 = omega arith in subst (λ (m : ℕ). Supplies p window (tabulate i (n - i) credit) s [] (tabulate m (n - m) credit) s) same Rests
passes_from p window s channel n i (suc k) within none =
    let credit = λ (h : ℕ). CreditOf channel h in
    let end : i + 1 + k ≡ i + suc k = omega arith in
    let on = subst (λ (m : ℕ). Supplies p window (tabulate (i + 1) (n - (i + 1)) credit) s [] (tabulate m (n - m) credit) s) end
    (passes_from p window s channel n (i + 1) k (omega (arith, within)) (λ h a b. none h (omega (arith, a)) (omega (arith, b)))) in
    subst (λ (l : List Supply). Supplies p window l s [] (tabulate (i + suc k) (n - (i + suc k)) credit) s) (sym (tabulate_step credit i n (omega (arith, within))))
    (Passes (CreditOf channel i) (tabulate (i + 1) (n - (i + 1)) credit) (none i (omega arith) (omega arith)) on)

pub passed_to : (p : Rule) (window : ℕ) (s : EndpointState) (channel n i j : ℕ) → i ≤ j → j ≤ n → ((h : ℕ) → i ≤ h → h < j → lack_by p window s.connection (CreditOf channel h) ≡ 0)
    → GaveTo p window (tabulate i (n - i) (λ handle. CreditOf channel handle)) s (tabulate j (n - j) (λ handle. CreditOf channel handle)) s
passed_to p window s channel n i j few within none =
    let credit = λ (h : ℕ). CreditOf channel h in
    let end : i + (j - i) ≡ j = omega (arith, few) in
    record {
      steps = [];
      given = subst (λ (m : ℕ). Supplies p window (tabulate i (n - i) credit) s [] (tabulate m (n - m) credit) s) end
          (passes_from p window s channel n i (j - i) (omega (arith, few, within)) (λ h a b. none h a (omega (arith, few, b))));
    }

-- A session. ------------------------------------------------------------------------------------------------------------------

-- its window and the links at handles below one lack nothing, and the other links are left
pub record HasCome (p : Rule) (window n channel : ℕ) (s : EndpointState) (i : ℕ) (t : EndpointState) : Type 0 where
  pub lacks_nothing : LacksNothing p window i channel t.connection
  pub gave : GaveTo p window (session_supplies n channel) s (tabulate i (n - i) (λ handle. CreditOf channel handle)) t

-- what a call for one supply left, or no call where it lacked nothing
pub record IsGiven (x : Supply) (n : ℕ) (t u : EndpointState) : Type 0 where
  pub nothing : n ≡ 0 → u ≡ t
  pub given : 0 < n → CallDone t u (supply_channel x) (call_for x n) Accepted

others_kept : (p : Rule) (window : ℕ) (t u : EndpointState) (x : Supply) (n : ℕ) → IsGiven x n t u → (y : Supply) → (y ≡ x → ⊥) → lack_by p window u.connection y ≡ lack_by p window t.connection y
others_kept p window t u x zero given y away = ap (λ (k : EndpointState). lack_by p window k.connection y) (given.nothing refl)
others_kept p window t u x (suc n) given y away = others_left p window t u x (suc n) (given.given (omega arith)) y away

none_left : (p : Rule) (window : ℕ) (t u : EndpointState) (x : Supply) (n : ℕ) → n ≡ lack_by p window t.connection x → IsGiven x n t u → lack_by p window u.connection x ≡ 0
none_left p window t u x zero is given = ap (λ (k : EndpointState). lack_by p window k.connection x) (given.nothing refl) ∙ sym is
none_left p window t u x (suc n) is given = given_all p window t u x (suc n) (omega arith) is (given.given (omega arith))

gave_one : (p : Rule) (window : ℕ) (x : Supply) (xs : List Supply) (t u : EndpointState) (n : ℕ) → n ≡ lack_by p window t.connection x → IsGiven x n t u → GaveTo p window (x ∷ xs) t xs u
gave_one p window x xs t u n is given = gave_first p window x xs t u n is given.nothing given.given

-- the window is given, and links that lack nothing are passed
pub window_come : (p : Rule) (window n channel j k : ℕ) (s t : EndpointState) → k ≡ lack_by p window s.connection (WindowOf channel) → IsGiven (WindowOf channel) k s t → j ≤ n
    → ((h : ℕ) → 0 ≤ h → h < j → lack_by p window t.connection (CreditOf channel h) ≡ 0) → HasCome p window n channel s j t
window_come p window n channel j k s t is given within passed =
    let credit = λ (h : ℕ). CreditOf channel h in
    record {
      lacks_nothing = record { places = none_left p window s t (WindowOf channel) k is given; credit = λ h less. passed h (omega arith) less };
      gave = then_to (gave_one p window (WindowOf channel) (tabulate 0 n credit) s t k is given)
          (subst (λ (l : List Supply). GaveTo p window l t (tabulate j (n - j) credit) t) (sym (tabulate_all credit n)) (passed_to p window t channel n 0 j (omega arith) within passed));
    }

-- a link is given, and links that lack nothing are passed
pub link_come : (p : Rule) (window n channel i j k : ℕ) (s t u : EndpointState) → i < n → k ≡ lack_by p window t.connection (CreditOf channel i) → IsGiven (CreditOf channel i) k t u → i + 1 ≤ j → j ≤ n
    → ((h : ℕ) → i + 1 ≤ h → h < j → lack_by p window u.connection (CreditOf channel h) ≡ 0) → HasCome p window n channel s i t → HasCome p window n channel s j u
link_come p window n channel i j k s t u less is given few within passed before =
    let x = CreditOf channel i in
    let credit = λ (h : ℕ). CreditOf channel h in
    record {
      lacks_nothing = record {
        places = others_kept p window t u x k given (WindowOf channel) (λ e. absurd (grind (arith, e))) ∙ before.lacks_nothing.places;
        credit = λ h low. by h low (nat_lt h i) (nat_eq h i) refl refl;
      };
      gave = then_to (subst (λ (l : List Supply). GaveTo p window (session_supplies n channel) s l t) (tabulate_step credit i n less) before.gave)
          (then_to (gave_one p window x (tabulate (i + 1) (n - (i + 1)) credit) t u k is given) (passed_to p window u channel n (i + 1) j few within passed));
    }
  where
    by : (h : ℕ) → h < j → (a b : Bool) → nat_lt h i ≡ a → nat_eq h i ≡ b → lack_by p window u.connection (CreditOf channel h) ≡ 0
    by h low true b first second =
        let away : CreditOf channel h ≡ CreditOf channel i → ⊥ = λ e. absurd (omega (arith, ltb-true h i first, ap (λ (y : Supply). handle_of y) e)) in
        others_kept p window t u (CreditOf channel i) k given (CreditOf channel h) away ∙ before.lacks_nothing.credit h (ltb-true h i first)
    by h low false true first second =
        ap (λ (m : ℕ). lack_by p window u.connection (CreditOf channel m)) (eqb-true h i second) ∙ none_left p window t u (CreditOf channel i) k is given
    by h low false false first second = passed h (omega (arith, ltb-false h i first, apart second)) low
      where
        apart : nat_eq h i ≡ false → h ≢ i
        apart off same = absurd (true≢false (sym (eq-eqb h i same) ∙ off))

-- a number that is not 0
pub some_of : (n : ℕ) → (n ≡ 0 → ⊥) → 0 < n
some_of zero none = absurd (none refl)
some_of (suc n) none = omega arith

-- The whole session. ----------------------------------------------------------------------------------------------------------

-- if its window is shown it is live
is_live : (f : SessionState → ℕ) (x : Slot SessionState) (shown : Option ℕ) → shown ≡ option_map f (live_in x) → is_none shown ≡ false → (u : SessionState) × (x ≡ Live u)
is_live f Free shown is some = absurd (true≢false (sym (ap (λ (o : Option ℕ). is_none o) is) ∙ some))
is_live f (Live u) shown is some = (u, refl)
is_live f Awaits shown is some = absurd (true≢false (sym (ap (λ (o : Option ℕ). is_none o) is) ∙ some))

-- it was given all that it lacks
pub gave_all : (f : SessionState → ℕ) (x : Slot SessionState) (shown : Option ℕ) (p : Rule) (window n channel i : ℕ) (s t : EndpointState) → shown ≡ option_map f (live_in x) → is_none shown ≡ false → n ≤ i
    → HasCome p window n channel s i t → GaveIn x (Ok tt) p window (session_supplies n channel) s t
gave_all f x shown p window n channel i s t is some all come =
    let live = is_live f x shown is some in
    let to = subst (λ (l : List Supply). GaveTo p window (session_supplies n channel) s l t) (tabulate_none (λ (h : ℕ). CreditOf channel h) i n all) come.gave in
    subst (λ (y : Slot SessionState). GaveIn y (Ok tt) p window (session_supplies n channel) s t) (sym live.1) (record { steps = to.steps; given = to.given })

-- or a part of it, and was refused the next
pub gave_some : (f : SessionState → ℕ) (x : Slot SessionState) (shown : Option ℕ) (r : Result (Unit {0}) CallFault) (e k : CallFault) (p : Rule) (window : ℕ) (a : List Supply) (s t : EndpointState)
    → shown ≡ option_map f (live_in x) → is_none shown ≡ false → r ≡ Err e → e ≡ k → GaveSome p window a k s t → GaveIn x r p window a s t
gave_some f x shown r e k p window a s t is some err same gave =
    let live = is_live f x shown is some in
    subst (λ (y : Slot SessionState). GaveIn y r p window a s t) (sym live.1)
    (subst (λ (q : Result (Unit {0}) CallFault). Gave q p window a s t) (sym err) (subst (λ (d : CallFault). GaveSome p window a d s t) (sym same) gave))
