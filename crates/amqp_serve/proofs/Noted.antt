-- What a step recorded is what it tells of.
use Rattle.std.proofs.Common.{◌≡◌, ℕ, Bool, true, false, List, [], ◌∷◌, ◌++◌, Option, Some, None, Result, Ok, Err, arith, refl, sym, ap, subst, ◌∙◌, append-nil}
use Rattle.std.specs.List.{flat_map}
use Rattle.amqp_link.specs.Links.{Delivery, first_ready}
use Rattle.amqp_session.specs.Calls as session
use Rattle.amqp_session.specs.declared.slot.Slot.{Slot}
use Rattle.amqp_session.specs.declared.slot.Slot.TheVariants.{Free, Live, Waits}
use Rattle.amqp_session.specs.Sessions.{LiveLink, SessionState, slot_at}
use Rattle.amqp_endpoint.specs.declared.event.Event.TheVariants as event
use Rattle.amqp_endpoint.specs.declared.event.Outcome.{Outcome}
use Rattle.amqp_endpoint.specs.declared.event.Outcome.TheVariants as outcome
use Rattle.amqp_endpoint.specs.declared.fault.CallFault.{CallFault}
use Rattle.amqp_endpoint.specs.Configs.{Configured}
use Rattle.amqp_endpoint.specs.Connections as connection
use Rattle.amqp_endpoint.specs.Runs.{InSession, Answer, Fed, Accepted, Dropped, Named, Handed, HandedUp, Refused, MovedOut, Holds, Ended, handed, link_handed, session_answer, accepted_answer, CallDone, Does}
use Rattle.amqp_endpoint.specs.Steps.{EndpointState}
use Rattle.amqp_serve.specs.declared.rules.Rule.{Rule}
use Rattle.amqp_serve.specs.declared.steps.Received.{Received}
use Rattle.amqp_serve.specs.declared.steps.Receipt.{Receipt}
use Rattle.amqp_serve.specs.declared.steps.Receipt.TheVariants as receipt
use Rattle.amqp_serve.specs.declared.supplies.Supply.{Supply}
use Rattle.amqp_serve.specs.declared.supplies.Supply.TheVariants.{WindowOf, CreditOf}
use Rattle.amqp_serve.specs.Deeds.{outcomes_by, received_as, takes_by, takes_of, message_in, IsNoted, IsNotedAs}
use Rattle.amqp_serve.specs.Serving.{Stand, ToppingUp, Receiving, Settling, Starved, Over, stand_told, stand_handed, stand_taken, lack, top_up_by, Step, Serves, Rests, MovesOut, Feeds, Takes, Settles, TopsUp, Passes, Finishes, record_of, recorded_by, recorded}

abbrev tells : List Step → List Outcome
tells steps = flat_map (λ x. outcomes_by x.answer) steps

abbrev takes : List Step → List (Result (Received × Bool) CallFault)
takes steps = flat_map (λ x. takes_by x.call x.answer) steps

-- A call is told by no feed. ------------------------------------------------------------------------------------------

link_quiet : (slot : Slot LiveLink) → outcomes_by (link_handed slot) ≡ []
link_quiet Free = refl
link_quiet Waits = refl
link_quiet (Live l) = by (first_ready l.link) refl
  where
    by : (o : Option Delivery) → first_ready l.link ≡ o → outcomes_by (handed (first_ready l.link)) ≡ []
    by None e = rw e refl
    by (Some d) e = rw e refl

session_quiet : (s : SessionState) (c : session.Call) → outcomes_by (session_answer s c) ≡ []
session_quiet s (session.Take handle) = link_quiet (slot_at s handle)
session_quiet s (session.Widen n) = refl
session_quiet s (session.Grant handle n) = refl
session_quiet s (session.Drain handle) = refl
session_quiet s (session.Settle id fate) = refl
session_quiet s (session.SettleRange first last fate) = refl
session_quiet s (session.Detach handle) = refl
session_quiet s (session.Refuse handle r) = refl
session_quiet s (session.SettleWith id r) = refl
session_quiet s (session.SettleRangeWith first last r) = refl

accepted_quiet : (slot : Slot SessionState) (c : session.Call) → outcomes_by (accepted_answer slot c) ≡ []
accepted_quiet Free c = refl
accepted_quiet Waits c = refl
accepted_quiet (Live s) c = session_quiet s c

call_quiet : (s t : EndpointState) (channel : ℕ) (c : session.Call) (answer : Answer) → CallDone s t channel c answer → outcomes_by answer ≡ []
call_quiet s t channel c (Fed used told) done = ap (λ (a : Answer). outcomes_by a) done.2 ∙ accepted_quiet (connection.slot_at s.connection channel) c
call_quiet s t channel c Accepted done = refl
call_quiet s t channel c (Dropped n) done = refl
call_quiet s t channel c (Named n) done = refl
call_quiet s t channel c (HandedUp d) done = refl
call_quiet s t channel c (Refused f) done = refl
call_quiet s t channel c (MovedOut bytes) done = refl
call_quiet s t channel c (Holds n) done = refl
call_quiet s t channel c (Ended end) done = refl

top_quiet : (s t : EndpointState) (supply : Supply) (n : ℕ) (answer : Answer) → Does s t (top_up_by supply n) answer →
    (outcomes_by answer ≡ []) × (recorded_by (top_up_by supply n) answer ≡ []) × (takes_by (top_up_by supply n) answer ≡ [])
top_quiet s t (WindowOf channel) n answer done = (call_quiet s t channel (session.Widen n) answer done, refl, refl)
top_quiet s t (CreditOf channel handle) n answer done = (call_quiet s t channel (session.Grant handle n) answer done, refl, refl)

-- what comes after nothing
after_none : {X : Type 0} {xs ys zs : List X} → xs ++ ys ≡ zs → xs ≡ [] → ys ≡ zs
after_none {X} {xs} {ys} {zs} is none = ap (λ (l : List X). l ++ ys) (sym none) ∙ is

both_none : {X : Type 0} {xs ys : List X} → xs ≡ [] → ys ≡ [] → xs ++ ys ≡ []
both_none {X} {xs} {ys} a b = ap (λ (l : List X). l ++ ys) a ∙ b

-- Until the next piece is fed. ----------------------------------------------------------------------------------------

-- a message may be taken there
abbrev IsQuiet : Stand → Type 0
IsQuiet (Receiving channel handle) = ⊥
IsQuiet (ToppingUp supplies) = Unit {0}
IsQuiet (Settling channel id) = Unit {0}
IsQuiet Starved = Unit {0}
IsQuiet Over = Unit {0}

quiet_handed : (k : Configured) (channel : ℕ) (d : Handed) → IsQuiet (stand_handed k channel d)
quiet_handed k channel d = by d.settled refl
  where
    by : (b : Bool) → d.settled ≡ b → IsQuiet (stand_handed k channel d)
    by true is = rw is tt
    by false is = rw is tt

quiet : {p : Rule} {a b : Stand} {s t : EndpointState} {xs : List Step} → Serves p a s xs b t → IsQuiet a → tells xs ≡ [] → (recorded xs ≡ []) × (takes xs ≡ [])
quiet Rests still none = (refl, refl)
quiet (MovesOut next room bytes does x) still none = quiet x still none
quiet (Feeds next piece used told silent range does x) still none = absurd (grind (arith, none))
quiet (Takes next channel handle answer does x) still none = absurd still
quiet (Settles {p} {b} {s} {last} {steps} next channel id answer silent small does x) still none =
    quiet x tt (after_none none (call_quiet s next channel (session.Settle id p.outcome) answer does))
quiet (TopsUp {p} {b} {s} {last} {steps} next supply supplies answer silent lacks does x) still none =
    let n = lack p s.connection supply in
    let top = top_quiet s next supply n answer does in
    let rest = quiet x tt (after_none none top.0) in
    (both_none top.1 rest.0, both_none top.2 rest.1)
quiet (Passes supply supplies lacks x) still none = quiet x still none
quiet (Finishes next end silent does x) still none = quiet x tt none

-- what a take gave
data Gave (channel handle : ℕ) (noted : List ℕ) (taken : List (Result (Received × Bool) CallFault)) : Type 0 where
  Nothing : noted ≡ [] → taken ≡ [] → Gave channel handle noted taken
  Refusal : (f : CallFault) → noted ≡ [] → taken ≡ Err f ∷ [] → Gave channel handle noted taken
  Message : (d : Handed) → noted ≡ record_of channel handle d → taken ≡ Ok (received_as d, d.settled) ∷ [] → Gave channel handle noted taken

take_gave : {p : Rule} {b : Stand} {next last : EndpointState} {steps : List Step} (channel handle : ℕ) (answer : Answer) → Serves p (stand_taken next.connection.config channel answer) next steps b last → tells steps ≡ [] →
    Gave channel handle (recorded_by (InSession channel (session.Take handle)) answer ++ recorded steps) (takes_by (InSession channel (session.Take handle)) answer ++ takes steps)
take_gave {p} {b} {next} {last} {steps} channel handle (HandedUp d) x none =
    let rest = quiet x (quiet_handed next.connection.config channel d) none in
    Message d (ap (λ (l : List ℕ). record_of channel handle d ++ l) rest.0 ∙ append-nil (record_of channel handle d)) (ap (λ (l : List (Result (Received × Bool) CallFault)). Ok (received_as d, d.settled) ∷ l) rest.1)
take_gave channel handle (Refused f) x none = let rest = quiet x tt none in Refusal f rest.0 (ap (λ (l : List (Result (Received × Bool) CallFault)). Err f ∷ l) rest.1)
take_gave channel handle answer x none = let rest = quiet x tt none in Nothing rest.0 rest.1

receives : {p : Rule} {b : Stand} {s t : EndpointState} {xs : List Step} (channel handle : ℕ) → Serves p (Receiving channel handle) s xs b t → tells xs ≡ [] → Gave channel handle (recorded xs) (takes xs)
receives channel handle Rests none = Nothing refl refl
receives channel handle (MovesOut next room bytes does x) none = receives channel handle x none
receives channel handle (Takes {p} {b} {s} {last} {steps} next c h answer does x) none = take_gave channel handle answer x (after_none none (call_quiet s next channel (session.Take handle) answer does))

-- What a receipt tells of. --------------------------------------------------------------------------------------------

abbrev first_received : List (Result (Received × Bool) CallFault) → Option Received
first_received (Ok x ∷ rest) = Some x.0
first_received rest = None

received_of : (r : Receipt) → first_received (takes_of r) ≡ message_in r
received_of receipt.Nothing = refl
received_of (receipt.Refused f) = refl
received_of (receipt.Settled m) = refl
received_of (receipt.Told m) = refl
received_of (receipt.Untold m f) = refl

told_of : (r : Receipt) (taken : List (Result (Received × Bool) CallFault)) → taken ≡ takes_of r → message_in r ≡ first_received taken
told_of r taken is = sym (received_of r) ∙ ap (λ (l : List (Result (Received × Bool) CallFault)). first_received l) (sym is)

gave_noted : (channel handle : ℕ) (r : Receipt) (noted : List ℕ) (taken : List (Result (Received × Bool) CallFault)) → Gave channel handle noted taken → taken ≡ takes_of r → IsNoted (message_in r) channel handle noted
gave_noted channel handle r noted taken gave same = subst (λ (o : Option Received). IsNoted o channel handle noted) (sym (told_of r taken same)) (by gave)
  where
    by : Gave channel handle noted taken → IsNoted (first_received taken) channel handle noted
    by (Nothing none is) = subst (λ (l : List (Result (Received × Bool) CallFault)). IsNoted (first_received l) channel handle noted) (sym is) none
    by (Refusal f none is) = subst (λ (l : List (Result (Received × Bool) CallFault)). IsNoted (first_received l) channel handle noted) (sym is) none
    by (Message d all is) = subst (λ (l : List (Result (Received × Bool) CallFault)). IsNoted (first_received l) channel handle noted) (sym is) (d, refl, all)

fed_noted : {p : Rule} {b : Stand} {next last : EndpointState} {steps : List Step} (k : Configured) (told : Outcome) (r : Receipt) → Serves p (stand_told k told) next steps b last → tells steps ≡ [] → takes steps ≡ takes_of r →
    IsNotedAs told r (recorded steps)
fed_noted {p} {b} {next} {last} {steps} k (outcome.Event (event.Ready channel handle)) r x none same = gave_noted channel handle r (recorded steps) (takes steps) (receives channel handle x none) same
fed_noted {p} {b} {next} {last} {steps} k (outcome.Event e) r x none same = let rest = quiet x tt none in (told_of r (takes steps) same ∙ ap (λ (l : List (Result (Received × Bool) CallFault)). first_received l) rest.1, rest.0)
fed_noted {p} {b} {next} {last} {steps} k told r x none same = let rest = quiet x tt none in (told_of r (takes steps) same ∙ ap (λ (l : List (Result (Received × Bool) CallFault)). first_received l) rest.1, rest.0)

-- A step, which told of one feed. -------------------------------------------------------------------------------------

over_quiet : {p : Rule} {b : Stand} {s t : EndpointState} {xs : List Step} → Serves p Over s xs b t → tells xs ≡ []
over_quiet Rests = refl
over_quiet (MovesOut next room bytes does x) = over_quiet x

pub step_noted : {p : Rule} {b : Stand} {s t : EndpointState} {xs : List Step} {supplies : List Supply} (told : Outcome) (r : Receipt) → Serves p (ToppingUp supplies) s xs b t → told ∷ [] ≡ tells xs → takes xs ≡ takes_of r →
    IsNotedAs told r (recorded xs)
step_noted told r Rests one same = absurd (grind (arith, one))
step_noted told r (MovesOut next room bytes does x) one same = step_noted told r x one same
step_noted told r (Feeds {p} {b} {s} {last} {steps} next piece used x silent range does serves) one same =
    let is : told ≡ x = grind (arith, one) in
    let none : tells steps ≡ [] = grind (arith, one) in
    subst (λ (o : Outcome). IsNotedAs o r (recorded steps)) (sym is) (fed_noted next.connection.config x r serves none same)
step_noted told r (TopsUp {p} {b} {s} {last} {steps} next supply supplies answer silent lacks does x) one same =
    let n = lack p s.connection supply in
    let top = top_quiet s next supply n answer does in
    subst (λ (l : List ℕ). IsNotedAs told r l) (sym (ap (λ (l : List ℕ). l ++ recorded steps) top.1))
    (step_noted told r x (sym (after_none (sym one) top.0)) (after_none same top.2))
step_noted told r (Passes supply supplies lacks x) one same = step_noted told r x one same
step_noted told r (Finishes next end silent does x) one same = let none = over_quiet x in absurd (grind (arith, one, none))
